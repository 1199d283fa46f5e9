use Rattle.std.proofs.Common.{◌≡◌, ◌-◌, length}
use Rattle.definitions.specs.Sets.{prefix_sum, units_of}
use Rattle.definitions.specs.Values.{list_at}
use Rattle.definitions.specs.Firsts.{first_in}
use Rattle.fairness_core.specs.Envy.{envy_look, first_envy}
use Rattle.fairness_core.proofs.point.envy_point.Given as goal

-- both are the sums over the places so far, and none of these is an envy point
abbrev pub invariant-loop-place : goal.invariant-loop-place
invariant-loop-place l = record {
  own : l.own ≡ prefix_sum (units_of l.x) l.from (list_at l.problem l.from) l.place;
  other : l.other ≡ prefix_sum (units_of l.x) l.to (list_at l.problem l.from) l.place;
  none : first_in (envy_look l.problem (units_of l.x) l.from l.to) l.place (length (list_at l.problem l.from) - l.place) ≡ first_envy l.problem (units_of l.x) l.from l.to;
}
