use Rattle.std.proofs.Common.{◌≡◌, map, take}
use Rattle.definitions.specs.Values.{list_at}
use Rattle.eating.specs.Holders.{made_holders}
use Rattle.eating.proofs.plan.line_of.Given as goal

abbrev pub invariant-loop-place : goal.invariant-loop-place
invariant-loop-place l = record {
  columns : l.columns.items ≡ take l.place (list_at l.problem l.agent);
  holders : map (λ h. h.items) l.holders.items ≡ made_holders l.problem l.trees l.agent l.capped l.caps l.place;
}
