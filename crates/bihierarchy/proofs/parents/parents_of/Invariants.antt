use Rattle.std.proofs.Common.{◌≡◌, ℕ, ◌+◌, ◌-◌, ◌<◌, length, get_or, None}
use Rattle.std.specs.Prelude.{MatchOption}
use Rattle.definitions.specs.Sets.{IsSet}
use Rattle.definitions.specs.Hierarchies.{HasNoParent, IsParent}
use Rattle.bihierarchy.proofs.parents.parents_of.Given as goal

abbrev pub invariant-loop-set : goal.invariant-loop-set
invariant-loop-set l = record {
  many : length l.parents.items + 1 ≡ l.set;
  right : (s : ℕ) → IsSet l.family s → s < l.set → MatchOption (get_or l.parents.items (s - 1) None) (HasNoParent l.family s) (IsParent l.family s);
}
