use Rattle.definitions.specs.Hierarchies.{IsAbove}
use Rattle.bihierarchy.specs.Tables.{IsLeastOf}
use Rattle.bihierarchy.proofs.parents.parent_of.Given as goal

abbrev pub invariant-loop-upper : goal.invariant-loop-upper
invariant-loop-upper l = IsLeastOf l.family (IsAbove l.family l.set) l.upper l.parent
