use Rattle.std.proofs.Common.{◌≡◌, ℕ, ◌-◌, ◌++◌, length, map, Some}
use Rattle.definitions.specs.Trees.{chain_of}
use Rattle.definitions.specs.Sets.{IsSet}
use Rattle.eating.specs.Holders.{chain_at}
use Rattle.eating.proofs.plan.stated_holders.Given as goal

abbrev pub invariant-loop-next : goal.invariant-loop-next
invariant-loop-next l = record {
  known : (s : ℕ) → l.next ≡ Some s → IsSet l.problem.family s;
  rest : l.holders.items ++ map (λ s. s - 1) (chain_of l.trees l.next) ≡ map (λ s. s - 1) (chain_at l.problem l.trees l.agent l.place);
}

abbrev pub decreases-loop-next : goal.decreases-loop-next
decreases-loop-next l = length (chain_of l.trees l.next)
