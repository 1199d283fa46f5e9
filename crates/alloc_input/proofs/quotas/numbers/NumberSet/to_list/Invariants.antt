use Rattle.std.proofs.Common.{◌≡◌, ◌++◌}
use Rattle.alloc_input.proofs.quotas.numbers.NumberSet.to_list.Given as goal

abbrev pub invariant-loop-number : goal.invariant-loop-number
invariant-loop-number l = l.list.items ++ l.number-iterator ≡ l.self
