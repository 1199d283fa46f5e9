use Rattle.std.proofs.Common.{take}
use Rattle.alloc_input.specs.Numbers.{AddsNumbers}
use Rattle.alloc_input.proofs.quotas.numbers.NumberSet.add.Given as goal

abbrev pub invariant-loop-number : goal.invariant-loop-number
invariant-loop-number l = AddsNumbers l.below (take l.number-index l.numbers) l.fn.self l.self
