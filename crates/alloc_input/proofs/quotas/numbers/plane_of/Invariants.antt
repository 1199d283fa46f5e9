use Rattle.std.proofs.Common.{take}
use Rattle.alloc_input.specs.Numbers.{AreSetIn}
use Rattle.alloc_input.proofs.quotas.numbers.plane_of.Given as goal

abbrev pub invariant-loop-number : goal.invariant-loop-number
invariant-loop-number l = AreSetIn l.below (take l.number-index l.numbers) l.plane
