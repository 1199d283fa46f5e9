use Rattle.std.proofs.Common.{◌≡◌, ◌+◌, drop}
use Rattle.alloc_cli.specs.Load.{bytes_of}
use Rattle.alloc_cli.specs.Outcomes.{too_long_from}
use Rattle.alloc_cli.proofs.answer.check_lengths.Given as goal

-- what is left gives what the whole gives
abbrev pub invariant-loop-i : goal.invariant-loop-i
invariant-loop-i l = too_long_from (l.i + 1) (bytes_of (drop l.i l.given)) ≡ too_long_from 1 (bytes_of l.given)
