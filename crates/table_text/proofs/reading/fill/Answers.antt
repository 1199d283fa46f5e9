use Rattle.std.proofs.Common.{sym}
use Rattle.std.proofs.Common.{arith}
use Rattle.csv.proofs.RecordFacts.{field-there}
use Rattle.table_text.proofs.RowFacts.{take-step}
use Rattle.table_text.proofs.reading.fill.Goals as goal

pub unreachable-requires : goal.unreachable-requires
unreachable-requires c = field-there _ c.loop-i.i (omega (arith, c.count_kept-i-end.ensures.within, c.loop-i-test.true)) (rw c.in_default.is at (sym c.get.ensures.value))

pub loop-i-preserved : goal.loop-i-preserved
loop-i-preserved c = rw (c.in_ok-push.ensures.ok, c.loop-i.invariant) (take-step _ _ _ c.in-Some.ensures.value)
