use Rattle.alloc_cli.proofs.PartsLemmas.{negative_text, other_text}
use Rattle.alloc_cli.proofs.parts.write_signed.Goals as goal

pub returns-then-number-lt0 : goal.returns-then-number-lt0
returns-then-number-lt0 g c = rw (← negative_text c.args.number _ c.ranges.number c.if-number-lt0.true c.unsigned_abs-size.ensures.value) c.write_negative.ensures

pub returns-else-number-lt0 : goal.returns-else-number-lt0
returns-else-number-lt0 g c = rw (← other_text c.args.number _ c.ranges.number c.if-number-lt0.false c.unsigned_abs-size.ensures.value) c.write_number.ensures
