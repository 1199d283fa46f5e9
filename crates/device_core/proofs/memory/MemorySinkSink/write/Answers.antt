use Rattle.std.proofs.Common.{arith, ap, Some}
use Rattle.device_core.proofs.Fronts.{front-take}
use Rattle.device_core.proofs.memory.MemorySinkSink.write.Goals as goal

pub returns-then-is_some-clause-bytes : goal.returns-then-is_some-clause-bytes
returns-then-is_some-clause-bytes c = (_, front-take c.min-end.result c.args.piece.now, ap Some (grind (arith, c.extend_from_slice.ensures.items, c.if-is_err.ensures.negation)))
