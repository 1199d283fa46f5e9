use Rattle.std.proofs.Common.{refl}
use Rattle.alloc_cli.proofs.PartsLemmas.{writes-after, writes-refused}
use Rattle.alloc_cli.proofs.parts.write_negative.Goals as goal

pub returns-in_err-put : goal.returns-in_err-put
returns-in_err-put g c = writes-refused g.K.Sink _ c.in_err-put.ensures c.from_residual.ensures.1 refl

pub returns : goal.returns
returns g c = writes-after g.K.Sink c.in_ok-put.ensures c.write_number.ensures refl
