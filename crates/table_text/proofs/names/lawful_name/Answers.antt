use Rattle.std.proofs.Common.{◌∙◌, arith}
use Rattle.table_text.proofs.NameFacts.{name-by-chars, no-name}
use Rattle.table_text.proofs.names.lawful_name.Goals as goal

pub returns-in-Ok : goal.returns-in-Ok
returns-in-Ok c = (rw (c.in-Ok.ensures.cases.0) at c.is_plain_text.ensures) ∙ name-by-chars _ c.if-is_empty.ensures (omega arith) c.if-is_star.ensures c.in-Ok.ensures.cases.1

pub returns-in-Err : goal.returns-in-Err
returns-in-Err c = no-name _ c.if-is_empty.ensures (omega arith) c.if-is_star.ensures c.in-Err.ensures.cases.0
