-- Both parts are lemmas.
use Rattle.eating_laws.proofs.Unique.{proportional, same_table}
use Rattle.eating_laws.proofs.table_laws.table_is_unique.Goals as goal

pub returns : goal.returns
returns c market D D' e e' h h' = (λ j l. proportional market D D' e e' h h' j, same_table market D D' e e' h h')
