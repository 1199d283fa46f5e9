use Rattle.table_text.proofs.TextFacts.{IsTextOf-unique}
use Rattle.table_text.proofs.laws.text_reads_once.Goals as goal

pub returns : goal.returns
returns c = IsTextOf-unique
