use Rattle.table_text.proofs.TextFacts.{IsTextOf-rows_text}
use Rattle.table_text.proofs.laws.written_text_reads_back.Goals as goal

pub returns : goal.returns
returns c = IsTextOf-rows_text
