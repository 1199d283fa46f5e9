use Rattle.lottery_file.proofs.PartsWritten.{parts-are-text}
use Rattle.lottery_file.proofs.laws.parts_write_the_text.Goals as goal

pub returns : goal.returns
returns c = parts-are-text
