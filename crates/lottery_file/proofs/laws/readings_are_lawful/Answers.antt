use Rattle.lottery_file.proofs.Sound.{reads-lawful}
use Rattle.lottery_file.proofs.laws.readings_are_lawful.Goals as goal

pub returns : goal.returns
returns c = reads-lawful
