use Rattle.lottery_file.proofs.Shapes.{splits-lawful}
use Rattle.lottery_file.proofs.laws.splits_are_lawful.Goals as goal

pub returns : goal.returns
returns c = splits-lawful
