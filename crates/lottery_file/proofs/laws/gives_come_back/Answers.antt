use Rattle.lottery_file.proofs.GivesBack.{gives-back}
use Rattle.lottery_file.proofs.laws.gives_come_back.Goals as goal

pub returns : goal.returns
returns c = gives-back
