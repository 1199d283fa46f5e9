use Rattle.lottery_file.proofs.Shapes.{lawful-shapes}
use Rattle.lottery_file.proofs.laws.lawful_shapes_agree.Goals as goal

pub returns : goal.returns
returns c = lawful-shapes
