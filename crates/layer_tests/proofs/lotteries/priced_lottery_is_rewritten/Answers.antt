-- A lawful lottery can be written.
use Rattle.lottery_file.specs.Lotteries.{lottery_value}
use Rattle.lottery_file.proofs.Shapes.{lawful-shapes}
use Rattle.layer_tests.proofs.lotteries.priced_lottery_is_rewritten.Goals as goal

pub write_lottery-requires : goal.write_lottery-requires
write_lottery-requires g c = lawful-shapes (lottery_value c.in_ok-lottery.lottery) c.in_ok-lottery.ensures.lawful
