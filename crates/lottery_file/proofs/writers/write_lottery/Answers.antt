use Rattle.lottery_file.proofs.Buffering.{puts_written}
use Rattle.lottery_file.proofs.writers.write_lottery.Goals as goal

pub returns-clause-bytes : goal.returns-clause-bytes
returns-clause-bytes g c = puts_written _ _ _ c.new-buffer.ensures.items c.deref.ensures.value c.in_ok-put_lottery.ensures c.write.ensures.bytes
