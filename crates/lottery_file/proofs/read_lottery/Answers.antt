use Rattle.std.proofs.Common.{◌∙◌, sym, ap, subst}
use Rattle.definitions.specs.Sets.{IsScaledMatrix}
use Rattle.lottery_file.specs.Said.{Before}
use Rattle.lottery_file.specs.Lotteries.{lottery_of, IsLawfulLottery}
use Rattle.lottery_file.proofs.Sound.{reads-lawful}
use Rattle.lottery_file.proofs.read_lottery.Goals as goal

pub finished-requires : goal.finished-requires
finished-requires c =
    let reads = c.in_ok-state.ensures in
    subst (λ (b : Before). IsScaledMatrix (lottery_of b).shares) (sym reads.1) ((reads-lawful c.new-reader.result reads.0).lottery.shares)

pub returns-clause-lawful : goal.returns-clause-lawful
returns-clause-lawful c =
    let reads = c.in_ok-state.ensures in
    subst IsLawfulLottery (sym (c.finished.ensures ∙ ap lottery_of reads.1)) (reads-lawful c.new-reader.result reads.0)
