-- What a text reads as a lottery.
use Rattle.std.specs.Prelude.{ℕ, List, Result, Ok, Err}
use Rattle.definitions.specs.Lotteries.{LotteryValue}
use Rattle.lottery_file.specs.Lotteries.{TextReadsAs, TextHasFault}
use Rattle.lottery_file.specs.declared.faults.LotteryFault.{LotteryFault}

-- a text reads as a lottery, or it has this first fault
abbrev pub LotteryReads : List ℕ → Result LotteryValue LotteryFault → Type 0
LotteryReads bytes (Ok l) = TextReadsAs bytes l
LotteryReads bytes (Err fault) = TextHasFault bytes fault.record_no fault.kind
