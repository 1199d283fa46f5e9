-- The numbers of the faults of a lottery.
use Rattle.std.specs.Prelude.{ℕ}
use Rattle.lottery_file.specs.declared.faults.LotteryKind.{LotteryKind}
use Rattle.lottery_file.specs.declared.faults.LotteryKind.TheVariants as kind

-- the number by which a fault is told
abbrev pub kind_number : LotteryKind → ℕ
kind_number kind.NotUtf8 = 1
kind_number kind.WrongOrder = 2
kind_number kind.WrongLength = 3
kind_number kind.BadNumber = 4
kind_number kind.UnknownName = 5
kind_number kind.WeightsDontAdd = 6
kind_number kind.CutOff = 7
kind_number kind.OverLimit = 8
kind_number kind.UnknownVersion = 9
kind_number kind.BadName = 10
