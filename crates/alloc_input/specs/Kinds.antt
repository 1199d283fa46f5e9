-- The numbers of the kinds of faults.
use Rattle.std.specs.Prelude.{ℕ}
use Rattle.alloc_input.specs.declared.faults.InputKind.{InputKind}
use Rattle.alloc_input.specs.declared.faults.InputKind.TheVariants as kind

-- the number by which a fault is told
abbrev pub kind_number : InputKind → ℕ
kind_number kind.NotUtf8 = 1
kind_number kind.BadName = 2
kind_number kind.NoHeader = 3
kind_number kind.RepeatedAgent = 4
kind_number kind.UnknownObject = 5
kind_number kind.RepeatedChoice = 6
kind_number kind.NullNotLast = 7
kind_number kind.UnknownKind = 8
kind_number kind.WrongLength = 9
kind_number kind.BadNumber = 10
kind_number kind.RepeatedName = 11
kind_number kind.UnknownName = 12
kind_number kind.NoneInSet = 13
kind_number kind.FloorInSolve = 14
kind_number kind.SideInSolve = 15
kind_number kind.FloorAboveCeiling = 16
kind_number kind.OverLimit = 17
kind_number kind.NoAgents = 18
kind_number kind.RowInSolve = 19
