-- The numbers of the faults of a pact.
use Rattle.std.specs.Prelude.{ℕ}
use Rattle.seed_pact.specs.declared.faults.PactKind.{PactKind}
use Rattle.seed_pact.specs.declared.faults.PactKind.TheVariants as kind

-- the number by which a fault is told
abbrev pub kind_number : PactKind → ℕ
kind_number kind.NotUtf8 = 1
kind_number kind.WrongOrder = 2
kind_number kind.WrongLength = 3
kind_number kind.BadName = 4
kind_number kind.RepeatedName = 5
kind_number kind.BadHex = 6
kind_number kind.UnknownName = 7
kind_number kind.RepeatedReveal = 8
kind_number kind.Mismatch = 9
kind_number kind.Missing = 10
kind_number kind.OverLimit = 11
kind_number kind.UnknownVersion = 12
