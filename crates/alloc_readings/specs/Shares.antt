-- What a text reads as shares, and what these are in units.
use Rattle.std.specs.Prelude.{◌≡◌, ℕ, List, Result, Ok, Err}
use Rattle.alloc_input.specs.Matrices.{MatrixHasFault}
use Rattle.alloc_input.specs.Once.{ReadsAsLawful}
use Rattle.alloc_input.specs.declared.faults.InputFault.{InputFault}
use Rattle.definitions.specs.Scaling.{IsScaled}
use Rattle.definitions.specs.Sets.{ScaledValue, IsScaledMatrix}
use Rattle.definitions.specs.Values.{SharesValue}
use Rattle.scaled_matrix.specs.Scaling.{IsScaleFault}
use Rattle.scaled_matrix.specs.declared.scaling.ScaleFault.{ScaleFault}
use Rattle.scaled_matrix.specs.declared.scaling.ScaleFault.TheVariants as scaling

-- a text reads as these shares, each in lowest terms, or it has this first fault
abbrev pub MatrixTextReads : List ℕ → Result SharesValue InputFault → Type 0
MatrixTextReads bytes (Ok given) = ReadsAsLawful bytes given
MatrixTextReads bytes (Err fault) =
    (fault.file ≡ 1) × MatrixHasFault bytes fault.record_no fault.kind

-- shares are these units over their least common denominator, or this is the first entry at which
-- that passes 2^116, or else at which the shares pass 1,000
abbrev pub ScalesOrNot : SharesValue → Result ScaledValue ScaleFault → Type 0
ScalesOrNot given (Ok x) = IsScaled given x × IsScaledMatrix x
ScalesOrNot given (Err scaling.NoMemory) = ⊥
ScalesOrNot given (Err fault) = IsScaleFault given fault
