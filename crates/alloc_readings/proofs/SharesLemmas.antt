-- A text is one matrix in lowest terms, and its shares scale to one matrix of units, or have one first entry at fault.
use Rattle.std.proofs.Common.{◌≡◌, ℕ, List, Result, Ok, Err, ap, inl, inr, subst}
use Rattle.alloc_input.specs.declared.faults.InputFault.{InputFault}
use Rattle.alloc_input.proofs.OneMatrix.{matrix-once}
use Rattle.alloc_readings.specs.Shares.{MatrixTextReads, ScalesOrNot}
use Rattle.definitions.specs.Sets.{ScaledValue}
use Rattle.definitions.specs.Values.{SharesValue}
use Rattle.scaled_matrix.proofs.OneAnswer.{one_answer}
use Rattle.scaled_matrix.specs.Entries.{IsShares}
use Rattle.scaled_matrix.specs.Scaling.{IsScaleAnswer}
use Rattle.scaled_matrix.specs.declared.scaling.ScaleFault.{ScaleFault}
use Rattle.scaled_matrix.specs.declared.scaling.ScaleFault.TheVariants as scaling

pub one_matrix : (bytes : List ℕ) (r s : Result SharesValue InputFault) → MatrixTextReads bytes r → MatrixTextReads bytes s → r ≡ s
one_matrix bytes (Ok m) (Ok n) h k = ap Ok ((matrix-once bytes).one_value m n h k)
one_matrix bytes (Ok m) (Err f) h k = absurd ((matrix-once bytes).never_both m f h k)
one_matrix bytes (Err f) (Ok m) h k = absurd ((matrix-once bytes).never_both m f k h)
one_matrix bytes (Err f) (Err g) h k = ap Err ((matrix-once bytes).one_fault f g h k)

scale_answer : (given : SharesValue) (r : Result ScaledValue ScaleFault) → ScalesOrNot given r → IsScaleAnswer given r
scale_answer given (Ok x) h = h
scale_answer given (Err scaling.NoMemory) h = absurd h
scale_answer given (Err fault) h = h

remembered : (given : SharesValue) (r : Result ScaledValue ScaleFault) → r ≡ Err scaling.NoMemory → ScalesOrNot given r → ⊥
remembered given r e h = subst (ScalesOrNot given) e h

pub one_scale : (given : SharesValue) → IsShares given → (r s : Result ScaledValue ScaleFault) → ScalesOrNot given r → ScalesOrNot given s → r ≡ s
one_scale given lawful r s h k = elim (one_answer given r s lawful (scale_answer given r h) (scale_answer given s k)) [
  | inl first ↦ absurd (remembered given r first h)
  | inr (inl second) ↦ absurd (remembered given s second k)
  | inr (inr same) ↦ same
]
