-- Eating has one answer: a problem has one eating table, or one first table that is too fine.
use Rattle.std.proofs.Common.{◌≡◌, ℕ, Result, Ok, Err, ap}
use Rattle.alloc_readings.specs.Eaten.{EatsOrTooFine}
use Rattle.definitions.specs.Values.{ProblemValue}
use Rattle.eating.proofs.OneAnswer.{one_eaten, eaten_not_too_fine, one_too_fine_at}
use Rattle.eating.specs.Eaten.{EatenValue}

pub one_table : (p : ProblemValue) (r s : Result EatenValue ℕ) → EatsOrTooFine p r → EatsOrTooFine p s → r ≡ s
one_table p (Ok v) (Ok w) h k = ap Ok (one_eaten p v w h k)
one_table p (Ok v) (Err d) h k = absurd (eaten_not_too_fine p v d h k)
one_table p (Err d) (Ok v) h k = absurd (eaten_not_too_fine p v d k h)
one_table p (Err c) (Err d) h k = ap Err (one_too_fine_at p c d h k)
