-- What is eaten in a problem.
use Rattle.std.specs.Prelude.{ℕ, Result, Ok, Err}
use Rattle.definitions.specs.Values.{ProblemValue}
use Rattle.eating.specs.Answers.{IsEaten, IsTooFineAt}
use Rattle.eating.specs.Eaten.{EatenValue}

-- this is eaten in a problem, or this is the denominator of its first table that is too fine
abbrev pub EatsOrTooFine : ProblemValue → Result EatenValue ℕ → Type 0
EatsOrTooFine p (Ok v) = IsEaten p v
EatsOrTooFine p (Err denominator) = IsTooFineAt p denominator
