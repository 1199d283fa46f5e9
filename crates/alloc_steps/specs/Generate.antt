-- `generate`: what it answers, and its sentence of the headline.
use Rattle.std.specs.Prelude.{◌≡◌, ◌≤◌, ℕ, ◌++◌, List, Option, None, Some}
use Rattle.alloc_gen.specs.Made.{made_problem}
use Rattle.alloc_gen.specs.Words.{seed_words}
use Rattle.alloc_outcomes.specs.Answers.{Answer, Gives, HasText}
use Rattle.alloc_outcomes.specs.Causes.{too_fine_cause}
use Rattle.alloc_outcomes.specs.Meanings.{NoneMeaning}
use Rattle.alloc_outcomes.specs.Sentences.{Keeps, Run}
use Rattle.alloc_readings.specs.Eaten.{EatsOrTooFine}
use Rattle.alloc_report.specs.Summary.{summary_text}
use Rattle.alloc_steps.specs.SolvesWell.{SolvesWell}
use Rattle.definitions.specs.Lotteries.{LotteryValue, Solves}
use Rattle.definitions.specs.Values.{ProblemValue}
use Rattle.eating.specs.Answers.{IsTooFineAt}

-- a problem of so many agents and objects can be made
abbrev pub IsMakeable : (agents objects : ℕ) → Type 0
IsMakeable agents objects = (1 ≤ agents) × (agents ≤ 1000) × (1 ≤ objects) × (objects ≤ 200)

-- the problem that a seed makes
abbrev pub problem_of : (seed : List ℕ) (agents objects : ℕ) → ProblemValue
problem_of seed agents objects = made_problem (seed_words seed) agents objects

-- the summary of a lottery without a design that has this property
pub record IsSummary (property : LotteryValue → Type 0) (t : List ℕ) : Type 0 where
  pub lottery : LotteryValue
  pub plain : lottery.design ≡ None
  pub has : property lottery
  pub is : t ≡ summary_text lottery

-- the first table of a problem that is too fine; and else the summary of a lottery that solves it
abbrev pub SummaryAnswers : ProblemValue → Answer → Type 0
SummaryAnswers p = Gives too_fine_cause (EatsOrTooFine p) (λ _. HasText (IsSummary (Solves p)))

-- `generate SEED AGENTS OBJECTS`: the same of the made problem
abbrev pub GenerateAnswers : (seed : List ℕ) (agents objects : ℕ) → Answer → Type 0
GenerateAnswers seed agents objects = SummaryAnswers (problem_of seed agents objects)

-- ---- the sentence of the headline

-- what was appended is the summary of a lottery without a design that has this property
pub record SummedUp (property : LotteryValue → Type 0) (before : List ℕ)
    (written : Option (List ℕ)) : Type 0 where
  pub lottery : LotteryValue
  pub plain : lottery.design ≡ None
  pub has : property lottery
  pub wrote : written ≡ Some (before ++ summary_text lottery)

-- a lottery is summed up that solves the made problem, with all that is known of one that does; or
-- this is the denominator of the first table that is too fine
abbrev pub GenerateSays : (seed : List ℕ) (agents objects : ℕ) → Run → Type 0
GenerateSays seed agents objects run =
    Keeps (SummedUp (SolvesWell (problem_of seed agents objects)) run.before run.written)
    (IsTooFineAt (problem_of seed agents objects)) run

-- what `generate` means
abbrev pub generate_meaning : (seed : List ℕ) (agents objects : ℕ) → NoneMeaning
generate_meaning seed agents objects = record {
  answers = GenerateAnswers seed agents objects;
  says = GenerateSays seed agents objects;
}
