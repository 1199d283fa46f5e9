-- `solve`: what it answers, and its sentence of the headline.
use Rattle.std.specs.Prelude.{◌≤◌, ℕ, List, Ok, length}
use Rattle.alloc_outcomes.specs.Answers.{Answer, Gives, HasText}
use Rattle.alloc_outcomes.specs.Causes.{trees_cause, input_cause, too_fine_cause}
use Rattle.alloc_outcomes.specs.Limits.{file_limit}
use Rattle.alloc_outcomes.specs.Meanings.{TwoMeaning}
use Rattle.alloc_outcomes.specs.Sentences.{Keeps, Run}
use Rattle.alloc_readings.specs.Eaten.{EatsOrTooFine}
use Rattle.alloc_readings.specs.Problem.{ProblemTextReads}
use Rattle.alloc_readings.specs.Trees.{CrossesOrTrees}
use Rattle.alloc_steps.specs.Publishing.{IsLotteryText, Published}
use Rattle.alloc_steps.specs.SolvesWell.{SolvesWell}
use Rattle.definitions.specs.Lotteries.{Solves}
use Rattle.definitions.specs.Sets.{IsBihierarchy}
use Rattle.definitions.specs.Values.{ProblemValue}
use Rattle.eating.specs.Answers.{IsTooFineAt}

-- `solve PREFS QUOTAS`: what the two texts read as decides, then the least pair of sets that cross,
-- and then the first table that is too fine; after that nothing is refused
abbrev pub SolveAnswers : List ℕ → List ℕ → Answer → Type 0
SolveAnswers prefs quotas =
    Gives input_cause (ProblemTextReads prefs quotas) (λ p.
    Gives trees_cause (CrossesOrTrees p.family) (λ _.
    Gives too_fine_cause (EatsOrTooFine p) (λ _.
    HasText (IsLotteryText (Solves p)))))

-- ---- the sentence of the headline

-- texts of preferences and of quotas that are short and lawful, and no two sets of one side cross
pub record IsSolvable (prefs quotas : List ℕ) (p : ProblemValue) : Type 0 where
  pub short : (length prefs ≤ file_limit) × (length quotas ≤ file_limit)
  pub problem : ProblemTextReads prefs quotas (Ok p)
  pub apart : IsBihierarchy p.family

-- a lottery without a design is published that solves the problem, with all that is known of one that
-- does; or this is the denominator of the first table that is too fine
abbrev pub SolveSays : (prefs quotas : List ℕ) → Run → Type 0
SolveSays prefs quotas run =
    (p : ProblemValue) → IsSolvable prefs quotas p
    → Keeps (Published (SolvesWell p) run.before run.written) (IsTooFineAt p) run

-- what `solve` means
abbrev pub solve_meaning : TwoMeaning
solve_meaning = record { answers = SolveAnswers; says = SolveSays }
