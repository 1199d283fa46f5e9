-- `decompose`: what it answers, and its sentence of the headline.
use Rattle.std.specs.Prelude.{ℕ, List}
use Rattle.alloc_outcomes.specs.Answers.{Answer, Gives, HasText}
use Rattle.alloc_outcomes.specs.Causes.{trees_cause, infeasible_cause, input_cause, scale_cause}
use Rattle.alloc_outcomes.specs.Meanings.{TwoMeaning}
use Rattle.alloc_outcomes.specs.Sentences.{Keeps, Run}
use Rattle.alloc_readings.specs.Family.{QuotasTextReads}
use Rattle.alloc_readings.specs.Quotas.{MeetsOrNot}
use Rattle.alloc_readings.specs.Shares.{MatrixTextReads, ScalesOrNot}
use Rattle.alloc_readings.specs.Splittable.{IsSplittable}
use Rattle.alloc_readings.specs.Trees.{CrossesOrTrees}
use Rattle.alloc_steps.specs.Publishing.{IsLotteryText, Published}
use Rattle.definitions.specs.Lotteries.{Splits}
use Rattle.definitions.specs.Sets.{FamilyValue, ScaledValue}
use Rattle.definitions.specs.Values.{SharesValue}
use Rattle.lottery_laws.specs.SplitsWell.{SplitsWell}
use Rattle.scaled_matrix.specs.Scaling.{IsTooFine}

-- once there is a family: the least pair of sets that cross decides, and then the first set whose
-- quotas the shares break; after that nothing is refused
abbrev pub SplitAnswers : SharesValue → ScaledValue → FamilyValue → Answer → Type 0
SplitAnswers given x f =
    Gives trees_cause (CrossesOrTrees f) (λ _.
    Gives infeasible_cause (MeetsOrNot f x) (λ _.
    HasText (IsLotteryText (Splits given f))))

-- what the matrix reads as decides, then what its shares scale to, then the quotas, and then the
-- rest of the command
abbrev pub AfterQuotas : (matrix quotas : List ℕ)
    → (SharesValue → ScaledValue → FamilyValue → Answer → Type 0) → Answer → Type 0
AfterQuotas matrix quotas rest =
    Gives input_cause (MatrixTextReads matrix) (λ given.
    Gives scale_cause (ScalesOrNot given) (λ x.
    Gives input_cause (QuotasTextReads given quotas) (λ f.
    rest given x f)))

-- `decompose MATRIX QUOTAS`
abbrev pub DecomposeAnswers : List ℕ → List ℕ → Answer → Type 0
DecomposeAnswers matrix quotas = AfterQuotas matrix quotas SplitAnswers

-- ---- the sentence of the headline

-- a lottery without a design is published that splits the shares, of which each piece meets every
-- quota and whose named units are its units; or the least common denominator of the shares passes
-- 2^116
abbrev pub DecomposeSays : (matrix quotas : List ℕ) → Run → Type 0
DecomposeSays matrix quotas run =
    (given : SharesValue) (f : FamilyValue) → IsSplittable matrix quotas given f
    → Keeps (Published (SplitsWell given f) run.before run.written) (λ _. IsTooFine given) run

-- what `decompose` means
abbrev pub decompose_meaning : TwoMeaning
decompose_meaning = record { answers = DecomposeAnswers; says = DecomposeSays }
