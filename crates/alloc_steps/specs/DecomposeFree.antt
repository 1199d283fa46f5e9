-- `decompose-free`: what it answers, and its sentence of the headline. The sides that the quotas state
-- are not asked.
use Rattle.std.specs.Prelude.{◌≡◌, ◌≤◌, ℕ, List, Result, Ok, Err, length}
use Rattle.alloc_outcomes.specs.Answers.{Answer, Gives, HasText}
use Rattle.alloc_outcomes.specs.Causes.{infeasible_cause, no_sides_cause}
use Rattle.alloc_outcomes.specs.Limits.{file_limit}
use Rattle.alloc_outcomes.specs.Meanings.{TwoMeaning}
use Rattle.alloc_outcomes.specs.Sentences.{Keeps, Run}
use Rattle.alloc_readings.specs.Family.{QuotasTextReads}
use Rattle.alloc_readings.specs.Quotas.{MeetsOrNot}
use Rattle.alloc_readings.specs.Shares.{MatrixTextReads}
use Rattle.alloc_steps.specs.Decompose.{AfterQuotas}
use Rattle.alloc_steps.specs.Publishing.{IsLotteryText, Published}
use Rattle.definitions.specs.Lotteries.{Splits}
use Rattle.definitions.specs.Scaling.{IsScaled}
use Rattle.definitions.specs.Sets.{FamilyValue, ScaledValue, IsFeasible, IsScaledMatrix, cells_of}
use Rattle.definitions.specs.Sides.{IsColoring, IsOddRing, IsSplit}
use Rattle.definitions.specs.Values.{SharesValue}
use Rattle.lottery_laws.specs.SplitsWell.{SplitsWell}
use Rattle.scaled_matrix.specs.Scaling.{IsOverTotal, IsTooFine}
use Rattle.side_finder.specs.Applied.{with_sides}

-- there is a side for each set, so that no two sets of one side cross
abbrev pub HasSides : FamilyValue → Type 0
HasSides f = (sides : List ℕ) × IsColoring (cells_of f) sides

-- there is an odd ring of sets that cross
abbrev pub HasOddRing : FamilyValue → Type 0
HasOddRing f = (ring : List ℕ) × IsOddRing (cells_of f) ring

-- which of both a family has
abbrev pub HasSidesOrRing : FamilyValue → Result (Unit {0}) (Unit {0}) → Type 0
HasSidesOrRing f (Ok _) = HasSides f
HasSidesOrRing f (Err _) = HasOddRing f

-- a family with the sides of its split, and all else as it was
pub record IsFreed (f free : FamilyValue) : Type 0 where
  pub sides : List ℕ
  pub split : IsSplit (cells_of f) sides
  pub is : free ≡ with_sides f sides

-- this family, or there is an odd ring
abbrev pub FreesOrNot : FamilyValue → Result FamilyValue (Unit {0}) → Type 0
FreesOrNot f (Ok free) = IsFreed f free
FreesOrNot f (Err _) = HasOddRing f

-- once there are sides: the first set whose quotas the shares break decides, and after that nothing
-- is refused. Quotas and pieces ask the cells of the sets, and not their sides
abbrev pub FreeSplitAnswers : SharesValue → ScaledValue → FamilyValue → Answer → Type 0
FreeSplitAnswers given x f =
    Gives infeasible_cause (MeetsOrNot f x) (λ _.
    HasText (IsLotteryText (Splits given f)))

-- once there is a family: an odd ring decides, and then the quotas
abbrev pub FreeAnswers : SharesValue → ScaledValue → FamilyValue → Answer → Type 0
FreeAnswers given x f =
    Gives no_sides_cause (HasSidesOrRing f) (λ _. FreeSplitAnswers given x f)

-- `decompose-free MATRIX QUOTAS`
abbrev pub DecomposeFreeAnswers : List ℕ → List ℕ → Answer → Type 0
DecomposeFreeAnswers matrix quotas = AfterQuotas matrix quotas FreeAnswers

-- ---- the sentence of the headline

-- texts of a matrix and of quotas that are short and lawful; there are sides for the sets, whatever
-- sides they state; all shares together are at most 1,000; and the shares, in units over their
-- least common denominator, are feasible
pub record IsFreelySplittable (matrix quotas : List ℕ) (given : SharesValue)
    (f : FamilyValue) : Type 0 where
  pub short : (length matrix ≤ file_limit) × (length quotas ≤ file_limit)
  pub shares : MatrixTextReads matrix (Ok given)
  pub family : QuotasTextReads given quotas (Ok f)
  pub sides : HasSides f
  pub total : IsOverTotal given → ⊥
  pub feasible : (x : ScaledValue) → IsScaled given x → IsScaledMatrix x → IsFeasible f x

-- a lottery without a design is published that splits the shares, of which each piece meets every
-- quota and whose named units are its units; or the least common denominator of the shares passes
-- 2^116
abbrev pub DecomposeFreeSays : (matrix quotas : List ℕ) → Run → Type 0
DecomposeFreeSays matrix quotas run =
    (given : SharesValue) (f : FamilyValue) → IsFreelySplittable matrix quotas given f
    → Keeps (Published (SplitsWell given f) run.before run.written) (λ _. IsTooFine given) run

-- what `decompose-free` means
abbrev pub decompose_free_meaning : TwoMeaning
decompose_free_meaning = record { answers = DecomposeFreeAnswers; says = DecomposeFreeSays }
