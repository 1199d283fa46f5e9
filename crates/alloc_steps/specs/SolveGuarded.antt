-- `solve-guarded`: what it answers, and its sentence of the headline.
use Rattle.std.specs.Prelude.{ℕ, List}
use Rattle.alloc_outcomes.specs.Answers.{Answer, Gives, HasText}
use Rattle.alloc_outcomes.specs.Causes.{trees_cause, input_cause, too_fine_cause}
use Rattle.alloc_outcomes.specs.Meanings.{TwoMeaning}
use Rattle.alloc_outcomes.specs.Sentences.{Counts, KeepsBy, Run}
use Rattle.alloc_outcomes.specs.declared.cause.Cause.{Cause}
use Rattle.alloc_outcomes.specs.declared.cause.Cause.TheVariants as causes
use Rattle.alloc_readings.specs.Eaten.{EatsOrTooFine}
use Rattle.alloc_readings.specs.Guarded.{GuardsOrNot, guard_cause}
use Rattle.alloc_readings.specs.Problem.{ProblemTextReads}
use Rattle.alloc_readings.specs.Trees.{CrossesOrTrees}
use Rattle.alloc_steps.specs.Publishing.{IsLotteryText, Published}
use Rattle.alloc_steps.specs.Solve.{IsSolvable}
use Rattle.alloc_steps.specs.SolvesWell.{SolvesWellFor}
use Rattle.definitions.specs.Fairness.{guarded_family}
use Rattle.definitions.specs.Lotteries.{LotteryValue, SolvesFor}
use Rattle.definitions.specs.Values.{ProblemValue}
use Rattle.eating.specs.Answers.{IsEaten, IsTooFineAt}
use Rattle.eating.specs.Eaten.{EatenValue}
use Rattle.guard_sets.specs.Guard.{IsOverGuard}
use Rattle.lottery_laws.specs.Near.{WorthsAreNear}

-- the lottery solves the problem, with pieces for the guarded family of its shares
pub record SolvesGuarded (p : ProblemValue) (l : LotteryValue) : Type 0 where
  pub solves : SolvesFor (guarded_family p l.shares) p l

-- of what is eaten in a problem: its guarded family, or that it is too large; after that nothing is
-- refused
abbrev pub GuardedAnswers : ProblemValue → EatenValue → Answer → Type 0
GuardedAnswers p v =
    Gives guard_cause (GuardsOrNot p v.shares) (λ _.
    HasText (IsLotteryText (SolvesGuarded p)))

-- `solve-guarded PREFS QUOTAS`: what `solve` decides, in its order; and then the guarded family of what
-- is eaten
abbrev pub SolveGuardedAnswers : List ℕ → List ℕ → Answer → Type 0
SolveGuardedAnswers prefs quotas =
    Gives input_cause (ProblemTextReads prefs quotas) (λ p.
    Gives trees_cause (CrossesOrTrees p.family) (λ _.
    Gives too_fine_cause (EatsOrTooFine p) (λ v.
    GuardedAnswers p v)))

-- ---- the sentence of the headline

-- the lottery solves the problem, with pieces for the guarded family and all that is known of one that
-- does; and what any two pieces give an agent differs in worth by at most the first less the last
-- worth of its list
pub record SolvesNearly (p : ProblemValue) (l : LotteryValue) : Type 0 where
  pub well : SolvesWellFor (guarded_family p l.shares) p l
  pub near : WorthsAreNear p well.solves.prices l.pieces

-- the guarded family of what is eaten has so many sets and cells, of which one is too many
pub record EatsOverGuard (p : ProblemValue) (sets cells : ℕ) : Type 0 where
  pub eaten : EatenValue
  pub is : IsEaten p eaten
  pub over : IsOverGuard p eaten.shares sets cells

-- Done as it is said; or a denominator passes its limit, or the guarded family is too large, and what is
-- said of that holds; a load or a write failed, or memory was refused
abbrev pub KeepsGuardBy : (done : Type 0) → (too_fine : ℕ → Type 0) → (over : ℕ → ℕ → Type 0)
    → (old new : Counts) → Cause → Type 0
KeepsGuardBy done too_fine over old new (causes.OverGuard sets cells) = over sets cells
KeepsGuardBy done too_fine over old new cause = KeepsBy done too_fine old new cause

abbrev pub KeepsGuard : (done : Type 0) → (too_fine : ℕ → Type 0) → (over : ℕ → ℕ → Type 0) → Run → Type 0
KeepsGuard done too_fine over run =
    KeepsGuardBy done too_fine over run.counts run.counts_after run.cause

-- such a lottery without a design is published; or this is the denominator of the first table that is
-- too fine; or the guarded family of what is eaten is too large
abbrev pub SolveGuardedSays : (prefs quotas : List ℕ) → Run → Type 0
SolveGuardedSays prefs quotas run =
    (p : ProblemValue) → IsSolvable prefs quotas p
    → KeepsGuard (Published (SolvesNearly p) run.before run.written) (IsTooFineAt p) (EatsOverGuard p) run

-- what `solve-guarded` means
abbrev pub solve_guarded_meaning : TwoMeaning
solve_guarded_meaning = record { answers = SolveGuardedAnswers; says = SolveGuardedSays }
