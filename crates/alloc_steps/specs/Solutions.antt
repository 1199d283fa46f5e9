-- What the laws say of the lotteries that solve a problem: that they are one but for the pieces, and where there is one.
-- The laws are the project's.
use Rattle.std.specs.Prelude.{◌≡◌, ◌≤◌, ◌^◌, ℕ, List, length, sum}
use Rattle.definitions.specs.Certificate.{distinct_moments}
use Rattle.definitions.specs.Eating.{IsEatingTable}
use Rattle.definitions.specs.Lotteries.{LotteryValue, SolvesFor}
use Rattle.definitions.specs.Sets.{FamilyValue}
use Rattle.definitions.specs.Values.{ProblemValue, IsProblem, limits_of, market_of}
use Rattle.eating.specs.Answers.{IsTooFineAt}

-- two lotteries that solve one problem differ in their pieces alone, and in a design that they may carry, whatever the
-- families are for which their pieces are: names, shares, lists and prices are equal
abbrev pub OneSolution : Type 0
OneSolution = (p : ProblemValue) (f g : FamilyValue) (l m : LotteryValue) → SolvesFor f p l → SolvesFor g p m
    → m ≡ record l { pieces = m.pieces; design = m.design }

-- the problem has no first table that is too fine
abbrev pub NeverTooFine : ProblemValue → Type 0
NeverTooFine p = (D : ℕ) → IsTooFineAt p D → ⊥

-- no table is too fine where n ^ R is at most 2^116, with n the sum of all demands, and R the number of the distinct moments
-- before the end of the eating table, or that of the limits
pub record FitsWithFew (p : ProblemValue) : Type 0 where
  pub moments : (D : ℕ) (e : List ℕ) → IsEatingTable (market_of p) D e
      → sum p.demands ^ length (distinct_moments e D) ≤ 2 ^ 116 → NeverTooFine p
  pub limits : sum p.demands ^ length (limits_of p) ≤ 2 ^ 116 → NeverTooFine p

-- so it is for each lawful problem
abbrev pub FewMomentsFit : Type 0
FewMomentsFit = (p : ProblemValue) → IsProblem p → FitsWithFew p
