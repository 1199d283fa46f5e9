-- What is known of a lottery that solves a problem.
-- No envy: Bogomolnaia and Moulin 2001.
use Rattle.std.specs.Prelude.{◌<◌, ℕ, length}
use Rattle.definitions.specs.Fairness.{IsAlike, Envies}
use Rattle.definitions.specs.Lotteries.{LotteryValue, SolvesFor}
use Rattle.definitions.specs.Sets.{FamilyValue, units_of}
use Rattle.definitions.specs.Values.{ProblemValue}
use Rattle.lottery_laws.specs.Sound.{HasSetsOf, MeetsProblem}

-- the lottery solves the problem, with pieces for the family f: its names, lists, shares, prices and worths are those of the
-- problem's eating table in lowest terms, and its pieces decompose the shares. It meets the problem, so that each of its pieces
-- keeps every rule, and none dominates its shares or is worth more. And no agent envies one who is alike
pub record SolvesWellFor (f : FamilyValue) (p : ProblemValue) (l : LotteryValue) : Type 0 where
  pub solves : SolvesFor f p l
  pub meets : MeetsProblem p solves.prices l
  pub fair : (i j : ℕ) → i < length p.agents → j < length p.agents → IsAlike p i j
      → Envies p (units_of l.shares) i j → ⊥

-- the same with pieces for the problem's own family
abbrev pub SolvesWell : ProblemValue → LotteryValue → Type 0
SolvesWell p l = SolvesWellFor p.family p l

-- this is known of every lottery that solves a problem, also where its pieces are for more sets
abbrev pub SolvesAreWell : Type 0
SolvesAreWell = (f : FamilyValue) (p : ProblemValue) (l : LotteryValue) → SolvesFor f p l → HasSetsOf p f → SolvesWellFor f p l
