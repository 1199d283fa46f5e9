-- What eating answers: the eating table in lowest terms, or the first table that is too fine.
use Rattle.std.specs.Prelude.{◌≡◌, ℕ, ◌*◌, ◌<◌, ◌≤◌, ◌^◌, List, length, take, drop}
use Rattle.definitions.specs.Sets.{cell_of, unit_at}
use Rattle.definitions.specs.Values.{Market, ProblemValue, column_count, market_of, limits_of, capped_limits}
use Rattle.definitions.specs.Eating.{full_at, demand_sum, IsAssignmentOf, IsEatingTable, IsLowestTerms, IsFirstTooFine}
use Rattle.definitions.specs.Certificate.{distinct_moments}
use Rattle.eating.specs.Eaten.{EatenValue}
use Rattle.eating.specs.declared.answer.EatFault.{EatFault}
use Rattle.eating.specs.declared.answer.EatFault.TheVariants.{TooFine, NoMemory}

-- the moment at which the limit of a capped cell is full in table e over D, and D at every other cell
abbrev pub cap_at : ProblemValue → ℕ → List ℕ → ℕ → ℕ → ℕ
cap_at p D e i a = full_at D (capped_limits 0 (market_of p).agents) (drop p.stated e) i a

-- one number for each cell of so many agents and columns, row by row: that of the cell's own limit, which stands after the stated sets
pub record AreCapsOf (market : Market) (agents columns stated D : ℕ) (e caps : List ℕ) : Type 0 where
  pub many : length caps ≡ agents * columns
  pub each : (i a : ℕ) → i < agents → a < columns → unit_at columns caps (cell_of i a) ≡ full_at D (capped_limits 0 market.agents) (drop stated e) i a

-- one number for each cell of the problem
abbrev pub AreCaps : ProblemValue → ℕ → List ℕ → List ℕ → Type 0
AreCaps p = AreCapsOf (market_of p) (length p.agents) (column_count p) p.stated

-- e is the eating table in lowest terms of a market with so many agents, columns and stated sets, and v has its moments, assignment and caps
pub record IsTableOf (market : Market) (agents columns stated : ℕ) (e : List ℕ) (v : EatenValue) : Type 0 where
  pub table : IsEatingTable market v.shares.denominator e
  pub lowest : IsLowestTerms v.shares.denominator e
  pub within : v.shares.denominator ≤ 2 ^ 116
  pub moments : v.moments ≡ take stated e
  pub shares : IsAssignmentOf columns market v.shares.denominator e v.shares
  pub caps : AreCapsOf market agents columns stated v.shares.denominator e v.caps

-- e is the eating table of the problem in lowest terms, and v has its moments, assignment and caps
abbrev pub IsEatenBy : ProblemValue → List ℕ → EatenValue → Type 0
IsEatenBy p = IsTableOf (market_of p) (length p.agents) (column_count p) p.stated

-- v is what is eaten in the problem
abbrev pub IsEaten : ProblemValue → EatenValue → Type 0
IsEaten p v = (e : List ℕ) × IsEatenBy p e v

-- D is the denominator of the market's first table that is too fine
pub record IsTooFineIn (market : Market) (D : ℕ) : Type 0 where
  pub moment : ℕ
  pub table : List ℕ
  pub first : IsFirstTooFine market D moment table
  pub below : D < 2 ^ 126

-- D is the denominator of the problem's first table that is too fine
abbrev pub IsTooFineAt : ProblemValue → ℕ → Type 0
IsTooFineAt p = IsTooFineIn (market_of p)

-- the fault carries the denominator of the first table that is too fine, or it is want of memory
abbrev pub IsEatFault : ProblemValue → EatFault → Type 0
IsEatFault p (TooFine D) = IsTooFineAt p D
IsEatFault p NoMemory = Unit {0}

-- there are many moments: with n the sum of all demands, n ^ R is above 2^116 for the R distinct moments before the end of each
-- eating table, and n to the number of limits is above it too
pub record HasManyMoments (p : ProblemValue) : Type 0 where
  pub moments : (D : ℕ) (e : List ℕ) → IsEatingTable (market_of p) D e → 2 ^ 116 < demand_sum (market_of p) ^ length (distinct_moments e D)
  pub limits : 2 ^ 116 < demand_sum (market_of p) ^ length (limits_of p)

-- the fault is want of memory, or there are many moments: where few moments or few limits give a power up to 2^116, TooFine doesn't come
abbrev pub NeedsManyMoments : ProblemValue → EatFault → Type 0
NeedsManyMoments p (TooFine D) = HasManyMoments p
NeedsManyMoments p NoMemory = Unit {0}
