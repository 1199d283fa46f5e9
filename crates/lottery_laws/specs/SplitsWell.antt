-- What is known of a lottery that splits feasible shares.
-- Rounding at every set of a bihierarchy keeps quotas: Budish, Che, Kojima and Milgrom 2013.
use Rattle.std.specs.Prelude.{◌≡◌, All}
use Rattle.definitions.specs.declared.Cell.{Cell}
use Rattle.definitions.specs.Sets.{FamilyValue, IsCellWithin, IsFeasible, MeetsQuotas, units_of}
use Rattle.definitions.specs.Values.{SharesValue}
use Rattle.definitions.specs.Lotteries.{LotteryValue, Splits, matrices_of}
use Rattle.definitions.specs.Tickets.{named_units}

-- the sets of a family, in matrices with the lottery's columns
abbrev pub family_of : LotteryValue → FamilyValue → FamilyValue
family_of l f = record f { columns = l.shares.columns }

-- the lottery splits the shares; each piece meets every quota; and the named units of each cell are its units.
-- The pieces decompose the shares, as Splits says: their weighted sum is the shares, no two are equal, and there is
-- at most one more than cells and sets that aren't whole
pub record SplitsWell (given : SharesValue) (f : FamilyValue) (l : LotteryValue) : Type 0 where
  pub splits : Splits given f l
  pub quotas : All (λ p. MeetsQuotas (family_of l f) p.matrix) (matrices_of l)
  pub named : (c : Cell) → IsCellWithin l.shares.agents l.shares.columns c
      → named_units l.pieces c ≡ units_of l.shares c

-- so does every lottery that splits shares which are feasible for a family
abbrev pub SplitsAreWell : Type 0
SplitsAreWell = (given : SharesValue) (f : FamilyValue) (l : LotteryValue)
    → Splits given f l → IsFeasible f l.shares → SplitsWell given f l
