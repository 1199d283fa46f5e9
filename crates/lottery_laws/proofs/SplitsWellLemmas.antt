-- A lottery that splits feasible shares: each piece rounds them, and tickets count pieces.
use Rattle.std.proofs.Common.{get_or, refl}
use Rattle.definitions.specs.Sets.{FamilyValue, IsFeasible, cells_of}
use Rattle.definitions.specs.Values.{SharesValue}
use Rattle.definitions.specs.Lotteries.{LotteryValue, Splits, matrices_of}
use Rattle.rounding_laws.proofs.Quotas.{keeps_quotas}
use Rattle.rounding_laws.proofs.Named.{named_is_unit}
use Rattle.lottery_laws.specs.SplitsWell.{SplitsWell, family_of}

-- its pieces meet every quota, and the named units of each cell are its units
pub well_of : (given : SharesValue) (f : FamilyValue) (l : LotteryValue) → Splits given f l → IsFeasible f l.shares → SplitsWell given f l
well_of given f l splits feasible = record {
  splits = splits;
  quotas = λ k d h. keeps_quotas (family_of l f) l.shares (get_or (matrices_of l) k d).matrix splits.lottery.shares.one refl feasible (splits.pieces.rounded k d h);
  named = λ at within. named_is_unit l.shares.agents l.shares.columns l.shares.denominator (cells_of f) l.shares.units l.pieces at splits.scaled.shape splits.pieces within;
}
