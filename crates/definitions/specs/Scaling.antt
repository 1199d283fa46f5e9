-- One denominator for given shares. The project's own.
use Rattle.std.specs.Prelude.{◌≡◌, ℕ, ◌*◌, ◌<◌, List, length, All, slice_index, slice_get, Some}
use Prim.Native.Nat.{◌∣◌}
use Rattle.definitions.specs.Sets.{ScaledValue}
use Rattle.definitions.specs.Values.{Ratio, SharesValue}

-- d is the least number over which each entry is a whole number of units; least by divisibility, so also by size.
-- Entries are read by value: 2 over 4 asks for 2
pub record IsLeastCommonDenominator (entries : List Ratio) (d : ℕ) : Type 0 where
  pub low : 0 < d
  pub common : All (λ s. s.den ∣ s.num * d) entries
  pub least : (e : ℕ) → All (λ s. s.den ∣ s.num * e) entries → d ∣ e

-- x are the given shares, one for each agent and object, in units over their least common denominator
pub record IsScaled (given : SharesValue) (x : ScaledValue) : Type 0 where
  pub entries : length given.entries ≡ length given.agents * length given.objects
  pub agents : x.agents ≡ length given.agents
  pub columns : x.columns ≡ length given.objects
  pub shape : length x.units ≡ x.agents * x.columns
  pub least : IsLeastCommonDenominator given.entries x.denominator
  pub units : (k : ℕ) (s : Ratio) → slice_get given.entries k ≡ Some s → slice_index x.units k * s.den ≡ s.num * x.denominator
