-- What contracts see of given shares.
use Rattle.std.specs.Prelude.{◌≡◌, ℕ, ◌*◌, ◌≤◌, List, length, map, All}
use Rattle.std.specs.Int.{◌∣◌}
use Rattle.frac128.specs.declared.fractions.Fraction.{Fraction}
use Rattle.frac128.specs.Fraction.{numerator, denominator}
use Rattle.definitions.specs.Values.{Ratio, SharesValue}

-- what contracts see of a fraction
abbrev pub ratio_of : Fraction → Ratio
ratio_of x = record { num = numerator x; den = denominator x }

-- what contracts see of a list of fractions
abbrev pub ratios_of : List Fraction → List Ratio
ratios_of entries = map ratio_of entries

-- the shares with these names of agents and of columns, and these entries
abbrev pub shares_from : List (List ℕ) → List (List ℕ) → List Fraction → SharesValue
shares_from agents objects entries = record { agents = agents; objects = objects; entries = ratios_of entries }

-- a lawful entry: a fraction in lowest terms, at most 1,000
pub record IsShare (s : Ratio) : Type 0 where
  pub positive : 1 ≤ s.den
  pub lowest : (f : ℕ) → f ∣ s.num → f ∣ s.den → f ≤ 1
  pub limit : s.num ≤ 1000 * s.den

-- lawful shares: one lawful entry for each cell
pub record IsShares (given : SharesValue) : Type 0 where
  pub shape : length given.entries ≡ length given.agents * length given.objects
  pub lawful : All IsShare given.entries
