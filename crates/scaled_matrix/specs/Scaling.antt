-- Why shares are not scaled, with the place of the first entry to blame. The project's own.
-- Entries count from 0, row by row. Agents and columns count from 1.
use Rattle.std.specs.Prelude.{◌≡◌, ℕ, ◌+◌, ◌-◌, ◌*◌, ◌/◌, ◌^◌, ◌<◌, ◌≤◌, ◌⊎◌, List, length, map, take, sum, min, Result, Ok, Err, MatchResult}
use Rattle.definitions.specs.Values.{Ratio, SharesValue}
use Rattle.definitions.specs.Sets.{ScaledValue, IsScaledMatrix}
use Rattle.definitions.specs.Scaling.{IsLeastCommonDenominator, IsScaled}
use Rattle.scaled_matrix.specs.Entries.{IsShares}
use Rattle.scaled_matrix.specs.declared.scaling.ScaleFault.{ScaleFault}
use Rattle.scaled_matrix.specs.declared.scaling.ScaleFault.TheVariants.{TooFine, OverTotal, NoMemory}

-- k is the entry of this agent and this column
pub record IsEntryOf (given : SharesValue) (k agent column : ℕ) : Type 0 where
  pub known_agent : 0 < agent
  pub known_column : 0 < column
  pub within : column ≤ length given.objects
  pub place : k ≡ (agent - 1) * length given.objects + (column - 1)
  pub there : k < length given.entries

-- at this entry, and at none before it, the least common denominator so far passes 2^116, and `denominator` is what
-- it is with this entry, or the greatest u128 where it is larger
pub record IsTooFineAt (given : SharesValue) (denominator agent column : ℕ) : Type 0 where
  pub k : ℕ
  pub entry : IsEntryOf given k agent column
  pub before : ℕ
  pub before_least : IsLeastCommonDenominator (take k given.entries) before
  pub before_fits : before ≤ 2 ^ 116
  pub after : ℕ
  pub after_least : IsLeastCommonDenominator (take (k + 1) given.entries) after
  pub after_passes : 2 ^ 116 < after
  pub carried : denominator ≡ min after (2 ^ 128 - 1)

-- a share in units of which d make one, where its denominator divides d
abbrev pub unit_of : ℕ → Ratio → ℕ
unit_of d s = s.num * (d / s.den)

-- each entry in such units
abbrev pub units_in : ℕ → List Ratio → List ℕ
units_in d entries = map (unit_of d) entries

-- the least common denominator is at most 2^116, and at this entry, and at none before it, the sum so far passes 1,000
pub record IsOverTotalAt (given : SharesValue) (agent column : ℕ) : Type 0 where
  pub denominator : ℕ
  pub least : IsLeastCommonDenominator given.entries denominator
  pub fits : denominator ≤ 2 ^ 116
  pub k : ℕ
  pub entry : IsEntryOf given k agent column
  pub before : sum (take k (units_in denominator given.entries)) ≤ 1000 * denominator
  pub after : 1000 * denominator < sum (take (k + 1) (units_in denominator given.entries))

-- the least common denominator passes 2^116
pub record IsTooFine (given : SharesValue) : Type 0 where
  pub denominator : ℕ
  pub least : IsLeastCommonDenominator given.entries denominator
  pub passes : 2 ^ 116 < denominator

-- all entries together pass 1,000
pub record IsOverTotal (given : SharesValue) : Type 0 where
  pub denominator : ℕ
  pub least : IsLeastCommonDenominator given.entries denominator
  pub passes : 1000 * denominator < sum (units_in denominator given.entries)

-- the answer is due: TooFine to shares that are too fine, OverTotal to others that are too much in all, Ok to the rest
abbrev pub IsDueTo : SharesValue → Result ScaledValue ScaleFault → Type 0
IsDueTo given (Ok x) = (IsTooFine given → ⊥) × (IsOverTotal given → ⊥)
IsDueTo given (Err (TooFine denominator agent column)) = IsTooFine given
IsDueTo given (Err (OverTotal agent column)) = (IsTooFine given → ⊥) × IsOverTotal given
IsDueTo given (Err NoMemory) = Unit {0}

-- the fault tells the first entry at which the shares are too fine, or else are too much in all; or it is want of memory
abbrev pub IsScaleFault : SharesValue → ScaleFault → Type 0
IsScaleFault given (TooFine denominator agent column) = IsTooFineAt given denominator agent column
IsScaleFault given (OverTotal agent column) = IsOverTotalAt given agent column
IsScaleFault given NoMemory = Unit {0}

-- what `scale` may answer
abbrev pub IsScaleAnswer : SharesValue → Result ScaledValue ScaleFault → Type 0
IsScaleAnswer given r = MatchResult r (λ x. IsScaled given x × IsScaledMatrix x) (IsScaleFault given)

-- two answers for the same shares are equal, or one is want of memory
abbrev pub OneAnswer : Type 0
OneAnswer = (given : SharesValue) (r s : Result ScaledValue ScaleFault) → IsShares given → IsScaleAnswer given r → IsScaleAnswer given s
    → (r ≡ Err NoMemory) ⊎ ((s ≡ Err NoMemory) ⊎ (r ≡ s))

-- each answer comes exactly where it is due, but for want of memory
abbrev pub AnswersAreExact : Type 0
AnswersAreExact = (given : SharesValue) (r : Result ScaledValue ScaleFault) → IsShares given → IsScaleAnswer given r → IsDueTo given r
