-- What contracts see of what is eaten.
use Rattle.std.specs.Prelude.{◌≡◌, ℕ, ◌*◌, ◌≤◌, List, length, All}
use Rattle.definitions.specs.Sets.{ScaledValue, IsScaledMatrix}

-- the moments of the stated sets by number, the shares, and for each cell, row by row, the moment of its own limit
pub record EatenValue : Type 0 where
  pub moments : List ℕ
  pub shares : ScaledValue
  pub caps : List ℕ

-- what is eaten, with these moments, shares and caps
abbrev pub eaten_value : List ℕ → ScaledValue → List ℕ → EatenValue
eaten_value moments shares caps = record { moments = moments; shares = shares; caps = caps }

-- a lawful matrix, no moment after the end, and a cap for each cell
pub record IsEatenValue (v : EatenValue) : Type 0 where
  pub matrix : IsScaledMatrix v.shares
  pub moments_within : All (λ m. m ≤ v.shares.denominator) v.moments
  pub caps_many : length v.caps ≡ v.shares.agents * v.shares.columns
  pub caps_within : All (λ m. m ≤ v.shares.denominator) v.caps
