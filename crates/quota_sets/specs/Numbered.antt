-- What a family keeps of its sets: numbers from 1, and how many cells there are.
use Rattle.std.specs.Prelude.{◌≡◌, ◌+◌, ◌<◌, ℕ, List, length, map, slice_index_or}
use Rattle.definitions.specs.Sets.{SetValue, IsFamily, cells_in}

-- the numbers are 1 to n
abbrev pub AreNumbered : List (ℕ × SetValue) → Type 0
AreNumbered entries = (k : ℕ) (d : ℕ × SetValue) → k < length entries → (slice_index_or entries k d).0 ≡ k + 1

-- the sets have the numbers 1 to n, the total is the number of their cells, and together they are a lawful family
pub record AreNumberedSets (agents columns total : ℕ) (entries : List (ℕ × SetValue)) : Type 0 where
  pub numbered : AreNumbered entries
  pub counted : total ≡ cells_in (map (λ e. e.1) entries)
  pub lawful : IsFamily (record { agents = agents; columns = columns; sets = map (λ e. e.1) entries })
