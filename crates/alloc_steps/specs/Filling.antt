-- A piece that is put into a list of counts.
use Rattle.std.specs.Prelude.{◌≡◌, ℕ, ◌<◌, List, Some, slice_index}
use Rattle.definitions.specs.Peelings.{PeelerValue}

-- the counts at the places before this one are those of the piece last given
abbrev pub IsFilledBefore : PeelerValue → ℕ → List ℕ → Type 0
IsFilledBefore v at counts = (m : List ℕ) → v.piece ≡ Some m → (k : ℕ) → k < at → slice_index counts k ≡ slice_index m k
