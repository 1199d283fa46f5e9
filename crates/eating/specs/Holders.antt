-- The limits that are noted at a place of a list.
use Rattle.std.specs.Prelude.{ℕ, ◌+◌, ◌-◌, ◌++◌, [], ◌∷◌, List, map, slice_index, nat_lt, if◌then◌else◌}
use Rattle.std.specs.List.{range_with_len}
use Rattle.definitions.specs.Sets.{cell_of}
use Rattle.definitions.specs.Trees.{TreesValue, chain_of, deepest_at}
use Rattle.definitions.specs.Values.{ProblemValue, list_at}

-- the stated sets that hold the cell of a place, from the deepest up
abbrev pub chain_at : ProblemValue → TreesValue → ℕ → ℕ → List ℕ
chain_at p t i k = chain_of t (deepest_at t 2 (cell_of i (slice_index (list_at p i) k)))

-- these as limits, and the capped cell at each of the first `caps` places, which are the limits from `capped` on
abbrev pub holders_in : ProblemValue → TreesValue → ℕ → ℕ → ℕ → ℕ → List ℕ
holders_in p t i k capped caps = map (λ s. s - 1) (chain_at p t i k) ++ (if nat_lt k caps then (capped + k) ∷ [] else [])

-- the limits at each of the first n places
unfoldable pub made_holders : ProblemValue → TreesValue → ℕ → ℕ → ℕ → ℕ → List (List ℕ)
made_holders p t i capped caps n = map (λ k. holders_in p t i k capped caps) (range_with_len 0 n)
