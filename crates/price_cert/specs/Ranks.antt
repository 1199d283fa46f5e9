-- Ranks and prices of the stated sets, over the numbers of their moments.
use Rattle.std.specs.Prelude.{◌≡◌, ℕ, ◌+◌, ◌-◌, ◌*◌, ◌<◌, ◌≤◌, ◌∷◌, min, List, length, Option, Some, None, IfSome, fold, slice_index, slice_index_or}
use Rattle.definitions.specs.Trees.{TreesValue, parent_at, chain_of}

-- the ways up from the first n sets stay among these, and go by the parents
pub record IsClimbable (t : TreesValue) (n : ℕ) : Type 0 where
  pub room : n ≤ t.sets
  pub parents : (s : ℕ) → 0 < s → s ≤ n → IfSome (parent_at t s) (λ q. (0 < q) × (q ≤ n))
  pub steps : (s : ℕ) → 0 < s → s ≤ n → chain_of t (Some s) ≡ s ∷ chain_of t (parent_at t s)

-- the least of `top` and the numbers of a set, its parent, and so on up
abbrev pub rank_in : List ℕ → ℕ → TreesValue → Option ℕ → ℕ
rank_in numbers top t o = fold (λ a s. min a (slice_index numbers (s - 1))) top (chain_of t o)

-- one entry for each set, and each entry that isn't empty is the rank of its set
pub record AreRanksFound (numbers : List ℕ) (top : ℕ) (t : TreesValue) (found : List (Option ℕ)) : Type 0 where
  pub many : length found ≡ length numbers
  pub right : (k rank : ℕ) → slice_index_or found k None ≡ Some rank → rank ≡ rank_in numbers top t (Some (k + 1))

-- the rank of a set, and `top` of none
abbrev pub rank_at : List ℕ → ℕ → Option ℕ → ℕ
rank_at ranks top None = top
rank_at ranks top (Some s) = slice_index ranks (s - 1)

-- the price of set s
abbrev pub price_in : ℕ → List ℕ → ℕ → TreesValue → ℕ → ℕ
price_in width ranks top t s = width * (rank_at ranks top (parent_at t s) - slice_index ranks (s - 1))
