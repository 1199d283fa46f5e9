-- Lists of gives in the order of words of a dictionary, and pieces that give something else than each later one.
use Rattle.std.specs.Prelude.{◌≡◌, ◌≢◌, ℕ, All, slice_index, slice_index_or, ◌+◌, ◌*◌, ◌<◌, ◌^◌, ◌==◌, ◌&&◌, ◌||◌, Bool, true, false, List, [], ◌∷◌, length, nat_lt}
use Rattle.std.specs.Cmp.Lexicographic.{pointwise}
use Rattle.std.specs.List.{Contains}
use Rattle.definitions.specs.declared.Give.{Give}
use Rattle.definitions.specs.Values.{PieceValue}
use Rattle.cert_check.specs.PieceFaults.{gives_at, same_give}

-- a give as one number, by agent, then column, then count, which are below 2^32
abbrev pub give_number : Give → ℕ
give_number g = (g.agent * 2 ^ 32 + g.object) * 2 ^ 32 + g.count

-- the first list comes before the second
abbrev pub gives_before : List Give → List Give → Bool
gives_before [] [] = false
gives_before [] (h ∷ hs) = true
gives_before (g ∷ gs) [] = false
gives_before (g ∷ gs) (h ∷ hs) = nat_lt (give_number g) (give_number h) || ((give_number g == give_number h) && gives_before gs hs)

-- the piece at index a comes before the piece at index b, by what they give and then by their places
abbrev pub comes_before : List PieceValue → ℕ → ℕ → Bool
comes_before ps a b =
    gives_before (gives_at ps a) (gives_at ps b) || (pointwise same_give (gives_at ps a) (gives_at ps b) && nat_lt a b)

-- no later piece gives the same
abbrev pub IsUnlikeLater : List PieceValue → ℕ → Type 0
IsUnlikeLater ps a = (b : ℕ) → a < b → b < length ps → gives_at ps a ≢ gives_at ps b

-- the pieces that are marked give something else than each later one
pub record AreUnlike (ps : List PieceValue) (marks : List Bool) : Type 0 where
  pub many : length marks ≡ length ps
  pub unlike : (a : ℕ) → slice_index_or marks a false ≡ true → IsUnlikeLater ps a

-- all places of pieces, in the order of what they give and then of the places
pub record IsOrder (ps : List PieceValue) (order : List ℕ) : Type 0 where
  pub within : All (λ a. a < length ps) order
  pub each : (a : ℕ) → a < length ps → Contains order a
  pub rise : (k : ℕ) → k + 1 < length order → comes_before ps (slice_index order k) (slice_index order (k + 1)) ≡ true
