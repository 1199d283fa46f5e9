-- The ways up from two sets of one part and depth, and the ring that they make.
use Rattle.std.specs.Prelude.{◌≡◌, ℕ, zero, suc, ◌+◌, ◌<◌, ◌≤◌, ◌⊎◌, ◌++◌, ◌==◌, List, [], ◌∷◌, Option, length, if◌then◌else◌}
use Rattle.side_finder.specs.declared.forest.Mark.{Mark}
use Rattle.side_finder.specs.Marks.{Marked, depth_at, start_at, up_at}

-- each mark leads up to a mark that is one step less deep, in its part, or is that of the first set of its part
pub record AreWaysUp (marks : List (Option Mark)) : Type 0 where
  pub few : length marks ≤ 2000
  pub marked : (v : ℕ) → v < length marks → Marked marks v
  pub step : (v : ℕ) → v < length marks → ((depth_at marks v ≡ 0) × (start_at marks v ≡ v))
      ⊎ ((up_at marks v < length marks) × (depth_at marks v ≡ depth_at marks (up_at marks v) + 1) × (start_at marks (up_at marks v) ≡ start_at marks v))

-- the two are of one part and depth
pub record ArePair (marks : List (Option Mark)) (a b : ℕ) : Type 0 where
  pub first : a < length marks
  pub second : b < length marks
  pub depth : depth_at marks a ≡ depth_at marks b
  pub start : start_at marks a ≡ start_at marks b

-- the numbers of the sets on the way up from a to where the ways meet, without a, and down to b
abbrev pub ring_after : List (Option Mark) → ℕ → ℕ → ℕ → List ℕ
ring_after marks zero a b = []
ring_after marks (suc k) a b =
    if a == b then [] else ((up_at marks a + 1) ∷ (ring_after marks k (up_at marks a) (up_at marks b) ++ (b + 1) ∷ []))

-- the numbers of the sets from a up to where the ways meet, and down to b
abbrev pub ring_from : List (Option Mark) → ℕ → ℕ → List ℕ
ring_from marks a b = (a + 1) ∷ ring_after marks (depth_at marks a) a b
