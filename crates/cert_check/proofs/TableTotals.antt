-- The weighted sums of pieces at each cell, in rows of 201 places.
use Rattle.std.proofs.Common.{◌≡◌, ℕ, ◌*◌, ◌<◌, ◌==◌, ◌≤◌, Bool, true, false, List, All, length, cond, ap, refl, ◌∙◌, arith}
use Rattle.std.proofs.lemmas.List.Elements.{All-weaker, recursion_from_All}
use Rattle.definitions.specs.declared.Give.{Give}
use Rattle.definitions.specs.Pieces.{AreGives, piece_count}
use Rattle.definitions.specs.Sets.{ScaledValue, cell_of, same_cell}
use Rattle.definitions.specs.Values.{PieceValue}
use Rattle.definitions.proofs.Members.{cell_test}
use Rattle.definitions.proofs.Sums.{sum_same_all, sum_scaled}
use Rattle.cert_check.specs.HolderTables.{give_place}
use Rattle.cert_check.specs.PieceFaults.{ArePiecesFor, IsSmallMatrix, gives_at, weight_at}
use Rattle.cert_check.specs.TotalTables.{place_at, weighted_at}
use Rattle.cert_check.proofs.Canonical.{give_cell, IsLawfulGive}
use Rattle.cert_check.proofs.GivenSets.{place_test}
use Rattle.cert_check.proofs.PieceCounts.{lawful_at}

weighted_is : (agents columns : ℕ) (gives : List Give) (weight i a : ℕ) → columns ≤ 201 → AreGives agents columns gives → a < 201
    → weighted_at weight gives (place_at i a) ≡ weight * piece_count gives (cell_of i a)
weighted_is agents columns gives weight i a small h l =
    sum_same_all (IsLawfulGive agents columns) (λ (g : Give). cond (give_place g == place_at i a) (weight * g.count) 0) (λ (g : Give). weight * cond (same_cell (give_cell g) (cell_of i a)) g.count 0) gives
    (λ g w. ap (λ b. cond b (weight * g.count) 0) (place_test (cell_of i a) (give_cell g) l (omega (arith, w.1, small)) ∙ cell_test.turned (cell_of i a) (give_cell g)) ∙ times (same_cell (give_cell g) (cell_of i a)) g.count)
    (recursion_from_All (IsLawfulGive agents columns) gives h.0)
    ∙ sum_scaled weight (λ (g : Give). cond (same_cell (give_cell g) (cell_of i a)) g.count 0) gives
  where
    times : (b : Bool) (n : ℕ) → cond b (weight * n) 0 ≡ weight * cond b n 0
    times true n = refl
    times false n = omega arith

-- what a piece brings to a cell, as it was read
pub weighted_term : (x : ScaledValue) (ps : List PieceValue) (k weight : ℕ) (gs : List Give) (i a : ℕ) → IsSmallMatrix x → ArePiecesFor x ps → k < length ps
    → weight ≡ weight_at ps k → gs ≡ gives_at ps k → a < 201 → weighted_at weight gs (place_at i a) ≡ weight_at ps k * piece_count (gives_at ps k) (cell_of i a)
weighted_term x ps k weight gs i a s q l w g m =
    ap (λ (hs : List Give). weighted_at weight hs (place_at i a)) g
    ∙ weighted_is x.agents x.columns (gives_at ps k) weight i a s.columns (lawful_at x ps k q l) m
    ∙ ap (λ n. n * piece_count (gives_at ps k) (cell_of i a)) w

pub gives_in_table : (x : ScaledValue) (gs : List Give) (n : ℕ) → IsSmallMatrix x → AreGives x.agents x.columns gs → n ≡ x.agents * 201 → All (λ g. (g.object < 201) × (give_place g < n)) gs
gives_in_table x gs n s a e = All-weaker (IsLawfulGive x.agents x.columns) (λ g. (g.object < 201) × (give_place g < n)) (λ g w. (omega (arith, w.1, s.columns), omega (arith, w.0, w.1, s.columns, e))) gs a.0
