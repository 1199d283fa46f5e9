-- The pieces that were given so far.
use Rattle.std.proofs.Common.{◌≡◌, ℕ, ◌*◌, ◌<◌, ◌≤◌, List, [], ◌∷◌, ◌++◌, length, map, get_or, refl, sym, ◌∙◌, ap, subst, arith, All, Bool, Some}
use Rattle.std.specs.Prelude.{slice_index, count_by, Option, IfSome}
use Rattle.std.proofs.lemmas.List.{length-map}
use Rattle.std.proofs.lemmas.Simd.{map-map}
use Rattle.std.proofs.lemmas.List.Sums.{count_by-le-length, get_or-le-sum_by}
use Rattle.std.proofs.lemmas.Nat.{mul-le}
use Rattle.definitions.specs.declared.Cell.{Cell}
use Rattle.definitions.specs.Sets.{FamilyValue, ScaledValue, cells_of, set_sum, unit_at}
use Rattle.definitions.specs.Rounding.{Rounds, SideSet, is_fractional}
use Rattle.definitions.specs.Peelings.{PeelerValue, sets_of, IsStep, Peeled}
use Rattle.definitions.specs.Pieces.{WeightedMatrix, Decomposes}
use Rattle.definitions.proofs.Gives.{AreShaped}
use Rattle.rounding_laws.proofs.Peeling.{piece, peeled_start, peeled_step, peeled_end}
use Rattle.rounding_laws.proofs.Rounded.{rounded_within}
use Rattle.bounded_flow.specs.Nets.{side_set}
use Rattle.peeling.specs.Peelers.{IsPeeler, IsStart, IsLater}

-- the piece that a lawful decomposition shows has one count for each cell, at most 1,000
pub shown_shape : (v : PeelerValue) (m : List ℕ) → IsPeeler v → v.piece ≡ Some m → (length m ≡ v.agents * v.columns) × All (λ n. n ≤ 1000) m
shown_shape v m lawful e = subst (λ (o : Option (List ℕ)). IfSome o (λ p. (length p ≡ v.agents * v.columns) × All (λ n. n ≤ 1000) p)) e lawful.piece

-- from `start` to `now` these pieces were given, in this order
pub record Gave (start now : PeelerValue) (pieces : List WeightedMatrix) : Type 0 where
  pub later : IsLater start now
  pub peeled : Peeled start.columns (sets_of start) start.rest start.left now.rest now.left pieces

-- nothing was given yet
pub gave_nothing : (start : PeelerValue) → Gave start start []
gave_nothing start = record {
  later = record { agents = refl; columns = refl; sets = refl; weights = refl };
  peeled = peeled_start start.columns start.left (sets_of start) start.rest;
}

-- a decomposition for a family has the family's cells of sets
pub start_sets : (f : FamilyValue) (x : ScaledValue) (start : PeelerValue) → IsStart f x start → sets_of start ≡ cells_of f
start_sets f x start starts = ap (λ (s : List SideSet). map (λ (q : SideSet). q.cells) s) starts.sets ∙ map-map (λ (q : SideSet). q.cells) side_set f.sets

-- the same decomposition has the same cells of sets
pub later_sets : (start now : PeelerValue) → IsLater start now → sets_of now ≡ sets_of start
later_sets start now later = ap (λ (s : List SideSet). map (λ (q : SideSet). q.cells) s) later.sets

-- one more piece is given
pub gave_more : (start now next : PeelerValue) (w : ℕ) (m : List ℕ) (ps : List WeightedMatrix) → Gave start now ps → IsStep now next w m
    → Gave start next (ps ++ piece w m ∷ [])
gave_more start now next w m ps gave step =
    let sets : sets_of now ≡ sets_of start = later_sets start now gave.later in
    let columns : now.columns ≡ start.columns = gave.later.columns in
    let here : Peeled now.columns (sets_of now) start.rest start.left now.rest now.left ps =
    subst (λ (c : ℕ). Peeled c (sets_of now) start.rest start.left now.rest now.left ps) (sym columns)
    (subst (λ (s : List (List Cell)). Peeled start.columns s start.rest start.left now.rest now.left ps) (sym sets) gave.peeled) in
    let more : Peeled now.columns (sets_of now) start.rest start.left next.rest next.left (ps ++ piece w m ∷ []) =
    peeled_step now next w start.left m start.rest ps step here in
    record {
      later = record {
        agents = step.same.1 ∙ gave.later.agents;
        columns = step.same.2 ∙ columns;
        sets = step.same.0 ∙ gave.later.sets;
        weights = omega (arith, step.left, step.given, gave.later.weights);
      };
      peeled = subst (λ (c : ℕ). Peeled c (sets_of start) start.rest start.left next.rest next.left (ps ++ piece w m ∷ [])) columns
          (subst (λ (s : List (List Cell)). Peeled now.columns s start.rest start.left next.rest next.left (ps ++ piece w m ∷ [])) sets more);
    }

-- all was given
pub gave_all : (start now : PeelerValue) (ps : List WeightedMatrix) → Gave start now ps → IsPeeler now → now.left ≡ 0
    → Decomposes start.columns (sets_of start) start.rest start.left ps
gave_all start now ps gave lawful none =
    let over : Peeled start.columns (sets_of start) start.rest start.left now.rest 0 ps =
    subst (λ (d : ℕ). Peeled start.columns (sets_of start) start.rest start.left now.rest d ps) none gave.peeled in
    peeled_end start.columns start.left (sets_of start) start.rest now.rest ps over
    (λ i d h. let low : get_or now.rest i d ≤ 1000 * now.left = lawful.rest_limit i d h in omega (arith, low, none))

-- while something is left, few pieces were given
pub few_given : (start now : PeelerValue) (ps : List WeightedMatrix) → Gave start now ps → IsPeeler start → 1 ≤ now.left → length ps ≤ 203000
few_given start now ps gave lawful some =
    let broken : List Cell → Bool = λ s. is_fractional start.left (set_sum (unit_at start.columns start.rest) s) in
    let cells : count_by (is_fractional start.left) start.rest ≤ length start.rest = count_by-le-length (is_fractional start.left) start.rest in
    let sums : count_by broken (sets_of start) ≤ length (sets_of start) = count_by-le-length broken (sets_of start) in
    let many : length (sets_of start) ≡ length start.sets = length-map start.sets (λ (s : SideSet). s.cells) in
    let area : start.agents * start.columns ≤ 1000 * 201 = mul-le start.agents start.columns 1000 201 lawful.agents_limit lawful.columns_limit in
    omega (arith, gave.peeled.few some, cells, sums, many, area, lawful.rest_shape, lawful.sets_limit)

-- pieces that decompose what a lawful decomposition has left have one count for each cell, at most 1,000
pub shaped_pieces : (start : PeelerValue) (ps : List WeightedMatrix) → IsPeeler start → Decomposes start.columns (sets_of start) start.rest start.left ps
    → AreShaped start.agents start.columns ps
shaped_pieces start ps lawful decompose k d h =
    let p : WeightedMatrix = get_or ps k d in
    let rounds : Rounds start.columns (sets_of start) start.rest start.left p.matrix = decompose.rounded k d h in
    let weight : p.weight ≤ start.left = omega (arith, get_or-le-sum_by (λ (q : WeightedMatrix). q.weight) ps k d h, decompose.adds_up) in
    let some : 1 ≤ start.left = omega (arith, decompose.weights k d h, weight) in (
      rounds.shape ∙ lawful.rest_shape,
      λ i l. let within : i < length start.rest = omega (arith, l, rounds.shape) in
          (rounded_within 0 1000 (slice_index start.rest i) start.left (slice_index p.matrix i) some (rounds.cells i within) (omega arith) (lawful.rest_limit i 0 within)).1,
    )
