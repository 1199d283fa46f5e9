-- Along crossing sets with different sides the sides take turns, so an odd ring has two neighbours on one side.
use Rattle.std.proofs.Common.{◌≡◌, ℕ, zero, suc, ◌+◌, ◌-◌, ◌%◌, ◌<◌, ◌≤◌, ◌⊎◌, ◌∙◌, List, length, Bool, true, false, refl, sym, subst, inl, inr, arith}
use Rattle.std.specs.Prelude.{◌==◌, All, slice_index}
use Rattle.std.proofs.lemmas.Bool.{both_ways, eq-eqb, ne_eqb}
use Rattle.definitions.specs.declared.Cell.{Cell}
use Rattle.definitions.specs.Sets.{Cross, IsNumberOf}
use Rattle.definitions.specs.Sides.{IsColoring, IsOddRing}
use Rattle.side_laws.specs.Rings.{LeavesCrossing}

-- of three, two are equal
two_of_three : (a b c : Bool) → (a ≡ b) ⊎ ((b ≡ c) ⊎ (c ≡ a))
two_of_three true true c = inl refl
two_of_three false false c = inl refl
two_of_three true false true = inr (inr refl)
two_of_three true false false = inr (inl refl)
two_of_three false true true = inr (inl refl)
two_of_three false true false = inr (inr refl)

-- two that are related and have one side
abbrev OneSided : (ℕ → ℕ → Type 0) → (ℕ → Bool) → Type 0
OneSided R side = (a : ℕ) × (b : ℕ) × R a b × (side a ≡ side b)

-- an even number of steps on, the side is that of the start, unless two neighbours have one side
take_turns : (R : ℕ → ℕ → Type 0) (side : ℕ → Bool) (f : ℕ → ℕ) (k : ℕ) → ((i j : ℕ) → i + 1 ≡ j → j ≤ k → R (f i) (f j)) → k % 2 ≡ 0
    → OneSided R side ⊎ (side (f k) ≡ side (f 0))
take_turns R side f zero path even = inr refl
take_turns R side f (suc zero) path even = absurd (omega (arith, even))
take_turns R side f (suc (suc k)) path even = elim (take_turns R side f k (λ i j e l. path i j e (omega (arith, l))) (omega (arith, even))) [
  | inl found ↦ inl found
  | inr same ↦ elim (two_of_three (side (f k)) (side (f (suc k))) (side (f (suc (suc k))))) [
    | inl e ↦ inl (f k, f (suc k), path k (suc k) (omega arith) (omega arith), e)
    | inr (inl e) ↦ inl (f (suc k), f (suc (suc k)), path (suc k) (suc (suc k)) (omega arith) (omega arith), e)
    | inr (inr e) ↦ inr (e ∙ same)
  ]
]

same_side : (x y : ℕ) → (x ≡ 1) ⊎ (x ≡ 2) → (y ≡ 1) ⊎ (y ≡ 2) → (x == 1) ≡ (y == 1) → x ≡ y
same_side x y (inl p) (inl q) e = p ∙ sym q
same_side x y (inr p) (inr q) e = p ∙ sym q
same_side x y (inl p) (inr q) e = absurd (both_ways (y == 1) (ne_eqb y 1 (λ k. omega (arith, k, q))) (sym e ∙ eq-eqb x 1 p))
same_side x y (inr p) (inl q) e = absurd (both_ways (x == 1) (ne_eqb x 1 (λ k. omega (arith, k, p))) (e ∙ eq-eqb y 1 q))

-- two known sets, of which the first crosses the second
abbrev KnownCross : List (List Cell) → ℕ → ℕ → Type 0
KnownCross sets a b = IsNumberOf sets a × IsNumberOf sets b × Cross sets a b

-- each choice of sides leaves two crossing sets on one side
pub ring_leaves_crossing : (sets : List (List Cell)) (ring : List ℕ) → IsOddRing sets ring
    → (sides : List ℕ) → length sides ≡ length sets → All (λ s. (s ≡ 1) ⊎ (s ≡ 2)) sides → LeavesCrossing sets sides
ring_leaves_crossing sets ring r sides many two =
    let last = length ring - 1 in
    elim (take_turns (KnownCross sets) side at last path (let odd = r.odd in let three = r.three in omega arith)) [
      | inl found ↦ leaves found.0 found.1 found.2 found.3
      | inr same ↦ leaves (at last) (at 0) (known last (let three = r.three in omega arith), known 0 (let three = r.three in omega arith), r.closed) same
    ]
  where
    side : ℕ → Bool
    side s = slice_index sides (s - 1) == 1

    at : ℕ → ℕ
    at k = slice_index ring k

    known : (k : ℕ) → k < length ring → IsNumberOf sets (slice_index ring k)
    known k l = r.known k 0 l

    path : (i j : ℕ) → i + 1 ≡ j → j ≤ length ring - 1 → KnownCross sets (slice_index ring i) (slice_index ring j)
    path i j e l =
        let three = r.three in
        let next : Cross sets (slice_index ring i) (slice_index ring (i + 1)) = r.next i (omega arith) in
        (known i (omega arith), known j (omega arith), subst (λ n. Cross sets (slice_index ring i) (slice_index ring n)) e next)

    known_side : (a : ℕ) → IsNumberOf sets a → (slice_index sides (a - 1) ≡ 1) ⊎ (slice_index sides (a - 1) ≡ 2)
    known_side a k = two (a - 1) 0 (let low = k.0 in let high = k.1 in omega arith)

    leaves : (a b : ℕ) → KnownCross sets a b → (slice_index sides (a - 1) == 1) ≡ (slice_index sides (b - 1) == 1) → LeavesCrossing sets sides
    leaves a b k e = record {
      one = a;
      other = b;
      one_known = k.0;
      other_known = k.1;
      one_side = same_side (slice_index sides (a - 1)) (slice_index sides (b - 1)) (known_side a k.0) (known_side b k.1) e;
      cross = k.2;
    }

-- so none is a colouring
pub ring_has_no_coloring : (sets : List (List Cell)) (ring : List ℕ) → IsOddRing sets ring → (sides : List ℕ) → IsColoring sets sides → ⊥
ring_has_no_coloring sets ring r sides c =
    let found = ring_leaves_crossing sets ring r sides c.many c.two in
    c.apart found.one found.other found.one_known found.other_known found.one_side found.cross
