-- From words to single bits.
use Rattle.std.proofs.Common.{◌≡◌, ◌≢◌, ℕ, ◌+◌, ◌*◌, ◌/◌, ◌%◌, ◌^◌, ◌<◌, ◌≤◌, ◌↔◌, ◌∙◌, List, [], ◌∷◌, true, not, eqb, length, get_or, set, bit_and, bit_or, refl, sym, ap, ap₂, inl, inr, arith, zero, suc, min, w64, Fits}
use Rattle.std.proofs.lemmas.Nat.{and_le_l}
use Rattle.std.proofs.lemmas.Nat.Bits.{same_from_bits, bit_at_above, bit_at-lt, bit_at-zero, bit_at_and, bit_at_set_same, bit_at_set_other, bit_at-trailing_zeros}
use Rattle.std.proofs.lemmas.Bool.{ne_eqb, cases_eq, eqb-true, or_cases, or_left, or_right, both_ways, and_parts, and_from, cases_lt}
use Rattle.std.proofs.lemmas.Bool.Decides.{nat_tests}
use Rattle.std.proofs.lemmas.List.{get_or-set_same, get_or-set_other}
use Rattle.std.specs.Int.{bit_at, trailing_zeros}
use Rattle.plane_kernel.specs.Bits.{bit_of, Overlap, IsWithin}
use Rattle.plane_kernel.specs.Words.{words_meet, words_within}

pub set_here : (a : List ℕ) (bit : ℕ) → bit / 64 < length a
    → bit_of (set a (bit / 64) (bit_or (get_or a (bit / 64) 0) (1 * 2 ^ (bit % 64) % 2 ^ 64))) bit ≡ 1
set_here a bit inside =
    ap (λ v. bit_at v (bit % 64)) (get_or-set_same a (bit / 64) _ 0 inside)
    ∙ bit_at_set_same w64 (get_or a (bit / 64) 0) (bit % 64) (omega arith)

same_place : (j k : ℕ) → j / 64 ≡ k / 64 → j % 64 ≡ k % 64 → j ≡ k
same_place j k p q = omega arith

pub set_elsewhere : (a : List ℕ) (bit k : ℕ) → bit / 64 < length a → k ≢ bit
    → bit_of (set a (bit / 64) (bit_or (get_or a (bit / 64) 0) (1 * 2 ^ (bit % 64) % 2 ^ 64))) k ≡ bit_of a k
set_elsewhere a bit k inside other =
    let v = bit_or (get_or a (bit / 64) 0) (1 * 2 ^ (bit % 64) % 2 ^ 64) in
    elim (cases_eq (k / 64) (bit / 64)) [
      | inl e ↦
          ap (λ i. bit_at (get_or (set a (bit / 64) v) i 0) (k % 64)) e
          ∙ ap (λ x. bit_at x (k % 64)) (get_or-set_same a (bit / 64) v 0 inside)
          ∙ bit_at_set_other w64 (get_or a (bit / 64) 0) (bit % 64) (omega arith) (k % 64) (λ q. other (same_place k bit e q))
          ∙ ap (λ i. bit_at (get_or a i 0) (k % 64)) (sym e)
      | inr d ↦ ap (λ x. bit_at x (k % 64)) (get_or-set_other a (bit / 64) (k / 64) v 0 d)
    ]

-- the word where two planes meet
meets_at : (a b : List ℕ) → words_meet a b ≡ true → (w : ℕ) × (bit_and (get_or a w 0) (get_or b w 0) ≡ 0 → ⊥)
meets_at [] b h = absurd (cc)
meets_at (x ∷ xs) [] h = absurd (cc)
meets_at (x ∷ xs) (y ∷ ys) h =
    elim (or_cases (not (eqb (bit_and x y) 0)) (words_meet xs ys) h) [
      | inl p ↦ (0, λ e. some_bit (bit_and x y) p e)
      | inr q ↦ (let r = meets_at xs ys q in (suc r.0, r.1))
    ]
  where
    some_bit : (n : ℕ) → not (eqb n 0) ≡ true → n ≡ 0 → ⊥
    some_bit n p e = both_ways (not (eqb n 0)) (ap (λ m. not (eqb m 0)) e) p

meets_from : (a b : List ℕ) (w : ℕ) → (bit_and (get_or a w 0) (get_or b w 0) ≡ 0 → ⊥) → words_meet a b ≡ true
meets_from [] b w h = absurd (h refl)
meets_from (x ∷ xs) [] w h = absurd (h (and_zero (get_or (x ∷ xs) w 0)))
  where
    and_zero : (n : ℕ) → bit_and n 0 ≡ 0
    and_zero n = same_from_bits (bit_and n 0) 0 (λ i. bit_at_and n 0 i ∙ least (bit_at n i) (bit_at 0 i) (bit_at-zero i) ∙ sym (bit_at-zero i))
      where
        least : (p q : ℕ) → q ≡ 0 → min p q ≡ 0
        least p q e = omega arith
meets_from (x ∷ xs) (y ∷ ys) zero h = or_left _ (words_meet xs ys) (ap not (ne_eqb (bit_and x y) 0 h))
meets_from (x ∷ xs) (y ∷ ys) (suc w) h = or_right (not (eqb (bit_and x y) 0)) _ (meets_from xs ys w h)

both_bits : (p q : ℕ) → min p q ≡ 1 → p < 2 → q < 2 → (p ≡ 1) × (q ≡ 1)
both_bits p q e f g = (omega arith, omega arith)

least_bit : (p q : ℕ) → p ≡ 1 → q ≡ 1 → min p q ≡ 1
least_bit p q e f = omega arith

whole : (w i : ℕ) → i < 64 → (64 * w + i) / 64 ≡ w
whole w i h = omega arith

part : (w i : ℕ) → i < 64 → (64 * w + i) % 64 ≡ i
part w i h = omega arith

place_of : (a : List ℕ) (w i : ℕ) → i < 64 → bit_at (get_or a w 0) i ≡ 1 → bit_of a (64 * w + i) ≡ 1
place_of a w i h e = ap₂ (λ u v. bit_at (get_or a u 0) v) (whole w i h) (part w i h) ∙ e

pub meet_overlaps : (a b : List ℕ) → ((k : ℕ) → Fits w64 (get_or a k 0)) → words_meet a b ≡ true ↔ Overlap a b
meet_overlaps a b fit = (there, back)
  where
    there : words_meet a b ≡ true → Overlap a b
    there h =
        let r = meets_at a b h in
        let w = r.0 in
        let n = bit_and (get_or a w 0) (get_or b w 0) in
        let le = and_le_l (get_or a w 0) (get_or b w 0) in
        let small = (fit w).fits in
        let z = bit_at-trailing_zeros w64 n (positive n r.1) (omega (arith, le, small)) in
        let i = trailing_zeros w64 n in
        let e = bit_at_and (get_or a w 0) (get_or b w 0) i in
        let two = both_bits (bit_at (get_or a w 0) i) (bit_at (get_or b w 0) i) (sym e ∙ z.1) (bit_at-lt _ i) (bit_at-lt _ i) in
        (64 * w + i, place_of a w i z.0 two.0, place_of b w i z.0 two.1)
      where
        positive : (n : ℕ) → (n ≡ 0 → ⊥) → 0 < n
        positive zero h = absurd (h refl)
        positive (suc n) h = omega arith

    back : Overlap a b → words_meet a b ≡ true
    back s =
        let w = s.0 / 64 in
        let i = s.0 % 64 in
        meets_from a b w (λ e. one_not_zero (sym (least_bit _ _ s.1 s.2) ∙ sym (bit_at_and (get_or a w 0) (get_or b w 0) i) ∙ ap (λ n. bit_at n i) e ∙ bit_at-zero i))
      where
        one_not_zero : ◌≡◌ {A = ℕ} 1 0 → ⊥
        one_not_zero e = cc

-- a word is within another exactly where each of its bits is
word_within : (x y : ℕ) → (bit_and x y ≡ x) ↔ ((i : ℕ) → bit_at x i ≡ 1 → bit_at y i ≡ 1)
word_within x y = (there, back)
  where
    there : bit_and x y ≡ x → (i : ℕ) → bit_at x i ≡ 1 → bit_at y i ≡ 1
    there e i h = let m = sym (bit_at_and x y i) ∙ ap (λ n. bit_at n i) e in of_min (bit_at x i) (bit_at y i) m h (bit_at-lt y i)
      where
        of_min : (p q : ℕ) → min p q ≡ p → p ≡ 1 → q < 2 → q ≡ 1
        of_min p q e f g = omega arith

    back : ((i : ℕ) → bit_at x i ≡ 1 → bit_at y i ≡ 1) → bit_and x y ≡ x
    back f = same_from_bits (bit_and x y) x (λ i. bit_at_and x y i ∙ to_min (bit_at x i) (bit_at y i) (bit_at-lt x i) (f i))
      where
        to_min : (p q : ℕ) → p < 2 → (p ≡ 1 → q ≡ 1) → min p q ≡ p
        to_min zero q h g = omega arith
        to_min (suc p) q h g = let e : suc p ≡ 1 = omega arith in let k = g e in omega arith

eqb_self : (n : ℕ) → eqb n n ≡ true
eqb_self n = grind (arith, nat_tests)

within_at : (a b : List ℕ) → length a ≡ length b → words_within a b ≡ true → (w : ℕ) → bit_and (get_or a w 0) (get_or b w 0) ≡ get_or a w 0
within_at [] b e h w = refl
within_at (x ∷ xs) [] e h w = absurd (omega arith)
within_at (x ∷ xs) (y ∷ ys) e h zero = eqb-true (bit_and x y) x (and_parts (eqb (bit_and x y) x) (words_within xs ys) h).0
within_at (x ∷ xs) (y ∷ ys) e h (suc w) = within_at xs ys (omega arith) (and_parts (eqb (bit_and x y) x) (words_within xs ys) h).1 w

within_from : (a b : List ℕ) → ((w : ℕ) → bit_and (get_or a w 0) (get_or b w 0) ≡ get_or a w 0) → words_within a b ≡ true
within_from [] b h = refl
within_from (x ∷ xs) [] h = refl
within_from (x ∷ xs) (y ∷ ys) h =
    and_from (eqb (bit_and x y) x) (words_within xs ys) (ap (λ n. eqb n x) (h 0) ∙ eqb_self x) (within_from xs ys (λ w. h (suc w)))

high_bit : (a : List ℕ) → ((k : ℕ) → Fits w64 (get_or a k 0)) → (w i : ℕ) → 64 ≤ i → bit_at (get_or a w 0) i ≡ 0
high_bit a fit w i h = bit_at_above (get_or a w 0) 64 i (fit w).fits h

pub within_bits : (a b : List ℕ) → ((k : ℕ) → Fits w64 (get_or a k 0)) → length a ≡ length b → words_within a b ≡ true ↔ IsWithin a b
within_bits a b fit same =
    (λ h k. (word_within (get_or a (k / 64) 0) (get_or b (k / 64) 0)).0 (within_at a b same h (k / 64)) (k % 64), back)
  where
    back : IsWithin a b → words_within a b ≡ true
    back f = within_from a b (λ w. (word_within (get_or a w 0) (get_or b w 0)).1 (λ i e. each w i e))
      where
        each : (w i : ℕ) → bit_at (get_or a w 0) i ≡ 1 → bit_at (get_or b w 0) i ≡ 1
        each w i e =
            elim (cases_lt i 64) [
              | inl low ↦ (let r = f (64 * w + i) (place_of a w i low e) in
                  sym (ap₂ (λ u v. bit_at (get_or b u 0) v) (whole w i low) (part w i low)) ∙ r)
              | inr high ↦ absurd (zero_not_one (sym (high_bit a fit w i high) ∙ e))
            ]
          where
            zero_not_one : ◌≡◌ {A = ℕ} 0 1 → ⊥
            zero_not_one e = cc
