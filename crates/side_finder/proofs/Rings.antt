-- The ways up from two sets of one part and depth that cross make an odd ring.
use Rattle.std.proofs.Common.{◌≡◌, ℕ, zero, suc, ◌+◌, ◌-◌, ◌%◌, ◌<◌, ◌≤◌, ◌⊎◌, ◌∙◌, List, [], ◌∷◌, ◌++◌, Option, Bool, true, false, length, get_or, refl, sym, ap, subst, inl, inr, arith, length-append}
use Rattle.std.specs.Prelude.{◌==◌, nat_eq, slice_index, if◌then◌else◌}
use Rattle.std.specs.List.{IsDistinct}
use Rattle.std.specs.Set.{is_member}
use Rattle.std.proofs.lemmas.Bool.{both_ways, eqb-true, eq-eqb, false_from_ne_true, or_cases}
use Rattle.definitions.specs.declared.Cell.{Cell}
use Rattle.definitions.specs.Sets.{Cross, IsNumberOf, cells_at, crosses}
use Rattle.definitions.specs.Sides.{CrossAt, IsOddRing}
use Rattle.definitions.proofs.Members.{crosses_self, distinct_append, distinct_more, distinct_none, member_append, member_at, number_test}
use Rattle.side_finder.specs.declared.forest.Mark.{Mark}
use Rattle.side_finder.specs.Marks.{depth_at, start_at, up_at}
use Rattle.side_finder.specs.Ways.{ring_after, ring_from}
use Rattle.side_finder.proofs.Parts.{AreLevels}
use Rattle.side_finder.proofs.RingLists.{AreSteps, last_at, last_from, last_more, steps_at, steps_more}

module _ (sets : List (List Cell)) (marks : List (Option Mark)) (h : AreLevels sets (up_at marks) (depth_at marks) (start_at marks)) where
  -- the numbers from a up to where the ways meet, of which xs are those after a, and down to b
  record IsRingAfter (a b k : ℕ) (xs : List ℕ) : Type 0 where
    steps : AreSteps (Cross sets) (a + 1) xs
    ends : last_from (a + 1) xs ≡ b + 1
    even : length xs % 2 ≡ 0
    some : (a ≡ b → ⊥) → 2 ≤ length xs
    members : (x : ℕ) → is_member nat_eq ((a + 1) ∷ xs) x ≡ true → IsNumberOf sets x × (depth_at marks (x - 1) ≤ k)
    distinct : IsDistinct nat_eq ((a + 1) ∷ xs)

  number_of : (a k x : ℕ) → a < length sets → depth_at marks a ≤ k → x ≡ a + 1 → IsNumberOf sets x × (depth_at marks (x - 1) ≤ k)
  number_of a k x l d e =
      let back : x - 1 ≡ a = omega (arith, e) in
      ((omega (arith, e), omega (arith, e, l)), subst (λ (v : ℕ). depth_at marks v ≤ k) (sym back) d)

  alone : (a b k : ℕ) → a < length sets → a ≡ b → depth_at marks a ≤ k → IsRingAfter a b k []
  alone a b k l e d = record {
    steps = tt;
    ends = ap (λ (v : ℕ). v + 1) e;
    even = refl;
    some = λ differ. absurd (differ e);
    members = λ x m. elim (or_cases (nat_eq x (a + 1)) false m) [
      | inl here ↦ number_of a k x l d (eqb-true x (a + 1) here)
      | inr never ↦ absurd (both_ways false refl never)
    ];
    distinct = distinct_more nat_eq (a + 1) [] refl (distinct_none nat_eq);
  }

  -- one step further out
  module _ (a b p q k : ℕ) (ys : List ℕ) (first : a < length sets) (second : b < length sets) (differ : a ≡ b → ⊥)
      (deep_a : depth_at marks a ≡ k + 1) (deep_b : depth_at marks b ≡ k + 1)
      (cross_a : CrossAt sets a p) (cross_b : CrossAt sets q b) (r : IsRingAfter p q k ys) where
    abbrev inner : List ℕ
    inner = (p + 1) ∷ ys

    abbrev whole : List ℕ
    whole = (p + 1) ∷ (ys ++ (b + 1) ∷ [])

    -- what stands in the new ring after a
    in_whole : (x : ℕ) → is_member nat_eq whole x ≡ true → (is_member nat_eq inner x ≡ true) ⊎ (x ≡ b + 1)
    in_whole x m = elim (or_cases (is_member nat_eq inner x) (is_member nat_eq ((b + 1) ∷ []) x) (sym (member_append nat_eq number_test inner ((b + 1) ∷ []) x) ∙ m)) [
      | inl within ↦ inl within
      | inr last ↦ elim (or_cases (nat_eq x (b + 1)) false last) [
        | inl here ↦ inr (eqb-true x (b + 1) here)
        | inr never ↦ absurd (both_ways false refl never)
      ]
    ]

    -- the outer two aren't in the inner ring
    too_deep : (v : ℕ) → depth_at marks v ≡ k + 1 → is_member nat_eq inner (v + 1) ≡ true → ⊥
    too_deep v deep m =
        let back : v + 1 - 1 ≡ v = omega arith in
        let low = subst (λ (w : ℕ). depth_at marks w ≤ k) back (r.members (v + 1) m).1 in
        omega (arith, low, deep)

    members_around : (x : ℕ) → is_member nat_eq ((a + 1) ∷ whole) x ≡ true → IsNumberOf sets x × (depth_at marks (x - 1) ≤ k + 1)
    members_around x m = elim (or_cases (nat_eq x (a + 1)) (is_member nat_eq whole x) m) [
      | inl here ↦ number_of a (k + 1) x first (omega (arith, deep_a)) (eqb-true x (a + 1) here)
      | inr later ↦ elim (in_whole x later) [
        | inl within ↦ (let known = r.members x within in (known.0, omega (arith, known.1)))
        | inr last ↦ number_of b (k + 1) x second (omega (arith, deep_b)) last
      ]
    ]

    distinct_around : IsDistinct nat_eq ((a + 1) ∷ whole)
    distinct_around =
        distinct_more nat_eq (a + 1) whole
        (false_from_ne_true (is_member nat_eq whole (a + 1)) (λ m. elim (in_whole (a + 1) m) [
          | inl within ↦ too_deep a deep_a within
          | inr last ↦ differ (omega (arith, last))
        ]))
        (distinct_append nat_eq number_test inner ((b + 1) ∷ []) r.distinct (distinct_more nat_eq (b + 1) [] refl (distinct_none nat_eq))
        (λ x within last. elim (or_cases (nat_eq x (b + 1)) false last) [
          | inl here ↦ too_deep b deep_b (subst (λ (v : ℕ). is_member nat_eq inner v ≡ true) (eqb-true x (b + 1) here) within)
          | inr never ↦ absurd (both_ways false refl never)
        ]))

    around : IsRingAfter a b (k + 1) whole
    around = record {
      steps = (cross_a, steps_more (Cross sets) (p + 1) ys (b + 1) r.steps (subst (λ (x : ℕ). Cross sets x (b + 1)) (sym r.ends) cross_b));
      ends = last_more (p + 1) ys (b + 1);
      even = (let even = r.even in let count = length-append ys ((b + 1) ∷ []) in omega (arith, even, count));
      some = λ differ. (let count = length-append ys ((b + 1) ∷ []) in omega (arith, count));
      members = members_around;
      distinct = distinct_around;
    }

  ring_right : (k a b : ℕ) → a < length sets → b < length sets → depth_at marks a ≡ k → depth_at marks b ≡ k → start_at marks a ≡ start_at marks b
      → IsRingAfter a b k (ring_after marks k a b)
  ring_right zero a b first second da db same = elim (h.step a first) [
    | inr next ↦ absurd (omega (arith, da, next.2))
    | inl one ↦ elim (h.step b second) [
      | inr next ↦ absurd (omega (arith, db, next.2))
      | inl other ↦ alone a b 0 first (sym one.1 ∙ same ∙ other.1) (omega (arith, da))
    ]
  ]
  ring_right (suc k) a b first second da db same =
      by_test (a == b) refl (λ l m d e s. ring_right k (up_at marks a) (up_at marks b) l m d e s)
    where
      by_test : (t : Bool) → (a == b) ≡ t
          → (up_at marks a < length sets → up_at marks b < length sets → depth_at marks (up_at marks a) ≡ k → depth_at marks (up_at marks b) ≡ k
          → start_at marks (up_at marks a) ≡ start_at marks (up_at marks b) → IsRingAfter (up_at marks a) (up_at marks b) k (ring_after marks k (up_at marks a) (up_at marks b)))
          → IsRingAfter a b (suc k) (if t then [] else ((up_at marks a + 1) ∷ (ring_after marks k (up_at marks a) (up_at marks b) ++ (b + 1) ∷ [])))
      by_test true e inner = alone a b (suc k) first (eqb-true a b e) (omega (arith, da))
      by_test false e inner = elim (h.step a first) [
        | inl one ↦ absurd (omega (arith, da, one.0))
        | inr next ↦ elim (h.step b second) [
          | inl other ↦ absurd (omega (arith, db, other.0))
          | inr beside ↦
              let more : k + 1 ≡ suc k = omega arith in
              subst (λ (n : ℕ). IsRingAfter a b n ((up_at marks a + 1) ∷ (ring_after marks k (up_at marks a) (up_at marks b) ++ (b + 1) ∷ []))) more
              (around a b (up_at marks a) (up_at marks b) k (ring_after marks k (up_at marks a) (up_at marks b)) first second
              (λ one. both_ways (a == b) e (eq-eqb a b one)) (omega (arith, da)) (omega (arith, db))
              (h.turned (up_at marks a) a next.0 first next.1) beside.1
              (inner next.0 beside.0 (omega (arith, da, next.2)) (omega (arith, db, beside.2)) (next.3 ∙ same ∙ sym beside.3)))
        ]
      ]

  module _ (a b : ℕ) (first : a < length sets) (second : b < length sets) (cross : CrossAt sets a b)
      (depth : depth_at marks a ≡ depth_at marks b) (start : start_at marks a ≡ start_at marks b) where
    right : IsRingAfter a b (depth_at marks a) (ring_after marks (depth_at marks a) a b)
    right = ring_right (depth_at marks a) a b first second refl (sym depth) start

    two : a ≡ b → ⊥
    two e =
        let cells : List Cell = cells_at sets (a + 1) in
        both_ways (crosses cells cells) (crosses_self cells) (subst (λ (x : ℕ). CrossAt sets a x) (sym e) cross)

    pub ring_is_odd : IsOddRing sets (ring_from marks a b)
    ring_is_odd = record {
      odd = (let even = right.even in omega (arith, even));
      three = (let some = right.some two in omega (arith, some));
      known = λ k d l. (right.members (get_or (ring_from marks a b) k d) (member_at nat_eq number_test (ring_from marks a b) k d l)).0;
      next = λ k l. (
          let more : suc k ≡ k + 1 = omega arith in
          subst (λ (j : ℕ). Cross sets (slice_index (ring_from marks a b) k) (slice_index (ring_from marks a b) j)) more
          (steps_at (Cross sets) (a + 1) (ring_after marks (depth_at marks a) a b) right.steps k (omega (arith, l))));
      closed = (
          let end : length (ring_from marks a b) - 1 ≡ length (ring_after marks (depth_at marks a) a b) = omega arith in
          let last : slice_index (ring_from marks a b) (length (ring_from marks a b) - 1) ≡ b + 1 =
          ap (λ (j : ℕ). slice_index (ring_from marks a b) j) end ∙ last_at (a + 1) (ring_after marks (depth_at marks a) a b) ∙ right.ends in
          subst (λ (x : ℕ). Cross sets x (a + 1)) (sym last) (h.turned a b first second cross));
    }

    pub ring_is_distinct : IsDistinct nat_eq (ring_from marks a b)
    ring_is_distinct = right.distinct
