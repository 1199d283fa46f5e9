-- The ring, one step further out.
use Rattle.std.proofs.Common.{◌≡◌, ℕ, zero, suc, ◌+◌, ◌∙◌, List, [], ◌∷◌, ◌++◌, Option, Bool, append_assoc, refl, sym, ap, ap₂, inl, inr, arith}
use Rattle.std.specs.Prelude.{if◌then◌else◌}
use Rattle.std.proofs.lemmas.Bool.{eq-eqb, ne_eqb}
use Rattle.side_finder.specs.declared.forest.Mark.{Mark}
use Rattle.side_finder.specs.Marks.{depth_at, up_at}
use Rattle.side_finder.specs.Ways.{ArePair, AreWaysUp, ring_after, ring_from}

-- the ways have met
pub ring_closed : (marks : List (Option Mark)) (a b : ℕ) → a ≡ b → ring_from marks a b ≡ (a + 1) ∷ []
ring_closed marks a b e = ap (λ (xs : List ℕ). (a + 1) ∷ xs) (none (depth_at marks a))
  where
    none : (k : ℕ) → ring_after marks k a b ≡ []
    none zero = refl
    none (suc k) = ap (λ (t : Bool). if t then [] else ((up_at marks a + 1) ∷ (ring_after marks k (up_at marks a) (up_at marks b) ++ (b + 1) ∷ []))) (eq-eqb a b e)

-- both of a pair lead up, to a pair
pub lead_up : (marks : List (Option Mark)) (a b : ℕ) → AreWaysUp marks → ArePair marks a b → (a ≡ b → ⊥)
    → (depth_at marks a ≡ depth_at marks (up_at marks a) + 1) × ArePair marks (up_at marks a) (up_at marks b)
lead_up marks a b ways pair differ = elim (ways.step a pair.first) [
  | inl one ↦ elim (ways.step b pair.second) [
    | inl other ↦ absurd (differ (sym one.1 ∙ pair.start ∙ other.1))
    | inr next ↦ absurd (let same = pair.depth in omega (arith, same, one.0, next.1))
  ]
  | inr next ↦ elim (ways.step b pair.second) [
    | inl other ↦ absurd (let same = pair.depth in omega (arith, same, other.0, next.1))
    | inr beside ↦ (
      next.1,
      record {
        first = next.0;
        second = beside.0;
        depth = (let same = pair.depth in omega (arith, same, next.1, beside.1));
        start = next.2 ∙ pair.start ∙ sym beside.2;
      },
    )
  ]
]

pub ring_opened : (marks : List (Option Mark)) (a b : ℕ) → AreWaysUp marks → ArePair marks a b → (a ≡ b → ⊥)
    → ring_from marks a b ≡ (a + 1) ∷ (ring_from marks (up_at marks a) (up_at marks b) ++ (b + 1) ∷ [])
ring_opened marks a b ways pair differ =
    let up = lead_up marks a b ways pair differ in
    let deep : depth_at marks a ≡ suc (depth_at marks (up_at marks a)) = omega (arith, up.0) in
    ap (λ (k : ℕ). (a + 1) ∷ ring_after marks k a b) deep
    ∙ ap (λ (t : Bool). (a + 1) ∷ (if t then [] else ((up_at marks a + 1) ∷ (ring_after marks (depth_at marks (up_at marks a)) (up_at marks a) (up_at marks b) ++ (b + 1) ∷ [])))) (ne_eqb a b differ)

ring_appended : (p r : List ℕ) (x y : ℕ) → ((p ++ x ∷ []) ++ r) ++ y ∷ [] ≡ p ++ (x ∷ (r ++ y ∷ []))
ring_appended p r x y = simp append_assoc

-- the ring is written at the end of a list: the first set, the ring from the next two up, the second set
pub ring_written : (marks : List (Option Mark)) (p one two three : List ℕ) (a b i j : ℕ) → AreWaysUp marks → ArePair marks a b → (a ≡ b → ⊥)
    → i ≡ up_at marks a → j ≡ up_at marks b → one ≡ p ++ (a + 1) ∷ [] → two ≡ one ++ ring_from marks i j → three ≡ two ++ (b + 1) ∷ []
    → three ≡ p ++ ring_from marks a b
ring_written marks p one two three a b i j ways pair differ up other first inner last =
    last
    ∙ ap (λ (r : List ℕ). r ++ (b + 1) ∷ []) (inner ∙ ap (λ (r : List ℕ). r ++ ring_from marks i j) first)
    ∙ ring_appended p (ring_from marks i j) (a + 1) (b + 1)
    ∙ ap (λ (r : List ℕ). p ++ r)
    (ap₂ (λ (v w : ℕ). (a + 1) ∷ (ring_from marks v w ++ (b + 1) ∷ [])) up other ∙ sym (ring_opened marks a b ways pair differ))
