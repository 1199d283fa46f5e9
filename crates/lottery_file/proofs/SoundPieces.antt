-- Pieces and gives that pass their checks.
use Rattle.std.proofs.Common.{◌≡◌, ◌+◌, ◌-◌, ◌<◌, ◌≤◌, ◌∙◌, ◌++◌, ◌∷◌, [], ℕ, suc, List, true, refl, ap, length, get_or, arith, inl, inr}
use Rattle.std.specs.Prelude.{All, AllPairs}
use Rattle.std.proofs.lemmas.Bool.{cases_lt, or_cases, and_parts, ltb-true, eqb-true}
use Rattle.std.proofs.lemmas.List.Elements.{All-nil, All-push, All-head, All-tail, All-cons}
use Rattle.std.proofs.lemmas.List.Quantifiers.{all_pairs_push}
use Rattle.std.proofs.lemmas.List.Sums.{sum_by_push}
use Rattle.definitions.specs.Sets.{cell_of, IsBefore}
use Rattle.definitions.specs.Values.{PieceValue}
use Rattle.definitions.specs.Pieces.{AreGives}
use Rattle.definitions.specs.declared.Give.{Give}
use Rattle.lottery_file.specs.Said.{onto_last}
use Rattle.lottery_file.specs.Checks.{weight_sum, follows_last, follows_gives, comes_after}
use Rattle.lottery_file.proofs.PieceFacts.{weight-last, follows-give}
use Rattle.lottery_file.proofs.SoundWords.{ArePieces}

-- the second give comes after the first, by agent and then column
abbrev pub Precedes : Give → Give → Type 0
Precedes g h = IsBefore (cell_of g.agent g.object) (cell_of h.agent h.object)

abbrev IsInRange : ℕ → ℕ → Give → Type 0
IsInRange agents columns g = (g.agent < agents) × (g.object < columns) × (1 ≤ g.count) × (g.count ≤ 1000)

pub no-pieces : (denominator agents columns : ℕ) → ArePieces denominator agents columns []
no-pieces denominator agents columns = record {
  weights = All-nil (λ (p : PieceValue). 1 ≤ p.weight);
  total = omega arith;
  gives = All-nil (λ (p : PieceValue). AreGives agents columns p.gives);
}

-- one more piece
pub piece-push : (denominator agents columns : ℕ) (pieces : List PieceValue) (w : ℕ) → 1 ≤ w → weight_sum pieces + w ≤ denominator
    → ArePieces denominator agents columns pieces → ArePieces denominator agents columns (pieces ++ (record { weight = w; gives = [] }) ∷ [])
piece-push denominator agents columns pieces w one sum h =
    let p : PieceValue = record { weight = w; gives = [] } in
    record {
      weights = All-push (λ (p : PieceValue). 1 ≤ p.weight) pieces p h.weights one;
      total = omega (arith, sum_by_push (λ (p : PieceValue). p.weight) pieces p);
      gives = All-push (λ (p : PieceValue). AreGives agents columns p.gives) pieces p h.gives (All-nil (IsInRange agents columns), λ i j d l m. absurd (omega arith));
    }

after-before : (g h : Give) → comes_after h.agent h.object g ≡ true → Precedes g h
after-before g h e = elim (or_cases _ _ e) [
  | inl lt ↦ inl (ltb-true g.agent h.agent lt)
  | inr same ↦ let p = and_parts _ _ same in inr (eqb-true g.agent h.agent p.0, ltb-true g.object h.object p.1)
]

before-trans : (f g h : Give) → Precedes f g → Precedes g h → Precedes f h
before-trans f g h (inl a) (inl b) = inl (omega arith)
before-trans f g h (inl a) (inr b) = inl (omega (arith, b.0))
before-trans f g h (inr a) (inl b) = inl (omega (arith, a.0))
before-trans f g h (inr a) (inr b) = inr (a.0 ∙ b.0, omega (arith, a.1, b.1))

-- a give that follows the last one comes after them all
before-all : (gs : List Give) (h : Give) → AllPairs Precedes gs → follows_gives h.agent h.object gs ≡ true → (k : ℕ) (d : Give) → k < length gs → Precedes (get_or gs k d) h
before-all gs h rise f k d lt =
    let n = length gs - 1 in
    let last : Precedes (get_or gs n d) h = after-before (get_or gs n d) h (follows-give h.agent h.object gs n d (omega arith) ∙ f) in
    elim (cases_lt k n) [
      | inl below ↦ before-trans (get_or gs k d) (get_or gs n d) h (rise k n d below (omega arith)) last
      | inr from ↦ let same : k ≡ n = omega arith in rw same last
    ]

-- one more give
pub give-push : (agents columns : ℕ) (gs : List Give) (g : Give) → IsInRange agents columns g → follows_gives g.agent g.object gs ≡ true → AreGives agents columns gs → AreGives agents columns (gs ++ g ∷ [])
give-push agents columns gs g is f h = (All-push (IsInRange agents columns) gs g h.0 is, all_pairs_push Precedes gs g h.1 (before-all gs g h.1 f))

pub count-last : (g : Give) (ps : List PieceValue) → length (onto_last g ps) ≡ length ps
count-last g [] = refl
count-last g (p ∷ []) = refl
count-last g (p ∷ q ∷ ps) = ap suc (count-last g (q ∷ ps))

weights-last : (g : Give) (ps : List PieceValue) → All (λ p. 1 ≤ p.weight) ps → All (λ p. 1 ≤ p.weight) (onto_last g ps)
weights-last g [] h = h
weights-last g (p ∷ []) h =
    All-cons (λ (p : PieceValue). 1 ≤ p.weight) (record p { gives = p.gives ++ g ∷ [] }) [] (All-head (λ (p : PieceValue). 1 ≤ p.weight) p [] h) (All-nil (λ (p : PieceValue). 1 ≤ p.weight))
weights-last g (p ∷ q ∷ ps) h =
    All-cons (λ (p : PieceValue). 1 ≤ p.weight) p (onto_last g (q ∷ ps)) (All-head (λ (p : PieceValue). 1 ≤ p.weight) p (q ∷ ps) h) (weights-last g (q ∷ ps) (All-tail (λ (p : PieceValue). 1 ≤ p.weight) p (q ∷ ps) h))

gives-last : (agents columns : ℕ) (g : Give) (ps : List PieceValue) → IsInRange agents columns g → follows_last g.agent g.object ps ≡ true
    → All (λ p. AreGives agents columns p.gives) ps → All (λ p. AreGives agents columns p.gives) (onto_last g ps)
gives-last agents columns g [] is f h = h
gives-last agents columns g (p ∷ []) is f h =
    All-cons (λ (p : PieceValue). AreGives agents columns p.gives) (record p { gives = p.gives ++ g ∷ [] }) []
    (give-push agents columns p.gives g is f (All-head (λ (p : PieceValue). AreGives agents columns p.gives) p [] h)) (All-nil (λ (p : PieceValue). AreGives agents columns p.gives))
gives-last agents columns g (p ∷ q ∷ ps) is f h =
    All-cons (λ (p : PieceValue). AreGives agents columns p.gives) p (onto_last g (q ∷ ps)) (All-head (λ (p : PieceValue). AreGives agents columns p.gives) p (q ∷ ps) h)
    (gives-last agents columns g (q ∷ ps) is f (All-tail (λ (p : PieceValue). AreGives agents columns p.gives) p (q ∷ ps) h))

-- one more give of the last piece
pub give-sound : (denominator agents columns : ℕ) (g : Give) (pieces : List PieceValue) → IsInRange agents columns g → follows_last g.agent g.object pieces ≡ true
    → ArePieces denominator agents columns pieces → ArePieces denominator agents columns (onto_last g pieces)
give-sound denominator agents columns g pieces is f h = record {
  weights = weights-last g pieces h.weights;
  total = omega (arith, weight-last g pieces);
  gives = gives-last agents columns g pieces is f h.gives;
}
