-- Lists of gives rise in one order, so where neighbours of an order of places rise, a piece that differs from the next gives something else
-- than each later one.
use Rattle.std.proofs.Common.{◌≡◌, ◌≢◌, ℕ, zero, suc, ◌+◌, ◌-◌, ◌<◌, ◌≤◌, ◌⊎◌, List, [], ◌∷◌, length, get_or, drop, ap, sym, refl, ◌∙◌, arith, Bool, true, false, ◌&&◌, ◌||◌, eqb, inl, inr, subst, drop-cons, add-one}
use Rattle.std.specs.Prelude.{slice_index, nat_lt}
use Rattle.std.specs.Cmp.Lexicographic.{pointwise}
use Rattle.std.specs.List.{Contains}
use Rattle.std.specs.List.Sorted.{IsPermutation}
use Rattle.std.proofs.lemmas.Bool.{or_cases, or_left, or_right, and_parts, and_from, eq-eqb, eqb-true, ne_eqb, ltb-true, lt-ltb, le-ltb, cases_lt, cases_order}
use Rattle.std.proofs.lemmas.List.{drop_all, get_or_default}
use Rattle.std.proofs.lemmas.List.Elements.{Contains-get_or}
use Rattle.std.proofs.lemmas.List.Sorted.{All-permutation, Contains-permutation}
use Rattle.definitions.specs.declared.Give.{Give}
use Rattle.definitions.specs.Values.{PieceValue}
use Rattle.cert_check.specs.PieceFaults.{gives_at, same_give}
use Rattle.cert_check.specs.GiveOrder.{IsOrder, IsUnlikeLater, comes_before, give_number, gives_before}
use Rattle.cert_check.proofs.PiecePass.{gives_decide}

irreflexive : (gs : List Give) → gives_before gs gs ≡ true → ⊥
irreflexive [] t = cc t
irreflexive (g ∷ gs) t = elim (or_cases (nat_lt (give_number g) (give_number g)) _ t) [
  | inl less ↦ (let l : give_number g < give_number g = ltb-true (give_number g) (give_number g) less in omega (arith, l))
  | inr same ↦ irreflexive gs (and_parts (eqb (give_number g) (give_number g)) (gives_before gs gs) same).1
]

transitive : (gs hs ks : List Give) → gives_before gs hs ≡ true → gives_before hs ks ≡ true → gives_before gs ks ≡ true
transitive [] [] ks s t = t
transitive [] (h ∷ hs) [] s t = cc t
transitive [] (h ∷ hs) (k ∷ ks) s t = refl
transitive (g ∷ gs) [] ks s t = cc s
transitive (g ∷ gs) (h ∷ hs) [] s t = cc t
transitive (g ∷ gs) (h ∷ hs) (k ∷ ks) s t =
    elim (or_cases (nat_lt (give_number g) (give_number h)) _ s) [
      | inl less ↦
          let l : give_number g < give_number h = ltb-true (give_number g) (give_number h) less in
          elim (or_cases (nat_lt (give_number h) (give_number k)) _ t) [
            | inl more ↦
                let m : give_number h < give_number k = ltb-true (give_number h) (give_number k) more in
                or_left (nat_lt (give_number g) (give_number k)) _ (lt-ltb (give_number g) (give_number k) (omega (arith, l, m)))
            | inr same ↦
                let e : give_number h ≡ give_number k = eqb-true (give_number h) (give_number k) (and_parts (eqb (give_number h) (give_number k)) (gives_before hs ks) same).0 in
                or_left (nat_lt (give_number g) (give_number k)) _ (lt-ltb (give_number g) (give_number k) (omega (arith, l, e)))
          ]
      | inr even ↦
          let first = and_parts (eqb (give_number g) (give_number h)) (gives_before gs hs) even in
          let d : give_number g ≡ give_number h = eqb-true (give_number g) (give_number h) first.0 in
          elim (or_cases (nat_lt (give_number h) (give_number k)) _ t) [
            | inl more ↦
                let m : give_number h < give_number k = ltb-true (give_number h) (give_number k) more in
                or_left (nat_lt (give_number g) (give_number k)) _ (lt-ltb (give_number g) (give_number k) (omega (arith, d, m)))
            | inr same ↦
                let second = and_parts (eqb (give_number h) (give_number k)) (gives_before hs ks) same in
                let e : give_number h ≡ give_number k = eqb-true (give_number h) (give_number k) second.0 in
                or_right (nat_lt (give_number g) (give_number k)) (eqb (give_number g) (give_number k) && gives_before gs ks)
                (and_from (eqb (give_number g) (give_number k)) (gives_before gs ks) (eq-eqb (give_number g) (give_number k) (d ∙ e)) (transitive gs hs ks first.1 second.1))
          ]
    ]

abbrev no_give : Give
no_give = record { agent = 0; object = 0; count = 0 }

-- the comparison from an index on
module _ (gs hs : List Give) (i : ℕ) where
  heads : i < length gs → i < length hs
      → gives_before (drop i gs) (drop i hs) ≡ (nat_lt (give_number (get_or gs i no_give)) (give_number (get_or hs i no_give)) || (eqb (give_number (get_or gs i no_give)) (give_number (get_or hs i no_give)) && gives_before (drop (suc i) gs) (drop (suc i) hs)))
  heads l m = rw (drop-cons gs i no_give l, drop-cons hs i no_give m) refl

  pub before_same : i < length gs → i < length hs → give_number (get_or gs i no_give) ≡ give_number (get_or hs i no_give)
      → gives_before (drop i gs) (drop i hs) ≡ gives_before (drop (i + 1) gs) (drop (i + 1) hs)
  before_same l m e =
      let not_less : nat_lt (give_number (get_or gs i no_give)) (give_number (get_or hs i no_give)) ≡ false = le-ltb (give_number (get_or gs i no_give)) (give_number (get_or hs i no_give)) (omega (arith, e)) in
      let even : eqb (give_number (get_or gs i no_give)) (give_number (get_or hs i no_give)) ≡ true = eq-eqb (give_number (get_or gs i no_give)) (give_number (get_or hs i no_give)) e in
      heads l m ∙ rw (not_less, even, add-one) refl

  pub before_other : i < length gs → i < length hs → give_number (get_or gs i no_give) ≢ give_number (get_or hs i no_give)
      → gives_before (drop i gs) (drop i hs) ≡ nat_lt (give_number (get_or gs i no_give)) (give_number (get_or hs i no_give))
  before_other l m e =
      let uneven : eqb (give_number (get_or gs i no_give)) (give_number (get_or hs i no_give)) ≡ false = ne_eqb (give_number (get_or gs i no_give)) (give_number (get_or hs i no_give)) e in
      heads l m ∙ rw uneven (or_nothing (nat_lt (give_number (get_or gs i no_give)) (give_number (get_or hs i no_give))))
    where
      or_nothing : (b : Bool) → (b || false) ≡ b
      or_nothing true = refl
      or_nothing false = refl

  pub before_short : i < length gs → length hs ≤ i → gives_before (drop i gs) (drop i hs) ≡ false
  before_short l m = rw (drop-cons gs i no_give l, drop_all i hs m) refl

  pub before_ends : i ≡ length gs → gives_before (drop i gs) (drop i hs) ≡ nat_lt (length gs) (length hs)
  before_ends e = elim (cases_lt i (length hs)) [
    | inl more ↦ rw (drop_all i gs (omega (arith, e)), drop-cons hs i no_give more, lt-ltb (length gs) (length hs) (omega (arith, more, e))) refl
    | inr none ↦ rw (drop_all i gs (omega (arith, e)), drop_all i hs none, le-ltb (length gs) (length hs) (omega (arith, none, e))) refl
  ]

-- one piece comes before another
abbrev Earlier : List PieceValue → ℕ → ℕ → Type 0
Earlier ps a b = (gives_before (gives_at ps a) (gives_at ps b) ≡ true) ⊎ ((gives_at ps a ≡ gives_at ps b) × (a < b))

earlier : (ps : List PieceValue) (a b : ℕ) → comes_before ps a b ≡ true → Earlier ps a b
earlier ps a b t = elim (or_cases (gives_before (gives_at ps a) (gives_at ps b)) _ t) [
  | inl before ↦ inl before
  | inr even ↦
      let parts = and_parts (pointwise same_give (gives_at ps a) (gives_at ps b)) (nat_lt a b) even in
      inr ((gives_decide (gives_at ps a) (gives_at ps b)).0 parts.0, ltb-true a b parts.1)
]

before_then : (ps : List PieceValue) (a b c : ℕ) → gives_before (gives_at ps a) (gives_at ps b) ≡ true → Earlier ps b c → gives_before (gives_at ps a) (gives_at ps c) ≡ true
before_then ps a b c s (inl t) = transitive (gives_at ps a) (gives_at ps b) (gives_at ps c) s t
before_then ps a b c s (inr t) = subst (λ (gs : List Give). gives_before (gives_at ps a) gs ≡ true) t.0 s

earlier_then : (ps : List PieceValue) (a b c : ℕ) → Earlier ps a b → Earlier ps b c → Earlier ps a c
earlier_then ps a b c (inl s) t = inl (before_then ps a b c s t)
earlier_then ps a b c (inr s) (inl t) = inl (subst (λ (gs : List Give). gives_before gs (gives_at ps c) ≡ true) (sym s.0) t)
earlier_then ps a b c (inr s) (inr t) = inr (s.0 ∙ t.0, (let l = s.1 in let m = t.1 in omega (arith, l, m)))

module _ (ps : List PieceValue) (order : List ℕ) (h : IsOrder ps order) where
  chain : (p n : ℕ) → p + 1 + n < length order → Earlier ps (slice_index order p) (slice_index order (p + 1 + n))
  chain p zero l = (let e : p + 1 + 0 ≡ p + 1 = omega arith in subst (λ m. Earlier ps (slice_index order p) (slice_index order m)) (sym e) (earlier ps (slice_index order p) (slice_index order (p + 1)) (h.rise p (omega (arith, l)))))
  chain p (suc n) l =
      let e : p + 1 + n + 1 ≡ p + 1 + suc n = omega arith in
      subst (λ m. Earlier ps (slice_index order p) (slice_index order m)) e
      (earlier_then ps (slice_index order p) (slice_index order (p + 1 + n)) (slice_index order (p + 1 + n + 1)) (chain p n (omega (arith, l)))
      (earlier ps (slice_index order (p + 1 + n)) (slice_index order (p + 1 + n + 1)) (h.rise (p + 1 + n) (omega (arith, l)))))

  before_in_order : (p q : ℕ) → p < q → q < length order → Earlier ps (slice_index order p) (slice_index order q)
  before_in_order p q l m =
      let e : p + 1 + (q - (p + 1)) ≡ q = omega (arith, l) in
      subst (λ n. Earlier ps (slice_index order p) (slice_index order n)) e (chain p (q - (p + 1)) (omega (arith, e, m)))

  not_same : (a b : ℕ) → gives_before (gives_at ps a) (gives_at ps b) ≡ true → gives_at ps a ≡ gives_at ps b → ⊥
  not_same a b t same = irreflexive (gives_at ps b) (subst (λ (gs : List Give). gives_before gs (gives_at ps b) ≡ true) same t)

  -- a piece that differs from the next in the order gives something else than each later piece
  pub unlike_at : (p : ℕ) → p < length order → ((p + 1 ≡ length order) ⊎ (gives_before (gives_at ps (slice_index order p)) (gives_at ps (slice_index order (p + 1))) ≡ true)) → IsUnlikeLater ps (slice_index order p)
  unlike_at p l next b after inside = λ same.
      let (q, u, found) = h.each b inside in
      let e : slice_index order q ≡ b = get_or_default order q 0 b u ∙ found in
      elim (cases_order p q) [
        | inl even ↦ (let here : slice_index order p ≡ b = ap (slice_index order) even ∙ e in absurd (omega (arith, here, after)))
        | inr (inl less) ↦ later p q b l u less e next same
        | inr (inr more) ↦ sooner p q b (before_in_order q p more l) e after same
      ]
    where
      sooner : (p q b : ℕ) → Earlier ps (slice_index order q) (slice_index order p) → slice_index order q ≡ b → slice_index order p < b → gives_at ps (slice_index order p) ≡ gives_at ps b → ⊥
      sooner p q b (inl t) e after same = not_same (slice_index order q) (slice_index order p) t (ap (gives_at ps) e ∙ sym same)
      sooner p q b (inr t) e after same = (let m = t.1 in absurd (omega (arith, m, e, after)))

      past : (p q b : ℕ) → p + 1 ≤ q → q < length order → slice_index order q ≡ b → gives_before (gives_at ps (slice_index order p)) (gives_at ps (slice_index order (p + 1))) ≡ true → gives_before (gives_at ps (slice_index order p)) (gives_at ps b) ≡ true
      past p q b l m e t = elim (cases_lt (p + 1) q) [
        | inl beyond ↦
            subst (λ n. gives_before (gives_at ps (slice_index order p)) (gives_at ps n) ≡ true) e
            (before_then ps (slice_index order p) (slice_index order (p + 1)) (slice_index order q) t (before_in_order (p + 1) q beyond m))
        | inr here ↦
            let same : p + 1 ≡ q = omega (arith, l, here) in
            subst (λ n. gives_before (gives_at ps (slice_index order p)) (gives_at ps n) ≡ true) (ap (slice_index order) same ∙ e) t
      ]

      later : (p q b : ℕ) → p < length order → q < length order → p < q → slice_index order q ≡ b → ((p + 1 ≡ length order) ⊎ (gives_before (gives_at ps (slice_index order p)) (gives_at ps (slice_index order (p + 1))) ≡ true)) → gives_at ps (slice_index order p) ≡ gives_at ps b → ⊥
      later p q b l m less e (inl last) same = absurd (omega (arith, last, m, less))
      later p q b l m less e (inr t) same = not_same (slice_index order p) b (past p q b (omega (arith, less)) m e t) same

-- the sorted places, where they rise
pub order_of : (ps : List PieceValue) (start order : List ℕ) → length start ≡ length ps → ((i : ℕ) → i < length ps → slice_index start i ≡ i) → IsPermutation start order
    → ((k : ℕ) → k + 1 < length order → comes_before ps (slice_index order k) (slice_index order (k + 1)) ≡ true) → IsOrder ps order
order_of ps start order many at p rise = record {
  within = All-permutation (λ a. a < length ps) start order p (λ k d l. let here : get_or start k d ≡ k = get_or_default start k d 0 l ∙ at k (omega (arith, l, many)) in omega (arith, here, l, many));
  each = λ a l. subst (Contains order) (get_or_default start a a 0 (omega (arith, l, many)) ∙ at a l) (Contains-permutation start order (get_or start a a) p (Contains-get_or start a a (omega (arith, l, many))));
  rise = rise;
}
