-- The columns of one agent's cells in a set: they rise, and they tell which cells the set holds.
use Rattle.std.proofs.Common.{◌≡◌, ℕ, zero, suc, ◌+◌, ◌<◌, ◌≤◌, ◌∙◌, List, [], ◌∷◌, true, false, cond, ◌||◌, ◌&&◌, filter, length, get_or, refl, sym, ap, inl, inr, arith, All, subst}
use Rattle.std.specs.Prelude.{nat_eq, ◌==◌}
use Rattle.std.specs.List.{AllByRecursion}
use Rattle.std.specs.Set.{is_member}
use Rattle.std.proofs.lemmas.Bool.{both_ways, or_from, or_left, cases_order, cases_lt, cases_Bool, eqb-true, eq-eqb, ne_eqb, false_from_ne_true}
use Rattle.std.proofs.lemmas.List.{length-map}
use Rattle.std.proofs.lemmas.List.Elements.{recursion_from_All}
use Rattle.definitions.specs.declared.Cell.{Cell}
use Rattle.definitions.specs.Sets.{cell_of, same_cell, holds, IsBefore, IsRising}
use Rattle.definitions.proofs.Members.{cell_test, rising_rest}
use Rattle.fairness_core.specs.Alike.{columns_of, HoldsAlike}

-- the numbers rise strictly from b on
abbrev IsRisingFrom : ℕ → List ℕ → Type 0
IsRisingFrom b [] = Unit {0}
IsRisingFrom b (a ∷ list) = (b ≤ a) × IsRisingFrom (a + 1) list

-- no number before the first is one of them
below_first : (b a : ℕ) (list : List ℕ) → IsRisingFrom b list → a < b → is_member nat_eq list a ≡ false
below_first b a [] h l = refl
below_first b a (c ∷ list) h l =
    let more : b ≤ c = h.0 in
    or_from (nat_eq a c) (is_member nat_eq list a) (ne_eqb a c (λ e. absurd (omega (arith, e, more, l)))) (below_first (c + 1) a list h.1 (omega (arith, more, l)))

-- rising lists of the same numbers are one list
same_numbers : (b : ℕ) (xs ys : List ℕ) → IsRisingFrom b xs → IsRisingFrom b ys → ((a : ℕ) → is_member nat_eq xs a ≡ is_member nat_eq ys a) → xs ≡ ys
same_numbers b [] [] g h same = refl
same_numbers b [] (y ∷ ys) g h same = absurd (both_ways false refl (same y ∙ or_left (nat_eq y y) (is_member nat_eq ys y) (eq-eqb y y refl)))
same_numbers b (x ∷ xs) [] g h same = absurd (both_ways false refl (sym (same x) ∙ or_left (nat_eq x x) (is_member nat_eq xs x) (eq-eqb x x refl)))
same_numbers b (x ∷ xs) (y ∷ ys) g h same = elim (cases_order x y) [
  | inl equal ↦
      let rest : (a : ℕ) → is_member nat_eq xs a ≡ is_member nat_eq ys a =
      (λ a. elim (cases_lt x a) [
        | inl after ↦ dropped x xs a (λ e. absurd (omega (arith, e, after))) ∙ same a ∙ sym (dropped y ys a (λ e. absurd (omega (arith, e, after, equal))))
        | inr before ↦ below_first (x + 1) a xs g.1 (omega (arith, before)) ∙ sym (below_first (y + 1) a ys h.1 (omega (arith, before, equal)))
      ]) in
      let tails : xs ≡ ys = same_numbers (x + 1) xs ys g.1 (subst (λ n. IsRisingFrom (n + 1) ys) (sym equal) h.1) rest in
      ap (λ n. n ∷ xs) equal ∙ ap (λ ns. y ∷ ns) tails
  | inr (inl less) ↦
      absurd (both_ways (is_member nat_eq (y ∷ ys) x) (below_first y x (y ∷ ys) (omega arith, h.1) less) (sym (same x) ∙ or_left (nat_eq x x) (is_member nat_eq xs x) (eq-eqb x x refl)))
  | inr (inr more) ↦
      absurd (both_ways (is_member nat_eq (x ∷ xs) y) (below_first x y (x ∷ xs) (omega arith, g.1) more) (same y ∙ or_left (nat_eq y y) (is_member nat_eq ys y) (eq-eqb y y refl)))
]
  where
    dropped : (n : ℕ) (ns : List ℕ) (a : ℕ) → (a ≡ n → ⊥) → is_member nat_eq ns a ≡ is_member nat_eq (n ∷ ns) a
    dropped n ns a other = sym (ap (λ b. b || is_member nat_eq ns a) (ne_eqb a n other))

-- the columns of agent i's cells
abbrev pub run : ℕ → List Cell → List ℕ
run i cells = columns_of (filter (λ c. c.agent == i) cells)

-- they are those of the cells that are held
run_member : (i a : ℕ) (cells : List Cell) → is_member nat_eq (run i cells) a ≡ holds cells (cell_of i a)
run_member i a [] = refl
run_member i a (c ∷ cells) = elim (cases_Bool (c.agent == i)) [
  | inl mine ↦
      ap (λ b. is_member nat_eq (columns_of (cond b (c ∷ filter (λ d. d.agent == i) cells) (filter (λ d. d.agent == i) cells))) a) mine
      ∙ ap (λ b. (a == c.object) || b) (run_member i a cells)
      ∙ ap (λ b. (b && (a == c.object)) || holds cells (cell_of i a)) (sym (eq-eqb i c.agent (sym (eqb-true c.agent i mine))))
  | inr theirs ↦
      ap (λ b. is_member nat_eq (columns_of (cond b (c ∷ filter (λ d. d.agent == i) cells) (filter (λ d. d.agent == i) cells))) a) theirs
      ∙ run_member i a cells
      ∙ ap (λ b. (b && (a == c.object)) || holds cells (cell_of i a)) (sym (ne_eqb i c.agent (λ e. both_ways (c.agent == i) theirs (eq-eqb c.agent i (sym e)))))
]

-- and they rise
run_rises : (i b : ℕ) (cells : List Cell) → IsRising cells → AllByRecursion (λ c. c.agent ≡ i → b ≤ c.object) cells → IsRisingFrom b (run i cells)
run_rises i b [] r a = tt
run_rises i b (c ∷ cells) r a = elim (cases_Bool (c.agent == i)) [
  | inl mine ↦
      let own : c.agent ≡ i = eqb-true c.agent i mine in
      let later : AllByRecursion (λ d. d.agent ≡ i → c.object + 1 ≤ d.object) cells =
      recursion_from_All (λ d. d.agent ≡ i → c.object + 1 ≤ d.object) cells (λ k d l e. after own (r 0 (suc k) d (omega arith) (omega (arith, l))) e) in
      rw mine (a.0 own, run_rises i (c.object + 1) cells (rising_rest c cells r) later)
  | inr theirs ↦ rw theirs (run_rises i b cells (rising_rest c cells r) a.1)
]
  where
    after : {c d : Cell} {i : ℕ} → c.agent ≡ i → IsBefore c d → d.agent ≡ i → c.object + 1 ≤ d.object
    after own (inl l) e = absurd (omega (arith, l, own, e))
    after own (inr l) e = omega (arith, l.1)

run_up : (i : ℕ) (cells : List Cell) → IsRising cells → IsRisingFrom 0 (run i cells)
run_up i cells r = run_rises i 0 cells r (recursion_from_All (λ c. c.agent ≡ i → 0 ≤ c.object) cells (λ k d l e. omega arith))

-- a set has no cell of a column from n on
past_columns : (n i a : ℕ) (cells : List Cell) → AllByRecursion (λ c. c.object < n) cells → n ≤ a → holds cells (cell_of i a) ≡ false
past_columns n i a [] h l = refl
past_columns n i a (c ∷ cells) h l =
    let less : c.object < n = h.0 in
    or_from (same_cell (cell_of i a) c) (holds cells (cell_of i a))
    (false_from_ne_true (same_cell (cell_of i a) c) (λ t. apart less t)) (past_columns n i a cells h.1 l)
  where
    apart : c.object < n → same_cell (cell_of i a) c ≡ true → ⊥
    apart less t = (let same = ap (λ (d : Cell). d.object) (cell_test.sound (cell_of i a) c t) in omega (arith, same, less, l))

-- two agents have the same columns of a rising set without cells from column n on exactly where it holds their cells alike
pub alike_by_columns : (n i j : ℕ) (cells : List Cell) → IsRising cells → All (λ c. c.object < n) cells → HoldsAlike n i j cells → run i cells ≡ run j cells
alike_by_columns n i j cells r inside same =
    same_numbers 0 (run i cells) (run j cells) (run_up i cells r) (run_up j cells r)
    (λ a. run_member i a cells ∙ elim (cases_lt a n) [ inl l ↦ same a l | inr past ↦ none i a past ∙ sym (none j a past) ] ∙ sym (run_member j a cells))
  where
    none : (k a : ℕ) → n ≤ a → holds cells (cell_of k a) ≡ false
    none k a past = past_columns n k a cells (recursion_from_All (λ c. c.object < n) cells inside) past

pub columns_by_alike : (n i j : ℕ) (cells : List Cell) → run i cells ≡ run j cells → HoldsAlike n i j cells
columns_by_alike n i j cells same a l = sym (run_member i a cells) ∙ ap (λ ns. is_member nat_eq ns a) same ∙ run_member j a cells

-- ---- lists of columns, place by place

pub same_columns : (xs ys : List Cell) → length xs ≡ length ys → ((k : ℕ) (d : Cell) → k < length xs → (get_or xs k d).object ≡ (get_or ys k d).object) → columns_of xs ≡ columns_of ys
same_columns [] [] e h = refl
same_columns [] (y ∷ ys) e h = absurd (omega (arith, e))
same_columns (x ∷ xs) [] e h = absurd (omega (arith, e))
same_columns (x ∷ xs) (y ∷ ys) e h =
    let here : x.object ≡ y.object = h 0 x (omega arith) in
    ap (λ n. n ∷ columns_of xs) here ∙ ap (λ ns. y.object ∷ ns) (same_columns xs ys (omega (arith, e)) (λ k d l. h (suc k) d (omega (arith, l))))

pub same_column : (xs ys : List Cell) (k : ℕ) (d : Cell) → columns_of xs ≡ columns_of ys → k < length xs → (get_or xs k d).object ≡ (get_or ys k d).object
same_column [] ys k d e l = absurd (omega (arith, l))
same_column (x ∷ xs) [] k d e l = absurd (cc)
same_column (x ∷ xs) (y ∷ ys) zero d e l = cc
same_column (x ∷ xs) (y ∷ ys) (suc k) d e l = same_column xs ys k d (let rest : columns_of xs ≡ columns_of ys = cc in rest) (omega (arith, l))

pub as_many : (xs ys : List Cell) → columns_of xs ≡ columns_of ys → length xs ≡ length ys
as_many xs ys e = sym (length-map xs (λ (c : Cell). c.object)) ∙ ap length e ∙ length-map ys (λ (c : Cell). c.object)
