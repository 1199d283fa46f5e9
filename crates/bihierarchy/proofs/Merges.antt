-- How many cells two rising lists share, from their first cells.
use Rattle.std.proofs.Common.{◌≡◌, ℕ, suc, ◌+◌, ◌<◌, ◌≤◌, ◌∙◌, List, [], ◌∷◌, Bool, true, false, cond, length, get_or, drop, refl, sym, ap, subst, inl, inr, arith, drop-cons, length-drop, get_or-drop}
use Rattle.std.specs.Prelude.{count_by}
use Rattle.std.proofs.lemmas.Bool.{or_from, or_left, cases_lt}
use Rattle.std.proofs.lemmas.List.{drop_all}
use Rattle.std.proofs.lemmas.List.Sums.{sum_by-cons}
use Rattle.definitions.specs.declared.Cell.{Cell}
use Rattle.definitions.specs.Sets.{cell_of, same_cell, holds, IsBefore, IsRising}
use Rattle.definitions.proofs.Members.{cell_test, cell_decides, count_none, rising_distinct, rising_rest, common_turned}

-- the cells of the second that are in the first
abbrev pub shared : List Cell → List Cell → ℕ
shared a b = count_by (holds b) a

before_further : (x y z : Cell) → IsBefore x y → IsBefore y z → IsBefore x z
before_further x y z (inl l) (inl m) = inl (omega arith)
before_further x y z (inl l) (inr m) = let e = m.0 in inl (omega arith)
before_further x y z (inr l) (inl m) = let e = l.0 in inl (omega arith)
before_further x y z (inr l) (inr m) = inr (l.0 ∙ m.0, omega (arith, l.1, m.1))

pub not_same : (x y : Cell) → IsBefore x y → same_cell x y ≡ false
not_same x y h = by_test (same_cell x y) refl
  where
    no : IsBefore x y → x ≡ y → ⊥
    no (inl l) e = let same = ap (λ (c : Cell). c.agent) e in absurd (omega (arith, l, same))
    no (inr l) e = let same = ap (λ (c : Cell). c.object) e in absurd (omega (arith, l.1, same))

    by_test : (b : Bool) → same_cell x y ≡ b → same_cell x y ≡ false
    by_test true e = absurd (no h ((cell_decides x y).0 e))
    by_test false e = e

-- a cell before the first of a rising list is not in it
pub before_first : (x y : Cell) (ys : List Cell) → IsRising (y ∷ ys) → IsBefore x y → holds (y ∷ ys) x ≡ false
before_first x y [] r h = or_from (same_cell x y) false (not_same x y h) refl
before_first x y (z ∷ zs) r h =
    or_from (same_cell x y) (holds (z ∷ zs) x) (not_same x y h)
    (before_first x z zs (rising_rest y (z ∷ zs) r) (before_further x y z h (r 0 1 x (omega arith) (omega arith))))

-- the first of a rising list is not in the rest
first_once : (x : Cell) (xs : List Cell) → IsRising (x ∷ xs) → holds xs x ≡ false
first_once x [] r = refl
first_once x (y ∷ ys) r = before_first x y ys (rising_rest x (y ∷ ys) r) (r 0 1 x (omega arith) (omega arith))

skip_first : (x : Cell) (xs ys : List Cell) → holds ys x ≡ false → shared (x ∷ xs) ys ≡ shared xs ys
skip_first x xs ys h = let bit = ap {B = ℕ} (λ b. cond b 1 0) h in omega (arith, sum_by-cons (λ z. cond (holds ys z) 1 0) x xs, bit)

take_first : (x : Cell) (xs ys : List Cell) → holds ys x ≡ true → shared (x ∷ xs) ys ≡ shared xs ys + 1
take_first x xs ys h = let bit = ap {B = ℕ} (λ b. cond b 1 0) h in omega (arith, sum_by-cons (λ z. cond (holds ys z) 1 0) x xs, bit)

pub turned : (a b : List Cell) → IsRising a → IsRising b → shared a b ≡ shared b a
turned a b ra rb = common_turned same_cell cell_test a b (rising_distinct a ra) (rising_distinct b rb)

skip_second : (xs : List Cell) (y : Cell) (ys : List Cell) → IsRising xs → IsRising (y ∷ ys) → holds xs y ≡ false → shared xs (y ∷ ys) ≡ shared xs ys
skip_second xs y ys rx ry h = turned xs (y ∷ ys) rx ry ∙ skip_first y ys xs h ∙ turned ys xs (rising_rest y ys ry) rx

-- the lists begin with one cell
both_first : (x : Cell) (xs ys : List Cell) → IsRising (x ∷ xs) → IsRising (x ∷ ys) → shared (x ∷ xs) (x ∷ ys) ≡ shared xs ys + 1
both_first x xs ys rx ry =
    let one = take_first x xs (x ∷ ys) (or_left (same_cell x x) (holds ys x) (cell_test.self x)) in
    let two = skip_second xs x ys (rising_rest x xs rx) ry (first_once x xs rx) in
    one ∙ ap (λ n. n + 1) two

rising_drop : (a : List Cell) (i : ℕ) → IsRising a → IsRising (drop i a)
rising_drop a i r j k d l m =
    let bound = length-drop i a in
    subst (λ (x : Cell). IsBefore x (get_or (drop i a) k d)) (sym (get_or-drop i a j d))
    (subst (λ (x : Cell). IsBefore (get_or a (i + j) d) x) (sym (get_or-drop i a k d)) (r (i + j) (i + k) d (omega arith) (omega arith)))

-- cells of which neither is before the other are one
pub level : (x y : Cell) → (IsBefore x y → ⊥) → (IsBefore y x → ⊥) → x ≡ y
level x y before after =
    let rows : x.agent ≡ y.agent = one x.agent y.agent (λ l. before (inl l)) (λ l. after (inl l)) in
    let columns : x.object ≡ y.object = one x.object y.object (λ l. before (inr (rows, l))) (λ l. after (inr (sym rows, l))) in
    ap (λ (i : ℕ). cell_of i x.object) rows ∙ ap (cell_of y.agent) columns
  where
    one : (m n : ℕ) → (m < n → ⊥) → (n < m → ⊥) → m ≡ n
    one m n less more = elim (cases_lt m n) [ inl l ↦ absurd (less l) | inr from ↦ elim (cases_lt n m) [ inl l ↦ absurd (more l) | inr upto ↦ omega (arith, from, upto) ] ]

-- beyond the second list nothing is shared
pub shared_none : (a b : List Cell) (j : ℕ) → length b ≤ j → shared a (drop j b) ≡ 0
shared_none a b j l = ap (λ (ys : List Cell). shared a ys) (drop_all j b l) ∙ count_none (holds []) a (λ x. refl)

-- the same, of the rests of two lists from places in them
module _ (a b : List Cell) (i j : ℕ) (d : Cell) (ra : IsRising a) (rb : IsRising b) (l : i < length a) (m : j < length b) where
  here_a : drop i a ≡ get_or a i d ∷ drop (suc i) a
  here_a = drop-cons a i d l

  here_b : drop j b ≡ get_or b j d ∷ drop (suc j) b
  here_b = drop-cons b j d m

  rising_a : IsRising (get_or a i d ∷ drop (suc i) a)
  rising_a = subst (λ (xs : List Cell). IsRising xs) here_a (rising_drop a i ra)

  rising_b : IsRising (get_or b j d ∷ drop (suc j) b)
  rising_b = subst (λ (xs : List Cell). IsRising xs) here_b (rising_drop b j rb)

  next : (n : ℕ) → suc n ≡ n + 1
  next n = omega arith

  pub pass_first : IsBefore (get_or a i d) (get_or b j d) → shared (drop i a) (drop j b) ≡ shared (drop (i + 1) a) (drop j b)
  pass_first h =
      let none : holds (drop j b) (get_or a i d) ≡ false = rw here_b (before_first (get_or a i d) (get_or b j d) (drop (suc j) b) rising_b h) in
      ap (λ (xs : List Cell). shared xs (drop j b)) here_a ∙ skip_first (get_or a i d) (drop (suc i) a) (drop j b) none
      ∙ ap (λ (n : ℕ). shared (drop n a) (drop j b)) (next i)

  pub pass_second : IsBefore (get_or b j d) (get_or a i d) → shared (drop i a) (drop j b) ≡ shared (drop i a) (drop (j + 1) b)
  pass_second h =
      let none : holds (drop i a) (get_or b j d) ≡ false = rw here_a (before_first (get_or b j d) (get_or a i d) (drop (suc i) a) rising_a h) in
      ap (λ (xs : List Cell). shared (drop i a) xs) here_b ∙ skip_second (drop i a) (get_or b j d) (drop (suc j) b) (rising_drop a i ra) rising_b none
      ∙ ap (λ (n : ℕ). shared (drop i a) (drop n b)) (next j)

  pub pass_both : get_or a i d ≡ get_or b j d → shared (drop i a) (drop j b) ≡ shared (drop (i + 1) a) (drop (j + 1) b) + 1
  pass_both e =
      let same : drop j b ≡ get_or a i d ∷ drop (suc j) b = here_b ∙ ap (λ (c : Cell). c ∷ drop (suc j) b) (sym e) in
      ap (λ (xs : List Cell). shared xs (drop j b)) here_a ∙ ap (λ (xs : List Cell). shared (get_or a i d ∷ drop (suc i) a) xs) same
      ∙ both_first (get_or a i d) (drop (suc i) a) (drop (suc j) b) rising_a (subst (λ (xs : List Cell). IsRising xs) same (rising_drop b j rb))
      ∙ ap (λ (n : ℕ). shared (drop n a) (drop (suc j) b) + 1) (next i) ∙ ap (λ (n : ℕ). shared (drop (i + 1) a) (drop n b) + 1) (next j)
