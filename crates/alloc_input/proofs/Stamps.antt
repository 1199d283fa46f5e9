-- The columns that have an agent's stamp.
use Rattle.std.proofs.Common.{◌≡◌, ◌∙◌, ◌+◌, ◌<◌, ◌≤◌, ◌++◌, ◌∷◌, ◌||◌, [], ℕ, List, false, length, refl, sym, ap, get_or, set, take, inl, inr, arith}
use Rattle.std.proofs.Math.Bool.{or-false}
use Rattle.std.specs.Prelude.{◌==◌, replicate}
use Rattle.std.specs.List.{list_any}
use Rattle.std.proofs.lemmas.Bool.{cases_eq, cases_lt, eq-eqb, ne_eqb, or_right, or_left}
use Rattle.std.proofs.lemmas.List.{get_or-set_same, get_or-set_other, get_or_past, get_or-replicate, length-replicate, length-set, take-append-le, take_all}
use Rattle.std.proofs.lemmas.List.Folds.{list_any-append}
use Rattle.alloc_input.specs.PrefsReading.{AreStamps, ShowList}

-- no list has begun
pub no-stamps : (n : ℕ) → AreStamps n 0 (replicate n 0)
no-stamps n = record {
  wide = length-replicate n 0;
  early = λ k. elim (cases_lt k n) [
    | inl l ↦ (let e = get_or-replicate {A = ℕ} n k 0 0 l in omega (arith, e))
    | inr g ↦ (let e = get_or_past {X = ℕ} (replicate n 0) k 0 (omega (arith, length-replicate {A = ℕ})) in omega (arith, e))
  ];
}

-- before the list of the next agent
pub next-stamps : (n agent : ℕ) (stamps : List ℕ) → AreStamps n agent stamps → AreStamps n (agent + 1) stamps
next-stamps n agent stamps s = record { wide = s.wide; early = λ k. (let l = s.early k in omega (arith, l)) }

pub empty-list : (n agent : ℕ) (stamps : List ℕ) → AreStamps n agent stamps → ShowList (agent + 1) stamps []
empty-list n agent stamps s k l = ne_eqb (get_or stamps k 0) (agent + 1) (λ e. absurd (let early = s.early k in omega (arith, e, early)))

-- a slice that was written whole
pub written : (n : ℕ) (xs ys : List ℕ) → n ≡ length xs → take n (xs ++ ys) ≡ xs
written n xs ys e =
    let le : n ≤ length xs = omega arith in
    rw take-append-le (take_all n xs (omega arith))

-- one more column on the list
pub stamps-set : (n agent k : ℕ) (stamps : List ℕ) → k < length stamps → AreStamps n agent stamps → AreStamps n agent (set stamps k agent)
stamps-set n agent k stamps l s = record {
  wide = length-set stamps k agent ∙ s.wide;
  early = λ j. elim (cases_eq j k) [
    | inl here ↦ rw here (rw (get_or-set_same stamps k agent 0 l) (omega arith))
    | inr other ↦ rw (get_or-set_other stamps k j agent 0 other) (s.early j)
  ];
}

pub list-set : (agent k : ℕ) (stamps columns : List ℕ) → k < length stamps → ShowList agent stamps columns → ShowList agent (set stamps k agent) (columns ++ k ∷ [])
list-set agent k stamps columns l s j g = elim (cases_eq j k) [
  | inl here ↦
      rw here (rw (get_or-set_same stamps k agent 0 l) (eq-eqb agent agent refl
      ∙ sym (list_any-append (λ i. i == k) columns (k ∷ []) ∙ or_right (list_any (λ i. i == k) columns) ((k == k) || false) (or_left (k == k) false (eq-eqb k k refl)))))
  | inr other ↦
      let lt : j < length stamps = omega (arith, length-set stamps k agent) in
      rw (get_or-set_other stamps k j agent 0 other) (s j lt
      ∙ sym (list_any-append (λ i. i == j) columns (k ∷ []) ∙ ap (λ b. list_any (λ i. i == j) columns || (b || false)) (ne_eqb k j (λ e. other (sym e))) ∙ or-false (list_any (λ i. i == j) columns)))
]
