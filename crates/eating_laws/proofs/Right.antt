-- Tables that are right so far. All kinds of tables are tables that are right below a moment.
use Rattle.std.proofs.Common.{◌≡◌, ℕ, suc, zero, ◌+◌, ◌*◌, ◌<◌, ◌≤◌, List, length, refl, ap, sym, ◌∙◌, subst, inl, inr, arith}
use Rattle.std.specs.Prelude.{min, ◌⊎◌}
use Rattle.std.proofs.lemmas.Bool.{cases_lt, cases_order}
use Rattle.std.proofs.lemmas.List.{get_or_past}
use Rattle.definitions.specs.Values.{Market}
use Rattle.definitions.specs.Eating.{eaten_by, moment_at, limit_cells, limit_ceiling, IsEatingTable, IsPartialTable}
use Rattle.eating_laws.proofs.Sums.{eaten_cut}

-- at moment t the table is right: a limit with a later number isn't full, and one with this number is full
pub record IsRightAt (market : Market) (D : ℕ) (e : List ℕ) (t : ℕ) : Type 0 where
  pub later : (j : ℕ) → j < length e → t < moment_at e j → eaten_by market D e (limit_cells market j) t < limit_ceiling market j * D
  pub now : (j : ℕ) → j < length e → moment_at e j ≡ t → eaten_by market D e (limit_cells market j) t ≡ limit_ceiling market j * D

-- each number is below n or is D, and below n the table is right
pub record IsRightBelow (market : Market) (D n : ℕ) (e : List ℕ) : Type 0 where
  pub positive : 1 ≤ D
  pub reach : n ≤ D
  pub size : length e ≡ length market.limits
  pub said : (j : ℕ) → j < length e → (moment_at e j < n) ⊎ (moment_at e j ≡ D)
  pub right : (t : ℕ) → t < n → IsRightAt market D e t

-- an eating table is right below its end
pub eating_right : (market : Market) (D : ℕ) (e : List ℕ) → IsEatingTable market D e → IsRightBelow market D D e
eating_right market D e h = record {
  positive = h.positive;
  reach = omega arith;
  size = h.size;
  said = λ j l. (let k : moment_at e j ≤ D = h.within j l in split k);
  right = λ t below. record {
    later = λ j l k. h.before j t l k;
    now = λ j l k. subst (λ x. eaten_by market D e (limit_cells market j) x ≡ limit_ceiling market j * D) k (h.full j l (subst (λ x. x < D) (sym k) below));
  };
}
  where
    split : {x : ℕ} → x ≤ D → (x < D) ⊎ (x ≡ D)
    split {x} k = elim (cases_lt x D) [ inl less ↦ inl less | inr more ↦ inr (omega arith) ]

-- and a table that is right below its end is an eating table, if what fills at the end isn't passed there
pub right_eating : (market : Market) (D : ℕ) (e : List ℕ) → IsRightBelow market D D e
    → ((j : ℕ) → j < length e → moment_at e j ≡ D → eaten_by market D e (limit_cells market j) D ≤ limit_ceiling market j * D) → IsEatingTable market D e
right_eating market D e h last = record {
  positive = h.positive;
  size = h.size;
  within = λ j l. within j l;
  before = λ j t l k. (h.right t (let w : moment_at e j ≤ D = within j l in omega arith)).later j l k;
  kept = λ j l. kept j l (h.said j l);
  full = λ j l k. (h.right (moment_at e j) k).now j l refl;
}
  where
    within : (j : ℕ) → j < length e → moment_at e j ≤ D
    within j l = elim (h.said j l) [ inl less ↦ omega arith | inr same ↦ omega arith ]

    kept : (j : ℕ) → j < length e → (moment_at e j < D) ⊎ (moment_at e j ≡ D) → eaten_by market D e (limit_cells market j) (moment_at e j) ≤ limit_ceiling market j * D
    kept j l (inl less) = (let k = (h.right (moment_at e j) less).now j l refl in omega (arith, k))
    kept j l (inr same) = subst (λ x. eaten_by market D e (limit_cells market j) x ≤ limit_ceiling market j * D) (sym same) (last j l same)

-- a table up to a moment is right up to it
pub partial_right : (market : Market) (D m : ℕ) (e : List ℕ) → IsPartialTable market D m e → IsRightBelow market D (m + 1) e
partial_right market D m e h = record {
  positive = (let k : m < D = h.before_end in omega arith);
  reach = (let k : m < D = h.before_end in omega arith);
  size = h.size;
  said = λ j l. said (h.said j l);
  right = λ t below. record {
    later = λ j l k. h.before j t l (omega arith) k;
    now = λ j l k. subst (λ x. eaten_by market D e (limit_cells market j) x ≡ limit_ceiling market j * D) k (h.full j l (let b : moment_at e j ≤ m = omega arith in b));
  };
}
  where
    said : {x : ℕ} → (x ≤ m) ⊎ (x ≡ D) → (x < m + 1) ⊎ (x ≡ D)
    said (inl k) = inl (omega arith)
    said (inr k) = inr k

-- and a table that is right up to one of its numbers is a table up to it
pub right_partial : (market : Market) (D m : ℕ) (e : List ℕ) → IsRightBelow market D (m + 1) e → (j : ℕ) → j < length e → moment_at e j ≡ m → IsPartialTable market D m e
right_partial market D m e h j l k = record {
  before_end = (let r : m + 1 ≤ D = h.reach in omega arith);
  size = h.size;
  said = λ i b. said (h.said i b);
  some = (j, l, k);
  before = λ i t b u v. (h.right t (omega arith)).later i b v;
  full = λ i b u. (h.right (moment_at e i) (omega arith)).now i b refl;
}
  where
    said : {x : ℕ} → (x < m + 1) ⊎ (x ≡ D) → (x ≤ m) ⊎ (x ≡ D)
    said (inl k) = inl (omega arith)
    said (inr k) = inr k

one_more : (t x y eaten eaten' full : ℕ) → min t x ≡ min t y → (x ≡ t → eaten ≡ full) → (t < x → eaten < full) → (y ≡ t → eaten' ≡ full) → (t < y → eaten' < full)
    → eaten ≡ eaten' → min (suc t) x ≡ min (suc t) y
one_more t x y eaten eaten' full e p q p' q' same = elim (cases_order t x) [
  | inl at ↦ elim (cases_order t y) [
    | inl at' ↦ omega arith
    | inr (inl less') ↦ absurd (let a = p (sym at) in let b = q' less' in omega (arith, a, b, same))
    | inr (inr more') ↦ absurd (omega arith)
  ]
  | inr (inl less) ↦ elim (cases_order t y) [
    | inl at' ↦ absurd (let a = q less in let b = p' (sym at') in omega (arith, a, b, same))
    | inr (inl less') ↦ omega arith
    | inr (inr more') ↦ absurd (omega arith)
  ]
  | inr (inr more) ↦ omega arith
]

-- two tables over one denominator that are right below a moment agree up to it
pub agree : (market : Market) (D n n' : ℕ) (e e' : List ℕ) → IsRightBelow market D n e → IsRightBelow market D n' e'
    → (t : ℕ) → t ≤ n → t ≤ n' → (j : ℕ) → min t (moment_at e j) ≡ min t (moment_at e' j)
agree market D n n' e e' h h' zero k k' j = omega arith
agree market D n n' e e' h h' (suc t) k k' j =
    let same : length e ≡ length e' = h.size ∙ sym h'.size in
    let before : (i : ℕ) → min t (moment_at e i) ≡ min t (moment_at e' i) = agree market D n n' e e' h h' t (omega arith) (omega arith) in
    let eaten = eaten_cut market D t t e e' (limit_cells market j) same before (omega arith) in
    elim (cases_lt j (length e)) [
      | inl inside ↦
          let at = h.right t (omega arith) in
          let at' = h'.right t (omega arith) in
          let inside' : j < length e' = omega arith in
          one_more t (moment_at e j) (moment_at e' j) (eaten_by market D e (limit_cells market j) t) (eaten_by market D e' (limit_cells market j) t) (limit_ceiling market j * D)
          (before j) (at.now j inside) (at.later j inside) (at'.now j inside') (at'.later j inside') eaten
      | inr past ↦ ap (λ x. min (suc t) x) (get_or_past e j 0 past ∙ sym (get_or_past e' j 0 (omega arith)))
    ]
