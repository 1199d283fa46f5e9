-- The order of fractions by their values.
use Rattle.std.specs.Prelude.{◌≡◌, ℕ, ◌*◌, ◌<◌, ◌≤◌, true, ◌&&◌, ◌==◌}
use Rattle.std.specs.declared.cmp.Ordering.{Ordering}
use Rattle.std.specs.declared.cmp.Ordering.TheVariants.{Less, Equal, Greater}
use Rattle.std.specs.Ordering.{nat_cmp, is_eq, as_partial_cmp, MatchOrdering}
use Rattle.std.specs.Int.{◌∣◌}
use Rattle.std.specs.Cmp.{IsTotalOrder, IsPartialOrder, partial_order_from_agreeing_total, nat_cmp_is, ranks, nat_cmp_total, both_ways, Equal-is}
use Rattle.std.proofs.Common.{refl, sym, ap, ap₂, ◌∙◌, subst, arith, mul_comm, mul_assoc, mul_left_comm, mul_right_comm, mul-lt-mul_of_pos_right, lt_of_mul-lt-mul_right, eqb-true, eq-eqb}
use Rattle.std.proofs.lemmas.Bool.{and_parts, and_from}
use Rattle.std.proofs.Math.Nat.{eq_of_mul-eq-mul_left, lt_of_mul-lt-mul_left}
use Rattle.frac128.specs.Measure.{same_fraction}

-- how a / b compares with c / d: as a · d with c · b
abbrev pub cross_cmp : ℕ → ℕ → ℕ → ℕ → Ordering
cross_cmp a b c d = nat_cmp (a * d) (c * b)

-- two pairs in the same order
pub same_cmp : (p q u v : ℕ) → (p < q → u < v) → (p ≡ q → u ≡ v) → (q < p → v < u) → nat_cmp p q ≡ nat_cmp u v
same_cmp p q u v less equal greater = nat_cmp_is u v (nat_cmp p q) (carried (nat_cmp p q) (ranks p q))
  where
    carried : (o : Ordering) → MatchOrdering o (p < q) (p ≡ q) (q < p) → MatchOrdering o (u < v) (u ≡ v) (v < u)
    carried Less h = less h
    carried Equal h = equal h
    carried Greater h = greater h

-- a common factor leaves the order
pub nat_cmp-mul : (k p q : ℕ) → 0 < k → nat_cmp (k * p) (k * q) ≡ nat_cmp p q
nat_cmp-mul k p q pos =
    same_cmp (k * p) (k * q) p q (λ h. lt_of_mul-lt-mul_left k h) (λ h. eq_of_mul-eq-mul_left k pos p q h) (λ h. lt_of_mul-lt-mul_left k h)

pub below : (p q : ℕ) → nat_cmp p q ≡ Less → p < q
below p q e = subst (λ o. MatchOrdering o (p < q) (p ≡ q) (q < p)) e (ranks p q)

pub level : (p q : ℕ) → nat_cmp p q ≡ Equal → p ≡ q
level p q e = subst (λ o. MatchOrdering o (p < q) (p ≡ q) (q < p)) e (ranks p q)

-- a / b below c / d below e / f
chain : (a b c d e f : ℕ) → 0 < b → 0 < f → a * d < c * b → c * f < e * d → a * f < e * b
chain a b c d e f pos_b pos_f p q =
    let low : a * d * f < c * b * f = mul-lt-mul_of_pos_right p pos_f in
    let high : c * f * b < e * d * b = mul-lt-mul_of_pos_right q pos_b in
    let one : a * f * d ≡ a * d * f = mul_right_comm a f d in
    let two : c * b * f ≡ c * f * b = mul_right_comm c b f in
    let three : e * b * d ≡ e * d * b = mul_right_comm e b d in
    let all : a * f * d < e * b * d = omega arith in
    lt_of_mul-lt-mul_right d all

-- where a / b is c / d, both compare alike with e / f
alike : (a b c d e f : ℕ) → 0 < b → 0 < d → a * d ≡ c * b → cross_cmp a b e f ≡ cross_cmp c d e f
alike a b c d e f pos_b pos_d same =
    sym (nat_cmp-mul d (a * f) (e * b) pos_d)
    ∙ ap₂ nat_cmp (left d a f ∙ ap (λ n. n * f) same ∙ right c b f) (mul_left_comm d e b ∙ ap (λ n. e * n) (mul_comm d b) ∙ mul_left_comm e b d)
    ∙ nat_cmp-mul b (c * f) (e * d) pos_b
  where
    left : (d a f : ℕ) → d * (a * f) ≡ a * d * f
    left d a f = mul_left_comm d a f ∙ sym (mul_assoc a d f)

    right : (c b f : ℕ) → c * b * f ≡ b * (c * f)
    right c b f = mul_assoc c b f ∙ mul_left_comm c b f

-- fractions of any kind, with denominators of at least 1, are in a total order
pub cross_total : {K : Type 0} (num den : K → ℕ) → ((x : K) → 1 ≤ den x) → IsTotalOrder (λ (x y : K). cross_cmp (num x) (den x) (num y) (den y))
cross_total num den pos = record {
  antisymm = λ x y. nat_cmp_total.antisymm (num x * den y) (num y * den x);
  trans = λ x y z p q.
      sym (nat_cmp_is (num x * den z) (num z * den x) Less
      (chain (num x) (den x) (num y) (den y) (num z) (den z) (pos x) (pos z) (below (num x * den y) (num y * den x) p) (below (num y * den z) (num z * den y) q)));
  congr = λ x y z p. alike (num x) (den x) (num y) (den y) (num z) (den z) (pos x) (pos y) (level (num x * den y) (num y * den x) p);
}

-- fractions in lowest terms have one value exactly where they are one pair
pub cross_cmp-lowest : (a b c d : ℕ) → 1 ≤ b → 1 ≤ d → ((f : ℕ) → f ∣ a → f ∣ b → f ≤ 1) → ((f : ℕ) → f ∣ c → f ∣ d → f ≤ 1)
    → (a == c && b == d) ≡ is_eq (cross_cmp a b c d)
cross_cmp-lowest a b c d pos_b pos_d low_b low_d = both_ways (a == c && b == d) (is_eq (cross_cmp a b c d)) there back
  where
    there : (a == c && b == d) ≡ true → is_eq (cross_cmp a b c d) ≡ true
    there h =
        let both = and_parts (a == c) (b == d) h in
        let same : a * d ≡ c * b = ap₂ (λ m n. m * n) (eqb-true a c both.0) (sym (eqb-true b d both.1)) in
        ap is_eq (sym (nat_cmp_is (a * d) (c * b) Equal same))

    back : is_eq (cross_cmp a b c d) ≡ true → (a == c && b == d) ≡ true
    back h =
        let same = level (a * d) (c * b) ((Equal-is (cross_cmp a b c d)).0 h) in
        let one = same_fraction a b c d pos_b pos_d low_b low_d same in
        and_from (a == c) (b == d) (eq-eqb a c one.0) (eq-eqb b d one.1)

-- and where they are in lowest terms, those of one value are equal
module _ {K : Type 0} (num den : K → ℕ) (pos : (x : K) → 1 ≤ den x) (low : (x : K) (f : ℕ) → f ∣ num x → f ∣ den x → f ≤ 1) where
  pub cross_ties : (x y : K) → (num x == num y && den x == den y) ≡ is_eq (cross_cmp (num x) (den x) (num y) (den y))
  cross_ties x y = cross_cmp-lowest (num x) (den x) (num y) (den y) (pos x) (pos y) (low x) (low y)

  pub cross_laws : IsPartialOrder (λ (x y : K). num x == num y && den x == den y) (as_partial_cmp (λ (x y : K). cross_cmp (num x) (den x) (num y) (den y)))
  cross_laws =
      partial_order_from_agreeing_total {C = as_partial_cmp (λ (x y : K). cross_cmp (num x) (den x) (num y) (den y))} (λ (x y : K). cross_cmp (num x) (den x) (num y) (den y)) (cross_total num den pos) (λ x y. refl) cross_ties
