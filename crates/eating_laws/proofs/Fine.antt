-- What is asked of a table at whole moments holds at the moments between, however fine.
use Rattle.std.proofs.Common.{◌≡◌, ℕ, suc, zero, ◌+◌, ◌-◌, ◌*◌, ◌<◌, ◌≤◌, List, length, map, ap, sym, ◌∙◌, subst, inl, inr, arith, mul-le-mul_left}
use Rattle.std.specs.Prelude.{◌⊎◌, ◌/◌, ◌%◌}
use Rattle.std.proofs.Math.Nat.{mul-add, mul_left_comm, mul-lt-mul_of_pos_left, mul-pos, sub-add_cancel, add-mul, div-add-mod, mod-lt}
use Rattle.std.proofs.lemmas.Bool.{cases_lt, cases_order}
use Rattle.std.proofs.lemmas.List.{length-map}
use Rattle.definitions.specs.Values.{Market}
use Rattle.definitions.specs.Eating.{eaten_by, moment_at, limit_cells, limit_ceiling, IsEatingTable, IsPartialTable}
use Rattle.eating_laws.proofs.Full.{moments_scaled}
use Rattle.eating_laws.proofs.Sums.{eaten_scale}
use Rattle.eating_laws.proofs.Right.{IsRightAt, IsRightBelow, eating_right, right_eating, partial_right, right_partial}

-- a factor can be left off an order
pub below_from_product : (c x y r : ℕ) → c * x + r < c * y → x < y
below_from_product c x y r h = elim (cases_lt x y) [
  | inl less ↦ less
  | inr more ↦ absurd (let k : c * y ≤ c * x = mul-le-mul_left c more in omega arith)
]

mixed_below : (c r eaten eaten' full : ℕ) → r < c → eaten < full → (0 < r → eaten' ≤ full) → (c - r) * eaten + r * eaten' < c * full
mixed_below c r eaten eaten' full h p q =
    let first : (c - r) * eaten < (c - r) * full = mul-lt-mul_of_pos_left p (let k : 0 < c - r = omega arith in k) in
    let whole : (c - r) * full + r * full ≡ c * full = sym (add-mul (c - r) r full) ∙ ap (λ n. n * full) (sub-add_cancel (let k : r ≤ c = omega arith in k)) in
    let second : r * eaten' ≤ r * full = part r q in
    omega arith
  where
    part : (r : ℕ) → (0 < r → eaten' ≤ full) → r * eaten' ≤ r * full
    part zero q = omega arith
    part (suc r) q = mul-le-mul_left (suc r) (q (omega arith))

same_place : (c x s r : ℕ) → r < c → c * x ≡ c * s + r → x ≡ s
same_place c x s r h e = elim (cases_order x s) [
  | inl same ↦ same
  | inr (inl less) ↦ absurd (
      let k : c * (x + 1) ≤ c * s = mul-le-mul_left c (let l : x + 1 ≤ s = omega arith in l) in
      omega (arith, k, mul-add c x 1))
  | inr (inr more) ↦ absurd (
      let k : c * (s + 1) ≤ c * x = mul-le-mul_left c (let l : s + 1 ≤ x = omega arith in l) in
      omega (arith, k, mul-add c s 1))
]

-- a table that is right at a moment is right at the finer moments after it
pub right_scale : (market : Market) (c D s r : ℕ) (e : List ℕ) → r < c → IsRightAt market D e s
    → (0 < r → (j : ℕ) → j < length e → s < moment_at e j → eaten_by market D e (limit_cells market j) (s + 1) ≤ limit_ceiling market j * D)
    → IsRightAt market (c * D) (map (λ x. c * x) e) (c * s + r)
right_scale market c D s r e h at next = record {
  later = λ j l k. later j (inside l) (subst (λ x. c * s + r < x) (moments_scaled c e j) k);
  now = λ j l k. now j (inside l) (sym (moments_scaled c e j) ∙ k);
}
  where
    inside : {j : ℕ} → j < length (map (λ x. c * x) e) → j < length e
    inside {j} l = omega (arith, l, length-map e (λ x. c * x))

    eaten_is : (j : ℕ) → eaten_by market (c * D) (map (λ x. c * x) e) (limit_cells market j) (c * s + r)
        ≡ (c - r) * eaten_by market D e (limit_cells market j) s + r * eaten_by market D e (limit_cells market j) (s + 1)
    eaten_is j = eaten_scale market c D s r e (limit_cells market j) (omega arith)

    full_is : (j : ℕ) → limit_ceiling market j * (c * D) ≡ c * (limit_ceiling market j * D)
    full_is j = mul_left_comm (limit_ceiling market j) c D

    later : (j : ℕ) → j < length e → c * s + r < c * moment_at e j → eaten_by market (c * D) (map (λ x. c * x) e) (limit_cells market j) (c * s + r) < limit_ceiling market j * (c * D)
    later j l k =
        let before : s < moment_at e j = below_from_product c s (moment_at e j) r k in
        let mixed = mixed_below c r (eaten_by market D e (limit_cells market j) s) (eaten_by market D e (limit_cells market j) (s + 1)) (limit_ceiling market j * D) h (at.later j l before) (λ p. next p j l before) in
        omega (arith, mixed, eaten_is j, full_is j)

    now : (j : ℕ) → j < length e → c * moment_at e j ≡ c * s + r → eaten_by market (c * D) (map (λ x. c * x) e) (limit_cells market j) (c * s + r) ≡ limit_ceiling market j * (c * D)
    now j l k =
        let same : moment_at e j ≡ s = same_place c (moment_at e j) s r h k in
        let none : r ≡ 0 = (let f : c * moment_at e j ≡ c * s = ap (λ x. c * x) same in omega arith) in
        let full = at.now j l same in
        let whole : (c - r) * eaten_by market D e (limit_cells market j) s ≡ c * (limit_ceiling market j * D) = ap (λ x. (c - r) * x) full ∙ ap (λ x. x * (limit_ceiling market j * D)) (let f : c - r ≡ c = omega arith in f) in
        let rest : r * eaten_by market D e (limit_cells market j) (s + 1) ≡ 0 * eaten_by market D e (limit_cells market j) (s + 1) = ap (λ x. x * eaten_by market D e (limit_cells market j) (s + 1)) none in
        omega (arith, whole, rest, eaten_is j, full_is j)

-- a finer moment, as a whole moment and what is left
pub record IsFiner (c t : ℕ) : Type 0 where
  pub whole : ℕ
  pub left : ℕ
  pub below : left < c
  pub parts : c * whole + left ≡ t

pub finer : (c t : ℕ) → 0 < c → IsFiner c t
finer c t h = record { whole = t / c; left = t % c; below = mod-lt t h; parts = div-add-mod t c }

-- a table that is right up to m, in finer moments
pub scale_right : (market : Market) (c D m : ℕ) (e : List ℕ) → 1 ≤ c → IsRightBelow market D (m + 1) e → IsRightBelow market (c * D) (c * m + 1) (map (λ x. c * x) e)
scale_right market c D m e h r = record {
  positive = mul-pos h r.positive;
  reach = (let k : c * (m + 1) ≤ c * D = mul-le-mul_left c r.reach in omega (arith, k, mul-add c m 1));
  size = length-map e (λ x. c * x) ∙ r.size;
  said = λ j l. subst (λ x. (x < c * m + 1) ⊎ (x ≡ c * D)) (sym (moments_scaled c e j)) (said (r.said j (omega (arith, l, length-map e (λ x. c * x)))));
  right = λ t below. right t below (finer c t h);
}
  where
    said : {x : ℕ} → (x < m + 1) ⊎ (x ≡ D) → (c * x < c * m + 1) ⊎ (c * x ≡ c * D)
    said {x} (inl k) = inl (let f : c * x ≤ c * m = mul-le-mul_left c (let l : x ≤ m = omega arith in l) in omega arith)
    said (inr k) = inr (ap (λ x. c * x) k)

    right : (t : ℕ) → t < c * m + 1 → IsFiner c t → IsRightAt market (c * D) (map (λ x. c * x) e) t
    right t below f =
        let early : f.whole ≤ m = within f.whole (omega (arith, f.parts)) in
        subst (λ x. IsRightAt market (c * D) (map (λ x. c * x) e) x) f.parts
        (right_scale market c D f.whole f.left e f.below (r.right f.whole (omega arith)) (λ p j l k. next f.whole j l k (later f.whole f.left p (omega (arith, f.parts)))))
      where
        within : (s : ℕ) → c * s ≤ c * m → s ≤ m
        within s k = elim (cases_lt m s) [
          | inl less ↦ absurd (let w : c * (m + 1) ≤ c * s = mul-le-mul_left c (let l : m + 1 ≤ s = omega arith in l) in omega (arith, w, mul-add c m 1))
          | inr more ↦ more
        ]

        later : (s l : ℕ) → 0 < l → c * s + l ≤ c * m → s + 1 ≤ m
        later s l p k = (let f : s < m = below_from_product c s m 0 (omega arith) in omega arith)

        next : (s j : ℕ) → j < length e → s < moment_at e j → s + 1 ≤ m → eaten_by market D e (limit_cells market j) (s + 1) ≤ limit_ceiling market j * D
        next s j l k w = (let at = r.right (s + 1) (omega arith) in elim (cases_lt (s + 1) (moment_at e j)) [
          | inl less ↦ (let f = at.later j l less in omega (arith, f))
          | inr more ↦ (let f = at.now j l (omega arith) in omega (arith, f))
        ])

-- an eating table times a factor is an eating table
pub scale_eating : (market : Market) (c D : ℕ) (e : List ℕ) → 1 ≤ c → IsEatingTable market D e → IsEatingTable market (c * D) (map (λ x. c * x) e)
scale_eating market c D e h r =
    right_eating market (c * D) (map (λ x. c * x) e)
    (record {
      positive = mul-pos h r.positive;
      reach = omega arith;
      size = length-map e (λ x. c * x) ∙ r.size;
      said = λ j l. subst (λ x. (x < c * D) ⊎ (x ≡ c * D)) (sym (moments_scaled c e j)) (said (r.within j (omega (arith, l, length-map e (λ x. c * x)))));
      right = λ t below. right t below (finer c t h);
    })
    (λ j l k. last j (omega (arith, l, length-map e (λ x. c * x))) (eq_of_product (moment_at e j) (sym (moments_scaled c e j) ∙ k)))
  where
    base : IsRightBelow market D D e
    base = eating_right market D e r

    said : {x : ℕ} → x ≤ D → (c * x < c * D) ⊎ (c * x ≡ c * D)
    said {x} k = elim (cases_lt x D) [
      | inl less ↦ inl (mul-lt-mul_of_pos_left less h)
      | inr more ↦ inr (ap (λ x. c * x) (let f : x ≡ D = omega arith in f))
    ]

    eq_of_product : (x : ℕ) → c * x ≡ c * D → x ≡ D
    eq_of_product x k = same_place c x D 0 h (omega arith)

    next : (s j : ℕ) → j < length e → s < moment_at e j → eaten_by market D e (limit_cells market j) (s + 1) ≤ limit_ceiling market j * D
    next s j l k = elim (cases_lt (s + 1) (moment_at e j)) [
      | inl less ↦ (let f = r.before j (s + 1) l less in omega (arith, f))
      | inr more ↦ (let same : moment_at e j ≡ s + 1 = omega arith in subst (λ x. eaten_by market D e (limit_cells market j) x ≤ limit_ceiling market j * D) same (r.kept j l))
    ]

    right : (t : ℕ) → t < c * D → IsFiner c t → IsRightAt market (c * D) (map (λ x. c * x) e) t
    right t below f =
        let early : f.whole < D = below_from_product c f.whole D f.left (omega (arith, f.parts)) in
        subst (λ x. IsRightAt market (c * D) (map (λ x. c * x) e) x) f.parts
        (right_scale market c D f.whole f.left e f.below (base.right f.whole early) (λ p j l k. next f.whole j l k))

    last : (j : ℕ) → j < length e → moment_at e j ≡ D → eaten_by market (c * D) (map (λ x. c * x) e) (limit_cells market j) (c * D) ≤ limit_ceiling market j * (c * D)
    last j l k =
        let kept : eaten_by market D e (limit_cells market j) D ≤ limit_ceiling market j * D = subst (λ x. eaten_by market D e (limit_cells market j) x ≤ limit_ceiling market j * D) k (r.kept j l) in
        let scaled = eaten_scale market c D D 0 e (limit_cells market j) (omega arith) in
        let end : c * D + 0 ≡ c * D = omega arith in
        let all : c - 0 ≡ c = omega arith in
        let whole = ap (λ x. x * eaten_by market D e (limit_cells market j) D) all in
        let at_end = ap (λ x. eaten_by market (c * D) (map (λ x. c * x) e) (limit_cells market j) x) end in
        omega (arith, scaled, whole, at_end, mul-le-mul_left c kept, mul_left_comm (limit_ceiling market j) c D)

-- a table up to a moment times a factor is one
pub scale_partial : (market : Market) (c D m : ℕ) (e : List ℕ) → 1 ≤ c → IsPartialTable market D m e → IsPartialTable market (c * D) (c * m) (map (λ x. c * x) e)
scale_partial market c D m e h r =
    right_partial market (c * D) (c * m) (map (λ x. c * x) e) (scale_right market c D m e h (partial_right market D m e r))
    r.some.0 (omega (arith, r.some.1, length-map e (λ x. c * x))) (moments_scaled c e r.some.0 ∙ ap (λ x. c * x) r.some.2)
