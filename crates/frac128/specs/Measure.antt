-- Numbers in proportion have a common measure. Lowest terms and least common multiples follow from it.
use Rattle.std.specs.Prelude.{◌≡◌, ℕ, zero, suc, ◌+◌, ◌-◌, ◌*◌, ◌/◌, ◌<◌, ◌≤◌}
use Rattle.std.specs.Int.{IsGcd, ◌∣◌}
use Rattle.std.proofs.Common.{sym, ap, ◌∙◌, subst, inl, inr, arith, mul_comm, mul_assoc, mul_left_comm, mul-le-mul_left, one-mul}
use Rattle.std.proofs.Math.Nat.{eq_of_mul-eq-mul_right, eq_of_mul-eq-mul_left, le_of_mul-le-mul_right, mul-sub, dvd-mul_right, dvd-mul_left, dvd-zero, le_of_dvd, mul-dvd-mul_left, dvd_antisymm, mul-div_cancel'}
use Rattle.std.proofs.lemmas.Bool.{cases_order}
use Rattle.frac128.specs.Lcm.{IsLcm}

-- D and every x j are multiples of one number each, by the same factors as D' and every y j
pub record HasMeasure (D D' : ℕ) (x y : ℕ → ℕ) : Type 0 where
  pub factor : ℕ
  pub factor' : ℕ
  pub unit : ℕ
  pub part : ℕ → ℕ
  pub whole : factor * unit ≡ D
  pub whole' : factor' * unit ≡ D'
  pub parts : (j : ℕ) → factor * part j ≡ x j
  pub parts' : (j : ℕ) → factor' * part j ≡ y j

-- nothing above 1 divides D and every x j
abbrev pub IsLowest : ℕ → (ℕ → ℕ) → Type 0
IsLowest D x = (f : ℕ) → f ∣ D → ((j : ℕ) → f ∣ x j) → f ≤ 1

-- from a proportion with D at most D', the numbers of D are at most those of D'
smaller : (D D' u v : ℕ) → 0 < D' → D ≤ D' → u * D' ≡ v * D → u ≤ v
smaller D D' u v pos le e =
    let more : v * D ≤ v * D' = mul-le-mul_left v le in
    let h : u * D' ≤ v * D' = omega arith in
    le_of_mul-le-mul_right h pos

-- and the rest is in proportion too
rest : (D D' u v : ℕ) → u * D' ≡ v * D → u * (D' - D) ≡ (v - u) * D
rest D D' u v e =
    mul-sub u D' D ∙ ap (λ n. n - u * D) e
    ∙ ap (λ n. n - u * D) (mul_comm v D)
    ∙ ap (λ n. D * v - n) (mul_comm u D)
    ∙ sym (mul-sub D v u)
    ∙ mul_comm D (v - u)

swapped : {D D' : ℕ} {x y : ℕ → ℕ} → HasMeasure D' D y x → HasMeasure D D' x y
swapped m = record {
  factor = m.factor';
  factor' = m.factor;
  unit = m.unit;
  part = m.part;
  whole = m.whole';
  whole' = m.whole;
  parts = m.parts';
  parts' = m.parts;
}

-- a measure of what is left is one of the whole
widened : (D D' : ℕ) (x y : ℕ → ℕ) → D ≤ D' → ((j : ℕ) → x j ≤ y j) → HasMeasure D (D' - D) x (λ j. y j - x j) → HasMeasure D D' x y
widened D D' x y le each m = record {
  factor = m.factor;
  factor' = m.factor + m.factor';
  unit = m.unit;
  part = m.part;
  whole = m.whole;
  whole' = together m.factor m.factor' m.unit D D' m.whole m.whole' le;
  parts = m.parts;
  parts' = λ j. together m.factor m.factor' (m.part j) (x j) (y j) (m.parts j) (m.parts' j) (each j);
}
  where
    together : (k l c u v : ℕ) → k * c ≡ u → l * c ≡ v - u → u ≤ v → (k + l) * c ≡ v
    together k l c u v p q h = grind arith

-- numbers in proportion have a common measure
pub common_measure : (fuel D D' : ℕ) (x y : ℕ → ℕ) → D + D' ≤ fuel → 0 < D → 0 < D' → ((j : ℕ) → x j * D' ≡ y j * D) → HasMeasure D D' x y
common_measure zero D D' x y room pos pos' e = absurd (omega arith)
common_measure (suc fuel) D D' x y room pos pos' e =
    elim (cases_order D D') [
      | inl same ↦ record {
        factor = 1;
        factor' = 1;
        unit = D;
        part = x;
        whole = one-mul D;
        whole' = one-mul D ∙ same;
        parts = λ j. one-mul (x j);
        parts' = λ j. one-mul (x j) ∙ eq_of_mul-eq-mul_right D' pos' (x j) (y j) (e j ∙ ap (λ n. y j * n) same);
      }
      | inr (inl less) ↦
          widened D D' x y (omega arith) (λ j. smaller D D' (x j) (y j) pos' (omega arith) (e j))
          (common_measure fuel D (D' - D) x (λ j. y j - x j) (omega arith) pos (omega arith) (λ j. rest D D' (x j) (y j) (e j)))
      | inr (inr more) ↦
          swapped (widened D' D y x (omega arith) (λ j. smaller D' D (y j) (x j) pos (omega arith) (sym (e j)))
          (common_measure fuel D' (D - D') y (λ j. x j - y j) (omega arith) pos' (omega arith) (λ j. rest D' D (y j) (x j) (sym (e j)))))
    ]

-- a factor of a number that is not 0 is not 0
pub factor_positive : (k m n : ℕ) → k * m ≡ n → 0 < n → 0 < m
factor_positive k zero n e pos = absurd (grind arith)
factor_positive k (suc m) n e pos = omega arith

factor_is_one : (k c D : ℕ) → k * c ≡ D → 0 < D → k ≤ 1 → k ≡ 1
factor_is_one zero c D e pos h = absurd (grind arith)
factor_is_one (suc k) c D e pos h = omega arith

-- what is in proportion to numbers in lowest terms is a multiple of them
pub multiple_of_lowest : (D D' : ℕ) (x y : ℕ → ℕ) → 0 < D → 0 < D' → ((j : ℕ) → x j * D' ≡ y j * D) → IsLowest D' y
    → (k : ℕ) × (D ≡ k * D') × ((j : ℕ) → x j ≡ k * y j)
multiple_of_lowest D D' x y pos pos' e lowest =
    (m.factor, sym m.whole ∙ ap (λ n. m.factor * n) unit_is, λ j. sym (m.parts j) ∙ ap (λ n. m.factor * n) (part_is j))
  where
    m : HasMeasure D D' x y
    m = common_measure (D + D') D D' x y (omega arith) pos pos' e

    one : m.factor' ≡ 1
    one =
        factor_is_one m.factor' m.unit D' m.whole' pos'
        (lowest m.factor' (subst (λ n. m.factor' ∣ n) m.whole' (dvd-mul_right m.factor' m.unit))
        (λ j. subst (λ n. m.factor' ∣ n) (m.parts' j) (dvd-mul_right m.factor' (m.part j))))

    unit_is : m.unit ≡ D'
    unit_is = sym (one-mul m.unit) ∙ ap (λ n. n * m.unit) (sym one) ∙ m.whole'

    part_is : (j : ℕ) → m.part j ≡ y j
    part_is j = sym (one-mul (m.part j)) ∙ ap (λ n. n * m.part j) (sym one) ∙ m.parts' j

-- two numbers that are multiples of each other
pub same_lowest : (D D' : ℕ) (x y : ℕ → ℕ) → 0 < D → 0 < D' → ((j : ℕ) → x j * D' ≡ y j * D) → IsLowest D x → IsLowest D' y
    → (D ≡ D') × ((j : ℕ) → x j ≡ y j)
same_lowest D D' x y pos pos' e lowest lowest' =
    (there.1 ∙ once D', λ j. there.2 j ∙ once (y j))
  where
    there : (k : ℕ) × (D ≡ k * D') × ((j : ℕ) → x j ≡ k * y j)
    there = multiple_of_lowest D D' x y pos pos' e lowest'

    one : there.0 ≡ 1
    one =
        factor_is_one there.0 D' D (sym there.1) pos
        (lowest there.0 (subst (λ n. there.0 ∣ n) (sym there.1) (dvd-mul_right there.0 D'))
        (λ j. subst (λ n. there.0 ∣ n) (sym (there.2 j)) (dvd-mul_right there.0 (y j))))

    once : (n : ℕ) → there.0 * n ≡ n
    once n = ap (λ k. k * n) one ∙ one-mul n

-- two fractions a / b and c / d in lowest terms and of one value are one pair
pub same_fraction : (a b c d : ℕ) → 1 ≤ b → 1 ≤ d → ((f : ℕ) → f ∣ a → f ∣ b → f ≤ 1) → ((f : ℕ) → f ∣ c → f ∣ d → f ≤ 1)
    → a * d ≡ c * b → (a ≡ c) × (b ≡ d)
same_fraction a b c d pos_b pos_d low_b low_d e =
    let one = same_lowest b d (λ _. a) (λ _. c) pos_b pos_d (λ _. e) (λ f p q. low_b f (q 0) p) (λ f p q. low_d f (q 0) p) in
    (one.1 0, one.0)

-- the greatest common divisor of two numbers, one of them not 0, is not 0
pub gcd_positive : (a b g : ℕ) → IsGcd a b g → 0 < b → 0 < g
gcd_positive a b zero h pos = absurd (zero_divides b h.1 pos)
  where
    zero_divides : (n : ℕ) → 0 ∣ n → 0 < n → ⊥
    zero_divides n d p = let e : 0 * (n / 0) ≡ n = mul-div_cancel' 0 d in grind arith
gcd_positive a b (suc g) h pos = omega arith

-- over their greatest common divisor two numbers are in lowest terms
pub lowest_over_gcd : (a b g : ℕ) → IsGcd a b g → 0 < b → (f : ℕ) → f ∣ a / g → f ∣ b / g → f ≤ 1
lowest_over_gcd a b g h pos f p q =
    let at_least = gcd_positive a b g h pos in
    let in_a : g * f ∣ a = subst (λ n. g * f ∣ n) (mul-div_cancel' g h.0) (mul-dvd-mul_left f g p) in
    let in_b : g * f ∣ b = subst (λ n. g * f ∣ n) (mul-div_cancel' g h.1) (mul-dvd-mul_left f g q) in
    let within : g * f ≤ g = le_of_dvd at_least (h.2 (g * f) in_a in_b) in
    at_most_one g f at_least within
  where
    at_most_one : (g f : ℕ) → 0 < g → g * f ≤ g → f ≤ 1
    at_most_one g zero p h = omega arith
    at_most_one g (suc zero) p h = omega arith
    at_most_one g (suc (suc f)) p h = absurd (grind arith)

-- the least common multiple by the greatest common divisor
pub IsLcm-from_gcd : (a b g : ℕ) → IsGcd a b g → 0 < a → 0 < b → IsLcm a b (a / g * b)
IsLcm-from_gcd a b g h pos_a pos_b = record {
  first = subst (λ n. a ∣ n) (sym turned) (dvd-mul_right a b');
  second = dvd-mul_left b a';
  least = multiple;
}
  where
    a' : ℕ
    a' = a / g

    b' : ℕ
    b' = b / g

    of_a : g * a' ≡ a
    of_a = mul-div_cancel' g h.0

    of_b : g * b' ≡ b
    of_b = mul-div_cancel' g h.1

    turned : a' * b ≡ a * b'
    turned = ap (λ n. a' * n) (sym of_b) ∙ sym (mul_assoc a' g b') ∙ ap (λ n. n * b') (mul_comm a' g ∙ of_a)

    -- a common multiple is a times u and b times v, so u and v are in proportion to b' and a'
    share : (u v n : ℕ) → a * u ≡ n → b * v ≡ n → u * a' ≡ b' * v
    share u v n p q =
        let left : g * (a' * u) ≡ n = sym (mul_assoc g a' u) ∙ ap (λ m. m * u) of_a ∙ p in
        let right : g * (b' * v) ≡ n = sym (mul_assoc g b' v) ∙ ap (λ m. m * v) of_b ∙ q in
        mul_comm u a' ∙ eq_of_mul-eq-mul_left g (gcd_positive a b g h pos_b) (a' * u) (b' * v) (left ∙ sym right)

    multiple : (n : ℕ) → a ∣ n → b ∣ n → a' * b ∣ n
    multiple zero p q = dvd-zero (a' * b)
    multiple (suc n) p q =
        let u = suc n / a in
        let v = suc n / b in
        let of_u : a * u ≡ suc n = mul-div_cancel' a p in
        let of_v : b * v ≡ suc n = mul-div_cancel' b q in
        let m =
        multiple_of_lowest v a' (λ _. u) (λ _. b') (factor_positive b v (suc n) of_v (omega arith)) (factor_positive g a' a of_a pos_a)
        (λ _. share u v (suc n) of_u of_v) (λ f r s. lowest_over_gcd a b g h pos_b f r (s 0)) in
        let whole : a' * b * m.0 ≡ suc n = mul_assoc a' b m.0 ∙ mul_left_comm a' b m.0 ∙ ap (λ k. b * k) (mul_comm a' m.0 ∙ sym m.1) ∙ of_v in
        subst (λ k. a' * b ∣ k) whole (dvd-mul_right (a' * b) m.0)

-- there is one least common multiple at most
pub same_from_IsLcm : (a b l m : ℕ) → IsLcm a b l → IsLcm a b m → l ≡ m
same_from_IsLcm a b l m h k = dvd_antisymm (h.least m k.first k.second) (k.least l h.first h.second)
