-- One turn of Euclid's comparison of a / b with c / d.
use Rattle.std.specs.Ordering.{is_ne, MatchOrdering}
use Rattle.std.specs.Cmp.{nat_cmp_is, ranks}
use Rattle.std.proofs.Common.{◌≡◌, ℕ, true, false, true≢false, Ordering, Less, Equal, Greater, ap, ◌+◌, ◌*◌, ◌/◌, ◌%◌, ◌<◌, ◌≤◌, ◌⊎◌, sym, ap₂, ◌∙◌, arith, inl, inr, mul_comm, mul_right_comm, mul-le-mul_right, mul-lt-mul_of_pos_right, div-add-mod', add-mul, nat_cmp, div-mul-le_self, mul-pos, zero-mul}
use Rattle.std.proofs.Math.Nat.{lt-div-mul-add}
use Rattle.frac128.specs.Order.{cross_cmp, same_cmp}

-- the smaller quotient is that of the smaller fraction
quotient_below : (a b c d : ℕ) → 0 < b → 0 < d → a / b < c / d → a * d < c * b
quotient_below a b c d pos_b pos_d h =
    let under : a * d < (a / b * b + b) * d = mul-lt-mul_of_pos_right (lt-div-mul-add pos_b) pos_d in
    let over : c / d * d * b ≤ c * b = mul-le-mul_right b (div-mul-le_self c d) in
    let step : (a / b + 1) * (b * d) ≤ c / d * (b * d) = mul-le-mul_right (b * d) (omega arith) in
    grind arith

-- what the test of two quotients says
pub quotients_differ : (p q : ℕ) → is_ne (nat_cmp p q) ≡ true → p ≡ q → ⊥
quotients_differ p q h same = true≢false (sym h ∙ ap is_ne (sym (nat_cmp_is p q Equal same)))

pub quotients_agree : (p q : ℕ) → is_ne (nat_cmp p q) ≡ false → p ≡ q
quotients_agree p q h = told (nat_cmp p q) h (ranks p q)
  where
    told : (o : Ordering) → is_ne o ≡ false → MatchOrdering o (p < q) (p ≡ q) (q < p) → p ≡ q
    told Less e h = absurd (true≢false e)
    told Equal e h = h
    told Greater e h = absurd (true≢false e)

-- unequal quotients decide
pub quotients_decide : (a b c d : ℕ) → 1 ≤ b → 1 ≤ d → (a / b ≡ c / d → ⊥) → nat_cmp (a / b) (c / d) ≡ cross_cmp a b c d
quotients_decide a b c d pos_b pos_d apart =
    same_cmp (a / b) (c / d) (a * d) (c * b)
    (λ h. quotient_below a b c d pos_b pos_d h)
    (λ h. absurd (apart h))
    (λ h. quotient_below c d a b pos_d pos_b h)

-- with equal quotients the remainders decide
pub remainders_decide : (a b c d : ℕ) → a / b ≡ c / d → nat_cmp (a % b * d) (c % d * b) ≡ cross_cmp a b c d
remainders_decide a b c d same =
    let left : a / b * b * d + a % b * d ≡ a * d = sym (add-mul (a / b * b) (a % b) d) ∙ ap (λ n. n * d) (div-add-mod' a b) in
    let right : c / d * d * b + c % d * b ≡ c * b = sym (add-mul (c / d * d) (c % d) b) ∙ ap (λ n. n * b) (div-add-mod' c d) in
    let whole : a / b * b * d ≡ c / d * d * b = ap (λ q. q * b * d) same ∙ mul_right_comm (c / d) b d in
    same_cmp (a % b * d) (c % d * b) (a * d) (c * b) (λ h. omega arith) (λ h. omega arith) (λ h. omega arith)

-- where a remainder is 0 they decide as they are
pub remainders_end : (r s b d : ℕ) → 1 ≤ b → 1 ≤ d → (r ≡ 0) ⊎ (s ≡ 0) → nat_cmp r s ≡ nat_cmp (r * d) (s * b)
remainders_end r s b d pos_b pos_d h =
    elim h [
      | inl e ↦ (let z : r * d ≡ 0 = ap (λ n. n * d) e ∙ zero-mul d in
          same_cmp r s (r * d) (s * b) (λ l. let p : 0 < s * b = mul-pos (omega arith) pos_b in omega arith)
          (λ l. z ∙ sym (ap (λ n. n * b) (sym l ∙ e) ∙ zero-mul b)) (λ l. absurd (omega arith)))
      | inr e ↦ (let z : s * b ≡ 0 = ap (λ n. n * b) e ∙ zero-mul b in
          same_cmp r s (r * d) (s * b) (λ l. absurd (omega arith))
          (λ l. ap (λ n. n * d) (l ∙ e) ∙ zero-mul d ∙ sym z) (λ l. let p : 0 < r * d = mul-pos (omega arith) pos_d in omega arith))
    ]

-- where both aren't, the comparison goes on upside down
pub turned : (a b c d : ℕ) → a / b ≡ c / d → cross_cmp d (c % d) b (a % b) ≡ cross_cmp a b c d
turned a b c d same = ap₂ nat_cmp (mul_comm d (a % b)) (mul_comm b (c % d)) ∙ remainders_decide a b c d same
