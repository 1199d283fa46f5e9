-- Two roundings of one number are near each other; and where all sums over first places are, sums of falling numbers
-- over two assignments differ by at most the first minus the last number.
-- Numbers are gains less losses. `a` and `b` are the sums so far, and u - v the number before.
use Rattle.std.proofs.Common.{◌≡◌, ℕ, suc, ◌+◌, ◌*◌, ◌-◌, ◌/◌, ◌<◌, ◌≤◌, List, [], ◌∷◌, length, take, ap, ◌∙◌, arith, inl, inr}
use Rattle.std.specs.Prelude.{sum_by}
use Rattle.std.proofs.lemmas.List.Sums.{sum_by-cons}
use Rattle.std.proofs.lemmas.Nat.{le-div, div_below, div-mul-add}
use Rattle.std.proofs.Math.Nat.{mul-add, add-mul, div-mul-le_self, lt-div-mul-add, mul-div_cancel}
use Rattle.definitions.specs.Rounding.{IsRounded}

round_up_least : (y d : ℕ) → 1 ≤ d → y / d ≤ (y + d - 1) / d
round_up_least y d one = le-div (y / d) (y + d - 1) d one (omega (arith, div-mul-le_self y d))

round_up_most : (y d : ℕ) → 1 ≤ d → (y + d - 1) / d ≤ y / d + 1
round_up_most y d one =
    let below : y < y / d * d + d = lt-div-mul-add one in
    let two : 2 * d ≡ d + d = omega arith in
    let m : (y + d - 1) / d < y / d + 2 = div_below (y + d - 1) d (y / d + 2) one (omega (arith, below, two, add-mul (y / d) 2 d)) in
    omega arith

-- two roundings of one number differ by at most 1
pub rounded_near : (y d a b : ℕ) → 1 ≤ d → IsRounded y d a → IsRounded y d b → a ≤ b + 1
rounded_near y d a b one (inl e) (inl f) = omega (arith, e, f)
rounded_near y d a b one (inl e) (inr f) = omega (arith, e, f, round_up_least y d one)
rounded_near y d a b one (inr e) (inl f) = omega (arith, e, f, round_up_most y d one)
rounded_near y d a b one (inr e) (inr f) = omega (arith, e, f)

-- a whole number rounds to itself
pub rounded_whole : (n d a : ℕ) → 1 ≤ d → IsRounded (n * d) d a → a ≡ n
rounded_whole n d a one (inl e) = e ∙ mul-div_cancel n one
rounded_whole n d a one (inr e) =
    let same : n * d + d - 1 ≡ n * d + (d - 1) = omega arith in
    e ∙ ap (λ m. m / d) same ∙ div-mul-add n d (d - 1) (omega arith)

-- one place: (U - W)(b + 1 - a) is at least 0, where U = u - v is the number before and W = g - l the number here
step : (u v g l a b : ℕ) → g + v ≤ u + l → a ≤ b + 1 → u * a + v * b + (g * b + l * a) + v + g ≤ u * b + v * a + (g * a + l * b) + u + l
step u v g l a b h k =
    let D : ℕ = u + l - (g + v) in
    let e : u + l ≡ g + v + D = omega arith in
    let f : b + 1 ≡ a + (b + 1 - a) = omega arith in
    let x : (u + l) * a ≡ (g + v + D) * a = ap (λ n. n * a) e in
    let y : (u + l) * b ≡ (g + v + D) * b = ap (λ n. n * b) e in
    let z : D * (b + 1) ≡ D * (a + (b + 1 - a)) = ap (λ n. D * n) f in
    omega (
      arith,
      x,
      y,
      z,
      add-mul u l a,
      add-mul (g + v) D a,
      add-mul g v a,
      add-mul u l b,
      add-mul (g + v) D b,
      add-mul g v b,
      mul-add D b 1,
      mul-add D a (b + 1 - a),
    )

-- the last of these, or the first where there are none
abbrev pub last_of : {W : Type 0} → (W → ℕ) → ℕ → List W → ℕ
last_of f u [] = u
last_of f u (w ∷ ws) = last_of f (f w) ws

module _ {W : Type 0} (gain loss own other : W → ℕ) where
  -- no number is above the one before, from u - v on
  abbrev pub SinksAlong : ℕ → ℕ → List W → Type 0
  SinksAlong u v [] = Unit {0}
  SinksAlong u v (w ∷ ws) = (gain w + v ≤ u + loss w) × SinksAlong (gain w) (loss w) ws

  -- own is never ahead by more than 1, and level at the end
  abbrev pub IsNear : ℕ → ℕ → List W → Type 0
  IsNear a b [] = a ≡ b
  IsNear a b (w ∷ ws) = (a ≤ b + 1) × IsNear (a + own w) (b + other w) ws

  pub near_from_fronts : (a b : ℕ) (ws : List W) → ((k : ℕ) → k ≤ length ws → a + sum_by own (take k ws) ≤ b + sum_by other (take k ws) + 1)
      → a + sum_by own ws ≡ b + sum_by other ws → IsNear a b ws
  near_from_fronts a b [] h e = omega (arith, e)
  near_from_fronts a b (w ∷ ws) h e = (
    let first : a + sum_by own (take 0 (w ∷ ws)) ≤ b + sum_by other (take 0 (w ∷ ws)) + 1 = h 0 (omega arith) in omega (arith, first),
    near_from_fronts (a + own w) (b + other w) ws (λ k l. later k (h (suc k) (omega arith))) (omega (arith, e, sum_by-cons own w ws, sum_by-cons other w ws)),
  )
    where
      later : (k : ℕ) → a + sum_by own (w ∷ take k ws) ≤ b + sum_by other (w ∷ take k ws) + 1 → a + own w + sum_by own (take k ws) ≤ b + other w + sum_by other (take k ws) + 1
      later k m = omega (arith, m, sum_by-cons own w (take k ws), sum_by-cons other w (take k ws))

  pub guard : (u v a b : ℕ) (ws : List W) → SinksAlong u v ws → IsNear a b ws
      → u * a + v * b + (sum_by (λ w. gain w * own w) ws + sum_by (λ w. loss w * other w) ws) + (last_of gain u ws + v)
      ≤ u * b + v * a + (sum_by (λ w. gain w * other w) ws + sum_by (λ w. loss w * own w) ws) + (u + last_of loss v ws)
  guard u v a b [] f h = let x : u * a ≡ u * b = ap (λ n. u * n) h in let y : v * a ≡ v * b = ap (λ n. v * n) h in omega (arith, x, y)
  guard u v a b (w ∷ ws) f h =
      let ih = guard (gain w) (loss w) (a + own w) (b + other w) ws f.1 h.1 in
      omega (
        arith,
        ih,
        step u v (gain w) (loss w) a b f.0 h.0,
        mul-add (gain w) a (own w),
        mul-add (gain w) b (other w),
        mul-add (loss w) a (own w),
        mul-add (loss w) b (other w),
        sum_by-cons (λ s. gain s * own s) w ws,
        sum_by-cons (λ s. loss s * other s) w ws,
        sum_by-cons (λ s. gain s * other s) w ws,
        sum_by-cons (λ s. loss s * own s) w ws,
      )
