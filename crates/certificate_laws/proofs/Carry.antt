-- Summation by parts: where worths fall and one assignment is ahead of another at each place, it gains more.
-- Worths are gains less losses. `c` is what the other assignment is ahead by so far, and u - v the worth before.
use Rattle.std.proofs.Common.{◌≡◌, ℕ, suc, zero, ◌+◌, ◌*◌, ◌-◌, ◌<◌, ◌≤◌, List, [], ◌∷◌, length, take, ap, arith}
use Rattle.std.specs.Prelude.{sum_by}
use Rattle.std.proofs.lemmas.List.Sums.{sum_by-cons}
use Rattle.std.proofs.Math.Nat.{mul-add, add-mul, mul-le-mul_right}

-- a place moves what the other is ahead by
moved : (w own other c c' : ℕ) → c' + own ≡ c + other → w * c' + w * own ≡ w * c + w * other
moved w own other c c' e = let m : w * (c' + own) ≡ w * (c + other) = e' in omega (arith, m, mul-add w c' own, mul-add w c other)
  where
    e' : w * (c' + own) ≡ w * (c + other)
    e' = ap (λ n. w * n) e

-- a lower worth loses at least once what the other is ahead by
lowered : (u v a b c : ℕ) → a + v < u + b → a * c + v * c + c ≤ u * c + b * c
lowered u v a b c h =
    let m : (a + v + 1) * c ≤ (u + b) * c = mul-le-mul_right c (let k : a + v + 1 ≤ u + b = omega arith in k) in
    let n : 1 * c ≡ c = omega arith in
    omega (arith, m, n, add-mul (a + v) 1 c, add-mul a v c, add-mul u b c)

module _ {W : Type 0} (gain loss own other : W → ℕ) where
  -- the worths fall strictly, from below u - v on
  abbrev pub FallsAlong : ℕ → ℕ → List W → Type 0
  FallsAlong u v [] = Unit {0}
  FallsAlong u v (w ∷ ws) = (gain w + v < u + loss w) × FallsAlong (gain w) (loss w) ws

  -- the other is never behind, and level at the end
  abbrev pub IsAhead : ℕ → List W → Type 0
  IsAhead c [] = c ≡ 0
  IsAhead c (w ∷ ws) = (own w ≤ c + other w) × IsAhead (c + other w - own w) ws

  -- what the other is ahead by, summed over the places
  abbrev pub spare : ℕ → List W → ℕ
  spare c [] = 0
  spare c (w ∷ ws) = c + spare (c + other w - own w) ws

  pub carry : (u v c : ℕ) (ws : List W) → FallsAlong u v ws → IsAhead c ws
      → sum_by (λ w. gain w * own w) ws + sum_by (λ w. loss w * other w) ws + spare c ws + v * c ≤ u * c + sum_by (λ w. gain w * other w) ws + sum_by (λ w. loss w * own w) ws
  carry u v c [] f h = let a : u * c ≡ u * 0 = ap (λ n. u * n) h in let b : v * c ≡ v * 0 = ap (λ n. v * n) h in omega (arith, a, b)
  carry u v c (w ∷ ws) f h =
      let rest : ℕ = c + other w - own w in
      let next : rest + own w ≡ c + other w = omega (arith, h.0) in
      let ih = carry (gain w) (loss w) rest ws f.1 h.1 in
      let m : gain w * rest + gain w * own w ≡ gain w * c + gain w * other w = moved (gain w) (own w) (other w) c rest next in
      let n : loss w * rest + loss w * own w ≡ loss w * c + loss w * other w = moved (loss w) (own w) (other w) c rest next in
      let l : gain w * c + v * c + c ≤ u * c + loss w * c = lowered u v (gain w) (loss w) c f.0 in
      omega (
        arith,
        ih,
        m,
        n,
        l,
        sum_by-cons (λ s. gain s * own s) w ws,
        sum_by-cons (λ s. loss s * other s) w ws,
        sum_by-cons (λ s. gain s * other s) w ws,
        sum_by-cons (λ s. loss s * own s) w ws,
      )

  -- ahead at each front, and level over the whole
  pub ahead_from_fronts : (c : ℕ) (ws : List W) → ((k : ℕ) → k ≤ length ws → sum_by own (take k ws) ≤ c + sum_by other (take k ws)) → sum_by own ws ≡ c + sum_by other ws → IsAhead c ws
  ahead_from_fronts c [] h e = omega (arith, e)
  ahead_from_fronts c (w ∷ ws) h e =
      let first : sum_by own (w ∷ []) ≤ c + sum_by other (w ∷ []) = h 1 (omega arith) in
      let here : own w ≤ c + other w = omega (arith, first, sum_by-cons own w [], sum_by-cons other w []) in (
        here,
        ahead_from_fronts (c + other w - own w) ws (λ k l. later k here (h (suc k) (omega arith))) (omega (arith, here, e, sum_by-cons own w ws, sum_by-cons other w ws)),
      )
    where
      later : (k : ℕ) → own w ≤ c + other w → sum_by own (w ∷ take k ws) ≤ c + sum_by other (w ∷ take k ws) → sum_by own (take k ws) ≤ c + other w - own w + sum_by other (take k ws)
      later k here m = omega (arith, here, m, sum_by-cons own w (take k ws), sum_by-cons other w (take k ws))

  -- more at some front leaves something to spare
  pub spare_from_front : (c k : ℕ) (ws : List W) → IsAhead c ws → sum_by own (take k ws) < c + sum_by other (take k ws) → 0 < spare c ws
  spare_from_front c zero [] a l = absurd (omega (arith, a, l))
  spare_from_front c (suc k) [] a l = absurd (omega (arith, a, l))
  spare_from_front c zero (w ∷ ws) a l = omega (arith, l)
  spare_from_front c (suc k) (w ∷ ws) a l =
      let rest = spare_from_front (c + other w - own w) k ws a.1 (omega (arith, a.0, l, sum_by-cons own w (take k ws), sum_by-cons other w (take k ws))) in
      omega (arith, rest)
