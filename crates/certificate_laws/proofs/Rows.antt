-- One place, and one row: a sum of gains less losses is greatest where all units stand at the places of greatest gain.
use Rattle.std.proofs.Common.{◌≡◌, ℕ, suc, zero, ◌+◌, ◌*◌, ◌-◌, ◌<◌, ◌≤◌, ◌⊎◌, List, refl, ap, sym, ◌∙◌, arith, Bool, true, false, subst, inl, inr}
use Rattle.std.specs.Prelude.{sum_by}
use Rattle.std.specs.List.{AllByRecursion}
use Rattle.std.proofs.lemmas.Bool.{cases_Bool, both_ways, cases_lt}
use Rattle.std.proofs.Math.Nat.{mul-add, add-mul}
use Rattle.definitions.proofs.Sums.{sum_of_sums, sum_scaled, sum_same, sum_le_all}

-- products in opposite orders: (w - p)(y - x) is at least 0
rearranged : (w p x y h k : ℕ) → w ≡ p + h → y ≡ x + k → w * x + p * y ≤ w * y + p * x
rearranged w p x y h k e f =
    let a : w * x ≡ p * x + h * x = ap (λ n. n * x) e ∙ add-mul p h x in
    let b : w * y ≡ p * y + h * y = ap (λ n. n * y) e ∙ add-mul p h y in
    let c : h * y ≡ h * x + h * k = ap (λ n. h * n) f ∙ mul-add h x k in
    omega (arith, a, b, c)

-- one place: what it gains, what it loses, and the units of the other and of the own assignment there
place : (w p x y : ℕ) (out : Bool) → (out ≡ false → w ≤ p) → (out ≡ true → x ≤ y) → (0 < y → p ≤ w) → w * x + p * y ≤ w * y + p * x
place w p x y true a b c =
    place_out w p x y (b refl) c
  where
    place_out : (w p x y : ℕ) → x ≤ y → (0 < y → p ≤ w) → w * x + p * y ≤ w * y + p * x
    place_out w p x zero h c = let e : x ≡ 0 = omega arith in subst (λ n. w * n + p * 0 ≤ w * 0 + p * n) (sym e) (omega arith)
    place_out w p x (suc y) h c = rearranged w p x (suc y) (w - p) (suc y - x) (let k : p ≤ w = c (omega arith) in omega arith) (omega arith)
place w p x zero false a b c =
    let k : w ≤ p = a refl in
    let e : p ≡ w + (p - w) = omega arith in
    let f : p * x ≡ w * x + (p - w) * x = ap (λ n. n * x) e ∙ add-mul w (p - w) x in
    omega (arith, f)
place w p x (suc y) false a b c =
    let k : w ≤ p = a refl in
    let l : p ≤ w = c (omega arith) in
    let e : w ≡ p = omega arith in
    subst (λ n. n * x + p * suc y ≤ n * suc y + p * x) (sym e) (omega arith)

-- a place against a level: one that isn't left out is at most at the level, one that is left out is full, and one with units is at least at the level
pub record IsBest {W : Type 0} (gain loss own other : W → ℕ) (out : W → Bool) (up down : ℕ) (w : W) : Type 0 where
  pub kept : out w ≡ false → gain w + up ≤ loss w + down
  pub full : out w ≡ true → other w ≤ own w
  pub used : 0 < own w → loss w + down ≤ gain w + up

spread : {W : Type 0} (f x : W → ℕ) (v : ℕ) (ws : List W) → sum_by (λ w. (f w + v) * x w) ws ≡ sum_by (λ w. f w * x w) ws + v * sum_by x ws
spread f x v ws =
    sum_same (λ w. (f w + v) * x w) (λ w. f w * x w + v * x w) ws (λ w. add-mul (f w) v (x w))
    ∙ sum_of_sums (λ w. f w * x w) (λ w. v * x w) ws
    ∙ ap (λ n. sum_by (λ w. f w * x w) ws + n) (sum_scaled v x ws)

-- one row: the other assignment has no more gains less losses than the own one, where both have as many units
pub row : {W : Type 0} (gain loss own other : W → ℕ) (out : W → Bool) (up down : ℕ) (ws : List W) → AllByRecursion (IsBest gain loss own other out up down) ws
    → sum_by own ws ≡ sum_by other ws
    → sum_by (λ w. gain w * other w) ws + sum_by (λ w. loss w * own w) ws ≤ sum_by (λ w. gain w * own w) ws + sum_by (λ w. loss w * other w) ws
row gain loss own other out up down ws b total =
    let m : sum_by (λ w. (gain w + up) * other w + (loss w + down) * own w) ws ≤ sum_by (λ w. (gain w + up) * own w + (loss w + down) * other w) ws =
    sum_le_all (IsBest gain loss own other out up down) (λ w. (gain w + up) * other w + (loss w + down) * own w) (λ w. (gain w + up) * own w + (loss w + down) * other w) ws
    (λ w f. place (gain w + up) (loss w + down) (other w) (own w) (out w) f.kept f.full f.used) b in
    let l : sum_by (λ w. (gain w + up) * other w + (loss w + down) * own w) ws ≡ sum_by (λ w. (gain w + up) * other w) ws + sum_by (λ w. (loss w + down) * own w) ws =
    sum_of_sums (λ w. (gain w + up) * other w) (λ w. (loss w + down) * own w) ws in
    let r : sum_by (λ w. (gain w + up) * own w + (loss w + down) * other w) ws ≡ sum_by (λ w. (gain w + up) * own w) ws + sum_by (λ w. (loss w + down) * other w) ws =
    sum_of_sums (λ w. (gain w + up) * own w) (λ w. (loss w + down) * other w) ws in
    let s : up * sum_by own ws ≡ up * sum_by other ws = ap (λ n. up * n) total in
    let t : down * sum_by own ws ≡ down * sum_by other ws = ap (λ n. down * n) total in
    omega (arith, m, l, r, s, t, spread gain own up ws, spread gain other up ws, spread loss own down ws, spread loss other down ws)

-- the greatest of what is kept below n: nothing kept is more, and it is 0 or kept
record Greatest (out : ℕ → Bool) (f : ℕ → ℕ) (n : ℕ) : Type 0 where
  most : ℕ
  bound : (k : ℕ) → k < n → out k ≡ false → f k ≤ most
  reached : (most ≡ 0) ⊎ ((k : ℕ) × (k < n) × (out k ≡ false) × (f k ≡ most))

-- one more place
greatest_more : (out : ℕ → Bool) (f : ℕ → ℕ) (n : ℕ) → Greatest out f n → Greatest out f (suc n)
greatest_more out f n g = elim (cases_Bool (out n)) [
  | inl left ↦ record { most = g.most; bound = λ k l e. keep_left k l e left (cases_lt k n); reached = kept_more g.reached }
  | inr kept ↦ elim (cases_lt g.most (f n)) [
    | inl more ↦ record {
      most = f n;
      bound = λ k l e. keep_more k l e more (cases_lt k n);
      reached = inr (n, omega arith, kept, refl);
    }
    | inr less ↦ record { most = g.most; bound = λ k l e. keep_less k l e less (cases_lt k n); reached = kept_more g.reached }
  ]
]
  where
    keep_left : (k : ℕ) → k < suc n → out k ≡ false → out n ≡ true → (k < n) ⊎ (n ≤ k) → f k ≤ g.most
    keep_left k l e t (inl h) = g.bound k h e
    keep_left k l e t (inr h) = let same : k ≡ n = omega arith in absurd (both_ways (out n) (sym (ap out same) ∙ e) t)

    keep_more : (k : ℕ) → k < suc n → out k ≡ false → g.most < f n → (k < n) ⊎ (n ≤ k) → f k ≤ f n
    keep_more k l e m (inl h) = let b : f k ≤ g.most = g.bound k h e in omega arith
    keep_more k l e m (inr h) = let same : k ≡ n = omega arith in let b : f k ≡ f n = ap f same in omega arith

    keep_less : (k : ℕ) → k < suc n → out k ≡ false → f n ≤ g.most → (k < n) ⊎ (n ≤ k) → f k ≤ g.most
    keep_less k l e m (inl h) = g.bound k h e
    keep_less k l e m (inr h) = let same : k ≡ n = omega arith in let b : f k ≡ f n = ap f same in omega arith

    kept_more : (g.most ≡ 0) ⊎ ((k : ℕ) × (k < n) × (out k ≡ false) × (f k ≡ g.most)) → (g.most ≡ 0) ⊎ ((k : ℕ) × (k < suc n) × (out k ≡ false) × (f k ≡ g.most))
    kept_more (inl z) = inl z
    kept_more (inr (k, l, e, h)) = inr (k, omega arith, e, h)

greatest : (out : ℕ → Bool) (f : ℕ → ℕ) (n : ℕ) → Greatest out f n
greatest out f zero = record { most = 0; bound = λ k l e. absurd (omega arith); reached = inl refl }
greatest out f (suc n) = greatest_more out f n (greatest out f n)

-- a level that no kept place passes and each used place reaches
pub record Level (gain loss own : ℕ → ℕ) (out : ℕ → Bool) (up n : ℕ) : Type 0 where
  pub down : ℕ
  pub kept : (k : ℕ) → k < n → out k ≡ false → gain k + up ≤ loss k + down
  pub used : (k : ℕ) → k < n → 0 < own k → loss k + down ≤ gain k + up

-- there is one where each used place gains at least as much as each kept one, and some kept place gains at least -up
pub level : (gain loss own : ℕ → ℕ) (out : ℕ → Bool) (up n last : ℕ) → last < n → out last ≡ false → loss last ≤ gain last + up
    → ((k j : ℕ) → k < n → j < n → 0 < own k → out j ≡ false → gain j + loss k ≤ gain k + loss j) → Level gain loss own out up n
level gain loss own out up n last inside kept low best =
    let g = greatest out (λ k. gain k + up - loss k) n in
    record {
      down = g.most;
      kept = λ k l e. (let b : gain k + up - loss k ≤ g.most = g.bound k l e in omega arith);
      used = λ k l u. used_at g.most k l u g.reached;
    }
  where
    used_at : (v k : ℕ) → k < n → 0 < own k → (v ≡ 0) ⊎ ((j : ℕ) × (j < n) × (out j ≡ false) × (gain j + up - loss j ≡ v)) → loss k + v ≤ gain k + up
    used_at v k l u (inl z) = let b : gain last + loss k ≤ gain k + loss last = best k last l inside u kept in omega arith
    used_at v k l u (inr (j, m, e, h)) =
        let a : gain last + loss k ≤ gain k + loss last = best k last l inside u kept in
        let b : gain j + loss k ≤ gain k + loss j = best k j l m u e in
        omega arith
