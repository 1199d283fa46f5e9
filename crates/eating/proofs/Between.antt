-- Between two moments at which limits are full each limit is eaten at its speed.
use Rattle.std.proofs.Common.{◌≡◌, ℕ, suc, zero, ◌+◌, ◌-◌, ◌*◌, ◌<◌, ◌≤◌, List, length, map, ap, sym, ◌∙◌, subst, inl, inr, arith}
use Rattle.std.specs.Prelude.{min, ◌⊎◌}
use Rattle.std.proofs.Math.Nat.{mul-lt-mul_of_pos_left, mul_left_comm, mul-add, eq_of_mul-eq-mul_left}
use Rattle.std.proofs.lemmas.Bool.{cases_lt}
use Rattle.std.proofs.lemmas.List.{get_or_past, length-map}
use Rattle.definitions.specs.Values.{Market}
use Rattle.definitions.specs.Eating.{eaten_by, moment_at, limit_cells, limit_ceiling, IsEatingTable}
use Rattle.eating_laws.proofs.Full.{moments_scaled}
use Rattle.eating_laws.proofs.Sums.{speed_scale, eaten_cut, eaten_rate, eaten_scale}
use Rattle.eating_laws.proofs.Right.{IsRightAt, IsRightBelow, right_eating}
use Rattle.eating_laws.proofs.Fine.{scale_right}
use Rattle.eating.specs.Steps.{IsReady}

-- what goes on more slowly than allowed until n has something left before n
slower : (v a b r : ℕ) → a < b → v * b ≤ r → 0 < r → v * a < r
slower zero a b r h k p = (let none : 0 * a ≡ 0 = omega arith in omega arith)
slower (suc v) a b r h k p = (let f : suc v * a < suc v * b = mul-lt-mul_of_pos_left h (let q : 0 < suc v = omega arith in q) in omega arith)

module _ (market : Market) (U u : ℕ) (e : List ℕ) (r v : ℕ → ℕ) (h : IsReady market U u e r v) where
  before_end : u < U
  before_end = (let k : u + 1 ≤ U = h.right.reach in omega arith)

  -- what is eaten by a later moment before which no limit is full
  pub eaten_on : (t : ℕ) → u ≤ t → t ≤ U → (j : ℕ) → j < length e → eaten_by market U e (limit_cells market j) t ≡ eaten_by market U e (limit_cells market j) u + v j * (t - u)
  eaten_on t low high j l =
      subst (λ n. eaten_by market U e (limit_cells market j) n ≡ eaten_by market U e (limit_cells market j) u + v j * (t - u)) (let sum : u + (t - u) ≡ t = omega arith in sum)
      (eaten_rate market U u (t - u) e (limit_cells market j) (omega arith) (λ i k. said (h.right.said i k))
      ∙ ap (λ n. eaten_by market U e (limit_cells market j) u + n * (t - u)) (sym (h.fast j l)))
    where
      said : {x : ℕ} → (x < u + 1) ⊎ (x ≡ U) → (x ≤ u) ⊎ (u + (t - u) ≤ x)
      said (inl k) = inl (omega arith)
      said (inr k) = inr (omega arith)

  -- an open limit has something left
  pub some_left : (j : ℕ) → j < length e → moment_at e j ≡ U → 0 < r j
  some_left j l o =
      let less = (h.right.right u (omega arith)).later j l (let p = before_end in omega arith) in
      omega (arith, less, h.left j l o)

  open_below : (n t j : ℕ) → u ≤ t → t < n → t ≤ U → j < length e → moment_at e j ≡ U → v j * (n - u) ≤ r j
      → eaten_by market U e (limit_cells market j) t < limit_ceiling market j * U
  open_below n t j low high top l o k =
      let less : v j * (t - u) < r j = slower (v j) (t - u) (n - u) (r j) (omega arith) k (some_left j l o) in
      omega (arith, less, eaten_on t low top j l, h.left j l o)

  -- where no open limit is full before the end, the table is the eating table
  pub end_table : ((j : ℕ) → j < length e → moment_at e j ≡ U → v j * (U - u) ≤ r j) → IsEatingTable market U e
  end_table k = right_eating market U e
      (record {
        positive = h.right.positive;
        reach = omega arith;
        size = h.right.size;
        said = λ j l. said (h.right.said j l);
        right = λ t below. right t below;
      })
      (λ j l o. (let on = eaten_on U (let p = before_end in omega arith) (omega arith) j l in omega (arith, on, k j l o, h.left j l o)))
    where
      said : {x : ℕ} → (x < u + 1) ⊎ (x ≡ U) → (x < U) ⊎ (x ≡ U)
      said (inl k) = inl (let p = before_end in omega arith)
      said (inr k) = inr k

      is_open : (t : ℕ) {x : ℕ} → u < t → t < x → (x < u + 1) ⊎ (x ≡ U) → x ≡ U
      is_open t low high (inl k) = absurd (omega arith)
      is_open t low high (inr k) = k

      none_there : (t : ℕ) {x : ℕ} → u < t → t < U → x ≡ t → (x < u + 1) ⊎ (x ≡ U) → ⊥
      none_there t low high same (inl k) = omega arith
      none_there t low high same (inr k) = omega arith

      right : (t : ℕ) → t < U → IsRightAt market U e t
      right t below = elim (cases_lt u t) [
        | inl less ↦ record {
          later = λ j l m. (let o = is_open t less m (h.right.said j l) in open_below U t j (omega arith) below (omega arith) l o (k j l o));
          now = λ j l m. absurd (none_there t less below m (h.right.said j l));
        }
        | inr more ↦ h.right.right t (omega arith)
      ]

  -- a limit of the table that goes on to the moment n: full before, full at n, or open
  pub data LimitAt (n x y rest speed : ℕ) : Type 0 where
    early : x ≤ u → y ≡ x → LimitAt n x y rest speed
    filled : x ≡ U → speed * (n - u) ≡ rest → y ≡ n → LimitAt n x y rest speed
    still : x ≡ U → speed * (n - u) < rest → y ≡ U → LimitAt n x y rest speed

  module _ (n : ℕ) (e' : List ℕ) (low : u < n) (high : n < U) (many : length e' ≡ length e)
      (limits : (j : ℕ) → j < length e → LimitAt n (moment_at e j) (moment_at e' j) (r j) (v j)) where
    within : {x y rest speed : ℕ} → LimitAt n x y rest speed → min n y ≡ min n x
    within (early p q) = ap (λ z. min n z) q
    within (filled p k q) = omega arith
    within (still p k q) = omega arith

    cut : (j : ℕ) → min n (moment_at e' j) ≡ min n (moment_at e j)
    cut j = elim (cases_lt j (length e)) [
      | inl inside ↦ within (limits j inside)
      | inr past ↦ ap (λ x. min n x) (get_or_past e' j 0 (omega arith) ∙ sym (get_or_past e j 0 past))
    ]

    same_eaten : (t j : ℕ) → t ≤ n → eaten_by market U e' (limit_cells market j) t ≡ eaten_by market U e (limit_cells market j) t
    same_eaten t j k = eaten_cut market U n t e' e (limit_cells market j) many cut k

    limit_later : (t j : ℕ) → t ≤ n → j < length e → LimitAt n (moment_at e j) (moment_at e' j) (r j) (v j) → t < moment_at e' j
        → eaten_by market U e (limit_cells market j) t < limit_ceiling market j * U
    limit_later t j k l (early p q) less = (h.right.right t (omega arith)).later j l (omega arith)
    limit_later t j k l (filled o f q) less = elim (cases_lt u t) [
      | inl after ↦ open_below n t j (omega arith) (omega arith) (omega arith) l o (omega arith)
      | inr before ↦ (h.right.right t (omega arith)).later j l (omega arith)
    ]
    limit_later t j k l (still o f q) less = elim (cases_lt u t) [
      | inl after ↦ elim (cases_lt t n) [
        | inl below ↦ open_below n t j (omega arith) below (omega arith) l o (omega arith)
        | inr at ↦ (let same : t ≡ n = omega arith in subst (λ x. eaten_by market U e (limit_cells market j) x < limit_ceiling market j * U) (sym same)
            (let on = eaten_on n (omega arith) (omega arith) j l in omega (arith, on, f, h.left j l o)))
      ]
      | inr before ↦ (h.right.right t (omega arith)).later j l (omega arith)
    ]

    limit_now : (t j : ℕ) → t ≤ n → j < length e → LimitAt n (moment_at e j) (moment_at e' j) (r j) (v j) → moment_at e' j ≡ t
        → eaten_by market U e (limit_cells market j) t ≡ limit_ceiling market j * U
    limit_now t j k l (early p q) is = (h.right.right t (omega arith)).now j l (sym q ∙ is)
    limit_now t j k l (filled o f q) is =
        subst (λ x. eaten_by market U e (limit_cells market j) x ≡ limit_ceiling market j * U) (sym q ∙ is)
        (let on = eaten_on n (omega arith) (omega arith) j l in omega (arith, on, f, h.left j l o))
    limit_now t j k l (still o f q) is = absurd (omega arith)

    limit_said : {x y rest speed : ℕ} → LimitAt n x y rest speed → (y < n + 1) ⊎ (y ≡ U)
    limit_said (early p q) = inl (omega arith)
    limit_said (filled o f q) = inl (omega arith)
    limit_said (still o f q) = inr q

    -- the table is right up to n
    pub next_right : IsRightBelow market U (n + 1) e'
    next_right = record {
      positive = h.right.positive;
      reach = omega arith;
      size = many ∙ h.right.size;
      said = λ j l. limit_said (limits j (omega arith));
      right = λ t below. record {
        later = λ j l k. (let inside : j < length e = omega arith in
            let f = limit_later t j (omega arith) inside (limits j inside) k in omega (arith, f, same_eaten t j (omega arith)));
        now = λ j l k. (let inside : j < length e = omega arith in
            same_eaten t j (omega arith) ∙ limit_now t j (omega arith) inside (limits j inside) k);
      };
    }

    was_open : {x y rest speed : ℕ} → LimitAt n x y rest speed → y ≡ U → x ≡ U
    was_open (early p q) k = absurd (omega arith)
    was_open (filled o f q) k = o
    was_open (still o f q) k = o

    -- what an open limit has left then
    pub next_left : (j rest : ℕ) → j < length e → moment_at e' j ≡ U → rest + v j * (n - u) ≡ r j
        → rest + eaten_by market U e' (limit_cells market j) n ≡ limit_ceiling market j * U
    next_left j rest l o k =
        let on = eaten_on n (omega arith) (omega arith) j l in
        omega (arith, on, k, h.left j l (was_open (limits j l) o), same_eaten n j (omega arith))

-- a ready table over a larger denominator
pub ready_scale : (market : Market) (c U u : ℕ) (e : List ℕ) (r v : ℕ → ℕ) → 1 ≤ c → IsReady market U u e r v
    → IsReady market (c * U) (c * u) (map (λ x. c * x) e) (λ j. c * r j) v
ready_scale market c U u e r v p h = record {
  right = scale_right market c U u e p h.right;
  left = λ j l o. left j (inside l) (eq_of_mul-eq-mul_left c p (moment_at e j) U (sym (moments_scaled c e j) ∙ o));
  fast = λ j l. h.fast j (inside l) ∙ sym (speed_scale market c U u e (limit_cells market j) p);
}
  where
    inside : {j : ℕ} → j < length (map (λ x. c * x) e) → j < length e
    inside {j} l = omega (arith, l, length-map e (λ x. c * x))

    left : (j : ℕ) → j < length e → moment_at e j ≡ U → c * r j + eaten_by market (c * U) (map (λ x. c * x) e) (limit_cells market j) (c * u) ≡ limit_ceiling market j * (c * U)
    left j l o =
        let scaled = eaten_scale market c U u 0 e (limit_cells market j) (omega arith) in
        let plain : c * u + 0 ≡ c * u = omega arith in
        let all : c - 0 ≡ c = omega arith in
        let at = ap (λ x. eaten_by market (c * U) (map (λ x. c * x) e) (limit_cells market j) x) plain in
        let whole = ap (λ x. x * eaten_by market U e (limit_cells market j) u) all in
        let times = ap (λ x. c * x) (h.left j l o) in
        omega (arith, scaled, at, whole, times, mul-add c (r j) (eaten_by market U e (limit_cells market j) u), mul_left_comm (limit_ceiling market j) c U)
