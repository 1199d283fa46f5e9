-- What one agent eats along its list.
use Rattle.std.proofs.Common.{◌≡◌, ℕ, suc, zero, ◌+◌, ◌-◌, ◌*◌, ◌<◌, ◌≤◌, List, [], ◌∷◌, Bool, true, false, cond, refl, ap, sym, ◌∙◌, arith, subst, inl, inr, mul-le-mul_left}
use Rattle.std.specs.Prelude.{min, max, ◌⊎◌, nat_le, length, slice_index}
use Rattle.std.specs.Int.{◌∣◌}
use Rattle.std.specs.List.{AllByRecursion}
use Rattle.std.proofs.Math.Nat.{mul-add, add-mul, mul_left_comm, sub-add_cancel, dvd-sub, dvd-mul_left_of_dvd, dvd-zero, dvd-add, mul-lt-mul_of_pos_left}
use Rattle.std.proofs.lemmas.Bool.{cases_lt, le-leb, lt-leb}
use Rattle.definitions.specs.Eating.{eaten_along, reached}

-- the part of an amount of n that counts, where the demand is d
abbrev pub counted : Bool → ℕ → ℕ → ℕ
counted b d n = cond b (d * n) 0

counted_none : (b : Bool) (d n : ℕ) → n ≡ 0 → counted b d n ≡ 0
counted_none true d n e = omega (arith, ap (λ k. d * k) e)
counted_none false d n e = refl

counted_le : (b : Bool) (d m n : ℕ) → m ≤ n → counted b d m ≤ counted b d n
counted_le true d m n h = mul-le-mul_left d h
counted_le false d m n h = omega arith

times_more : (d m n s : ℕ) → m ≡ n + s → d * m ≡ d * n + d * s
times_more d m n s e = ap (λ k. d * k) e ∙ mul-add d n s

-- by moment t of a place that is passed before t nothing is eaten from it on
pub along_past : (d : ℕ) (full : ℕ → ℕ) (of : ℕ → Bool) (from t : ℕ) (list : List ℕ) → t ≤ from → eaten_along d full of from t list ≡ 0
unfolding eaten_along
along_past d full of from t [] h = refl
along_past d full of from t (a ∷ list) h =
    omega (arith, counted_none (of a) d (min t (max from (full a)) - min t from) (omega arith), along_past d full of (max from (full a)) t list (omega arith))

-- columns that count alike
pub along_same : (d : ℕ) (full : ℕ → ℕ) (of of' : ℕ → Bool) (from t : ℕ) (list : List ℕ) → AllByRecursion (λ a. of a ≡ of' a) list
    → eaten_along d full of from t list ≡ eaten_along d full of' from t list
unfolding eaten_along
along_same d full of of' from t [] h = refl
along_same d full of of' from t (a ∷ list) h =
    omega (arith, ap (λ b. counted b d (min t (max from (full a)) - min t from)) h.0, along_same d full of of' (max from (full a)) t list h.1)

-- where no column counts
pub along_none : (d : ℕ) (full : ℕ → ℕ) (of : ℕ → Bool) (from t : ℕ) (list : List ℕ) → AllByRecursion (λ a. of a ≡ false) list
    → eaten_along d full of from t list ≡ 0
unfolding eaten_along
along_none d full of from t [] h = refl
along_none d full of from t (a ∷ list) h =
    omega (arith, ap (λ b. counted b d (min t (max from (full a)) - min t from)) h.0, along_none d full of (max from (full a)) t list h.1)

cut_least : (n t x x' : ℕ) → t ≤ n → min n x ≡ min n x' → min t x ≡ min t x'
cut_least n t x x' h e = (let f : min t x ≡ min t (min n x) = omega arith in f) ∙ ap (λ k. min t k) e ∙ (let f : min t (min n x') ≡ min t x' = omega arith in f)

cut_greatest : (n x x' f f' : ℕ) → min n x ≡ min n x' → min n f ≡ min n f' → min n (max x f) ≡ min n (max x' f')
cut_greatest n x x' f f' p q = omega arith

cut_amount : (n t x x' f f' : ℕ) → t ≤ n → min n x ≡ min n x' → min n f ≡ min n f' → min t (max x f) - min t x ≡ min t (max x' f') - min t x'
cut_amount n t x x' f f' h p q =
    ap (λ k. k - min t x) (cut_least n t (max x f) (max x' f') h (cut_greatest n x x' f f' p q)) ∙ ap (λ k. min t (max x' f') - k) (cut_least n t x x' h p)

-- by a moment up to n only the moments up to n matter
pub along_cut : (d n : ℕ) (full full' : ℕ → ℕ) (of : ℕ → Bool) (from from' t : ℕ) (list : List ℕ) → ((a : ℕ) → min n (full a) ≡ min n (full' a)) → min n from ≡ min n from' → t ≤ n
    → eaten_along d full of from t list ≡ eaten_along d full' of from' t list
unfolding eaten_along
along_cut d n full full' of from from' t [] e f h = refl
along_cut d n full full' of from from' t (a ∷ list) e f h =
    omega (
      arith,
      ap (λ k. counted (of a) d k) (cut_amount n t from from' (full a) (full' a) h f (e a)),
      along_cut d n full full' of (max from (full a)) (max from' (full' a)) t list e (cut_greatest n from from' (full a) (full' a) f (e a)) h,
    )

parts_of : (c r x : ℕ) → r ≤ c → (c - r) * x + r * x ≡ c * x
parts_of c r x h = sym (add-mul (c - r) r x) ∙ ap (λ n. n * x) (sub-add_cancel h)

-- between two whole moments of a table, a finer moment cuts in proportion
pub min_scale : (c s r b : ℕ) → r ≤ c → min (c * s + r) (c * b) ≡ (c - r) * min s b + r * min (s + 1) b
min_scale c s r b h = elim (cases_lt s b) [
  | inl less ↦
      let low : min s b ≡ s = omega arith in
      let high : min (s + 1) b ≡ s + 1 = omega arith in
      let wide : c * (s + 1) ≤ c * b = mul-le-mul_left c (let k : s + 1 ≤ b = omega arith in k) in
      let c_more : c * (s + 1) ≡ c * s + c * 1 = mul-add c s 1 in
      let r_more : r * (s + 1) ≡ r * s + r * 1 = mul-add r s 1 in
      omega (arith, ap (λ n. (c - r) * n) low, ap (λ n. r * n) high, wide, c_more, r_more, parts_of c r s h)
  | inr more ↦
      let low : min s b ≡ b = omega arith in
      let high : min (s + 1) b ≡ b = omega arith in
      let wide : c * b ≤ c * s = mul-le-mul_left c more in
      omega (arith, ap (λ n. (c - r) * n) low, ap (λ n. r * n) high, wide, parts_of c r b h)
]

max_scale : (c x y : ℕ) → max (c * x) (c * y) ≡ c * max x y
max_scale c x y = elim (cases_lt x y) [
  | inl less ↦
      let one : max x y ≡ y = omega arith in
      let le : x ≤ y = omega arith in
      omega (arith, ap (λ n. c * n) one, mul-le-mul_left c le)
  | inr more ↦
      let one : max x y ≡ x = omega arith in
      omega (arith, ap (λ n. c * n) one, mul-le-mul_left c more)
]

scaled_amount : (c s r x f : ℕ) → r ≤ c
    → min (c * s + r) (max (c * x) (c * f)) - min (c * s + r) (c * x) ≡ (c - r) * (min s (max x f) - min s x) + r * (min (s + 1) (max x f) - min (s + 1) x)
scaled_amount c s r x f h =
    let m = max x f in
    let later : min (c * s + r) (max (c * x) (c * f)) ≡ (c - r) * min s m + r * min (s + 1) m = ap (λ k. min (c * s + r) k) (max_scale c x f) ∙ min_scale c s r m h in
    let earlier : min (c * s + r) (c * x) ≡ (c - r) * min s x + r * min (s + 1) x = min_scale c s r x h in
    let one : (c - r) * min s m ≡ (c - r) * min s x + (c - r) * (min s m - min s x) = times_more (c - r) (min s m) (min s x) (min s m - min s x) (omega arith) in
    let two : r * min (s + 1) m ≡ r * min (s + 1) x + r * (min (s + 1) m - min (s + 1) x) = times_more r (min (s + 1) m) (min (s + 1) x) (min (s + 1) m - min (s + 1) x) (omega arith) in
    joined _ _ _ _ _ _ _ _ later earlier one two
  where
    joined : (l e a b x y p q : ℕ) → l ≡ a + b → e ≡ x + y → a ≡ x + p → b ≡ y + q → l - e ≡ p + q
    joined l e a b x y p q h i j k = omega arith

counted_scale : (b : Bool) (d k r x y n : ℕ) → n ≡ k * x + r * y → counted b d n ≡ k * counted b d x + r * counted b d y
counted_scale true d k r x y n e = ap (λ m. d * m) e ∙ mul-add d (k * x) (r * y) ∙ ap (λ m. m + d * (r * y)) (mul_left_comm d k x) ∙ ap (λ m. k * (d * x) + m) (mul_left_comm d r y)
counted_scale false d k r x y n e = omega arith

-- what is eaten by a finer moment is in proportion between what is eaten by the two whole moments beside it
pub along_scale : (d c s r : ℕ) (full full' : ℕ → ℕ) (of : ℕ → Bool) (from : ℕ) (list : List ℕ) → r ≤ c → ((a : ℕ) → full' a ≡ c * full a)
    → eaten_along d full' of (c * from) (c * s + r) list ≡ (c - r) * eaten_along d full of from s list + r * eaten_along d full of from (s + 1) list
unfolding eaten_along
along_scale d c s r full full' of from [] h e = omega arith
along_scale d c s r full full' of from (a ∷ list) h e =
    let t = c * s + r in
    let m = max from (full a) in
    let x = min s m - min s from in
    let y = min (s + 1) m - min (s + 1) from in
    let head : min t (max (c * from) (full' a)) - min t (c * from) ≡ (c - r) * x + r * y = ap (λ k. min t (max (c * from) k) - min t (c * from)) (e a) ∙ scaled_amount c s r from (full a) h in
    let first = counted_scale (of a) d (c - r) r x y (min t (max (c * from) (full' a)) - min t (c * from)) head in
    let next : max (c * from) (full' a) ≡ c * m = ap (λ k. max (c * from) k) (e a) ∙ max_scale c from (full a) in
    let rest = ap (λ k. eaten_along d full' of k t list) next ∙ along_scale d c s r full full' of m list h e in
    let low = mul-add (c - r) (counted (of a) d x) (eaten_along d full of m s list) in
    let high = mul-add r (counted (of a) d y) (eaten_along d full of m (s + 1) list) in
    omega (arith, first, rest, low, high)

-- more is eaten by a later moment
pub along_le : (d : ℕ) (full : ℕ → ℕ) (of : ℕ → Bool) (from t t' : ℕ) (list : List ℕ) → t ≤ t' → eaten_along d full of from t list ≤ eaten_along d full of from t' list
unfolding eaten_along
along_le d full of from t t' [] h = omega arith
along_le d full of from t t' (a ∷ list) h =
    omega (arith, counted_le (of a) d (min t (max from (full a)) - min t from) (min t' (max from (full a)) - min t' from) (more from (full a)), along_le d full of (max from (full a)) t t' list h)
  where
    more : (x f : ℕ) → min t (max x f) - min t x ≤ min t' (max x f) - min t' x
    more x f = omega arith

-- from the moment on at which all that counts is full, no more is eaten
pub along_stays : (d : ℕ) (full : ℕ → ℕ) (of : ℕ → Bool) (from x t : ℕ) (list : List ℕ) → x ≤ t → ((a : ℕ) → of a ≡ true → full a ≤ x)
    → eaten_along d full of from t list ≡ eaten_along d full of from x list
unfolding eaten_along
along_stays d full of from x t [] h k = refl
along_stays d full of from x t (a ∷ list) h k =
    omega (arith, amount (of a) from (full a) (k a), along_stays d full of (max from (full a)) x t list h k)
  where
    amount : (b : Bool) (y f : ℕ) → (b ≡ true → f ≤ x) → counted b d (min t (max y f) - min t y) ≡ counted b d (min x (max y f) - min x y)
    amount false y f k = refl
    amount true y f k = let l : f ≤ x = k refl in ap (λ n. d * n) (same y f l)
      where
        same : (y f : ℕ) → f ≤ x → min t (max y f) - min t y ≡ min x (max y f) - min x y
        same y f l = omega arith

-- the speed at which one eats, just after moment u, of the columns that pass the test `of`
unfoldable pub rate : ℕ → (ℕ → ℕ) → (ℕ → Bool) → ℕ → List ℕ → ℕ
rate d full of u [] = 0
rate d full of u (a ∷ list) = cond (nat_le (full a) u) (rate d full of u list) (cond (of a) d 0)

pub rate_le : (d : ℕ) (full : ℕ → ℕ) (of : ℕ → Bool) (u : ℕ) (list : List ℕ) → rate d full of u list ≤ d
unfolding rate
rate_le d full of u [] = omega arith
rate_le d full of u (a ∷ list) = pick (nat_le (full a) u) (of a) (rate_le d full of u list)
  where
    pick : (b p : Bool) {n : ℕ} → n ≤ d → cond b n (cond p d 0) ≤ d
    pick true p h = h
    pick false true h = omega arith
    pick false false h = omega arith

-- one eats at the first place that isn't full
pub rate_at : (d : ℕ) (full : ℕ → ℕ) (of : ℕ → Bool) (u k : ℕ) (list : List ℕ) → k < length list → ((i : ℕ) → i < k → full (slice_index list i) ≤ u)
    → u < full (slice_index list k) → rate d full of u list ≡ cond (of (slice_index list k)) d 0
unfolding rate
rate_at d full of u k [] l before here = absurd (omega arith)
rate_at d full of u zero (a ∷ list) l before here = ap (λ b. cond b (rate d full of u list) (cond (of a) d 0)) (lt-leb (full a) u here)
rate_at d full of u (suc k) (a ∷ list) l before here =
    ap (λ b. cond b (rate d full of u list) (cond (of a) d 0)) (le-leb (full a) u (before 0 (omega arith)))
    ∙ rate_at d full of u k list (omega arith) (λ i m. before (suc i) (omega arith)) here

-- the speed doesn't change where all moments are times a factor
pub rate_scale : (d c u : ℕ) (full full' : ℕ → ℕ) (of : ℕ → Bool) (list : List ℕ) → 0 < c → ((a : ℕ) → full' a ≡ c * full a) → rate d full' of (c * u) list ≡ rate d full of u list
unfolding rate
rate_scale d c u full full' of [] p e = refl
rate_scale d c u full full' of (a ∷ list) p e =
    ap (λ b. cond b (rate d full' of (c * u) list) (cond (of a) d 0)) (ap (λ n. nat_le n (c * u)) (e a) ∙ same_test (full a))
    ∙ ap (λ n. cond (nat_le (full a) u) n (cond (of a) d 0)) (rate_scale d c u full full' of list p e)
  where
    same_test : (f : ℕ) → nat_le (c * f) (c * u) ≡ nat_le f u
    same_test f = elim (cases_lt u f) [
      | inl less ↦ lt-leb (c * f) (c * u) (mul-lt-mul_of_pos_left less p) ∙ sym (lt-leb f u less)
      | inr more ↦ le-leb (c * f) (c * u) (mul-le-mul_left c more) ∙ sym (le-leb f u more)
    ]

counted_more : (b : Bool) (d n s : ℕ) → counted b d (n + s) ≡ counted b d n + cond b d 0 * s
counted_more true d n s = mul-add d n s
counted_more false d n s = omega arith

-- where nothing fills between two moments, one eats at its speed
pub along_rate : (d : ℕ) (full : ℕ → ℕ) (of : ℕ → Bool) (from u s : ℕ) (list : List ℕ) → ((a : ℕ) → (full a ≤ u) ⊎ (u + s ≤ full a)) → from ≤ u
    → eaten_along d full of from (u + s) list ≡ eaten_along d full of from u list + rate d full of u list * s
unfolding eaten_along rate
along_rate d full of from u s [] e h = omega arith
along_rate d full of from u s (a ∷ list) e h = elim (cases_lt u (full a)) [
  | inl later ↦
      let m = max from (full a) in
      let wide : u + s ≤ full a = beyond (e a) later in
      let amount : min (u + s) m - min (u + s) from ≡ (min u m - min u from) + s = apart from (full a) h wide in
      let head = ap (λ k. counted (of a) d k) amount ∙ counted_more (of a) d (min u m - min u from) s in
      let none = along_past d full of m (u + s) list (omega arith) in
      let none' = along_past d full of m u list (omega arith) in
      let speed : cond (nat_le (full a) u) (rate d full of u list) (cond (of a) d 0) ≡ cond (of a) d 0 = ap (λ b. cond b (rate d full of u list) (cond (of a) d 0)) (lt-leb (full a) u later) in
      omega (arith, head, none, none', ap (λ n. n * s) speed)
  | inr full_now ↦
      let m = max from (full a) in
      let amount : min (u + s) m - min (u + s) from ≡ min u m - min u from = near from (full a) h full_now in
      let head = ap (λ k. counted (of a) d k) amount in
      let rest = along_rate d full of m u s list e (omega arith) in
      let speed : cond (nat_le (full a) u) (rate d full of u list) (cond (of a) d 0) ≡ rate d full of u list = ap (λ b. cond b (rate d full of u list) (cond (of a) d 0)) (le-leb (full a) u full_now) in
      omega (arith, head, rest, ap (λ n. n * s) speed)
]
  where
    beyond : {f : ℕ} → (f ≤ u) ⊎ (u + s ≤ f) → u < f → u + s ≤ f
    beyond (inl p) q = absurd (omega arith)
    beyond (inr p) q = p

    apart : (x f : ℕ) → x ≤ u → u + s ≤ f → min (u + s) (max x f) - min (u + s) x ≡ (min u (max x f) - min u x) + s
    apart x f p q = omega arith

    near : (x f : ℕ) → x ≤ u → f ≤ u → min (u + s) (max x f) - min (u + s) x ≡ min u (max x f) - min u x
    near x f p q = omega arith

counted_divides : (f : ℕ) (b : Bool) (d n : ℕ) → f ∣ n → f ∣ counted b d n
counted_divides f true d n h = dvd-mul_left_of_dvd f h d
counted_divides f false d n h = dvd-zero f

-- what divides all moments up to u divides what is eaten by u
pub along_multiple : (f d : ℕ) (full : ℕ → ℕ) (of : ℕ → Bool) (from u : ℕ) (list : List ℕ) → ((a : ℕ) → f ∣ min u (full a)) → f ∣ min u from → f ∣ eaten_along d full of from u list
unfolding eaten_along
along_multiple f d full of from u [] e h = dvd-zero f
along_multiple f d full of from u (a ∷ list) e h =
    let next : f ∣ min u (max from (full a)) = either from (full a) h (e a) in
    dvd-add f (counted_divides f (of a) d (min u (max from (full a)) - min u from) (dvd-sub f next h)) (along_multiple f d full of (max from (full a)) u list e next)
  where
    either : (x y : ℕ) → f ∣ min u x → f ∣ min u y → f ∣ min u (max x y)
    either x y p q = elim (cases_lt x y) [
      | inl less ↦ (let same : min u y ≡ min u (max x y) = omega arith in subst (λ n. f ∣ n) same q)
      | inr more ↦ (let same : min u x ≡ min u (max x y) = omega arith in subst (λ n. f ∣ n) same p)
    ]

-- where all that counts is full by the moment m, no more is eaten than until m
pub along_within : (d : ℕ) (full : ℕ → ℕ) (of : ℕ → Bool) (m from t : ℕ) (list : List ℕ) → ((a : ℕ) → of a ≡ true → full a ≤ m)
    → eaten_along d full of from t list ≤ d * (max from m - from)
unfolding eaten_along
along_within d full of m from t [] k = omega arith
along_within d full of m from t (a ∷ list) k =
    let b = max from (full a) in
    let rest = along_within d full of m b t list k in
    head (of a) from (full a) (eaten_along d full of b t list) (k a) rest
  where
    head : (p : Bool) (x f n : ℕ) → (p ≡ true → f ≤ m) → n ≤ d * (max (max x f) m - max x f) → counted p d (min t (max x f) - min t x) + n ≤ d * (max x m - x)
    head true x f n l h =
        let y = min t (max x f) - min t x in
        let z = max (max x f) m - max x f in
        let both : y + z ≤ max x m - x = room x f (l refl) in
        omega (arith, h, mul-add d y z, mul-le-mul_left d both)
      where
        room : (x f : ℕ) → f ≤ m → (min t (max x f) - min t x) + (max (max x f) m - max x f) ≤ max x m - x
        room x f l =
            let one : min t (max x f) - min t x ≤ max x f - x = omega arith in
            let two : (max x f - x) + (max (max x f) m - max x f) ≤ max x m - x = omega arith in
            omega arith
    head false x f n l h =
        let less : max (max x f) m - max x f ≤ max x m - x = omega arith in
        omega (arith, h, mul-le-mul_left d less)

pub reached_from : (full : ℕ → ℕ) (from : ℕ) (list : List ℕ) → from ≤ reached full from list
unfolding reached
reached_from full from [] = omega arith
reached_from full from (a ∷ list) = omega (arith, reached_from full (max from (full a)) list)

-- one eats until the last moment reached
pub along_all : (d : ℕ) (full : ℕ → ℕ) (from t : ℕ) (list : List ℕ) → eaten_along d full (λ a. true) from t list ≡ d * (min t (reached full from list) - min t from)
unfolding eaten_along reached
along_all d full from t [] = let none : min t from - min t from ≡ 0 = omega arith in sym (counted_none true d (min t from - min t from) none)
along_all d full from t (a ∷ list) =
    let b = max from (full a) in
    let last = reached full b list in
    let up : b ≤ last = reached_from full b list in
    let split : min t last - min t from ≡ (min t last - min t b) + (min t b - min t from) = parts from b last (omega arith) up in
    omega (arith, along_all d full b t list, times_more d (min t last - min t from) (min t last - min t b) (min t b - min t from) split)
  where
    parts : (x y z : ℕ) → x ≤ y → y ≤ z → min t z - min t x ≡ (min t z - min t y) + (min t y - min t x)
    parts x y z p q = omega arith
