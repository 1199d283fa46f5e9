-- The moment from which a cell is full: the least over the limits that hold the cell, or the end.
use Rattle.std.proofs.Common.{subst, ◌≡◌, ℕ, suc, zero, ◌*◌, ◌<◌, ◌≤◌, List, [], ◌∷◌, Bool, true, false, cond, refl, ap, ◌∙◌, arith, length, map, inl, inr, mul-le-mul_left}
use Rattle.std.specs.Prelude.{min, ◌⊎◌, slice_get}
use Rattle.std.specs.Int.{◌∣◌}
use Rattle.std.specs.List.{AllByRecursion}
use Rattle.std.specs.Option.{option_map_or}
use Rattle.std.proofs.lemmas.Bool.{cases_lt}
use Rattle.definitions.specs.declared.Cell.{Cell}
use Rattle.definitions.specs.Sets.{cell_of, holds}
use Rattle.definitions.specs.Values.{Limit}
use Rattle.definitions.specs.Eating.{full_at, moment_at}

-- the cells of the limit at index j
abbrev pub cells_at : List Limit → ℕ → List Cell
cells_at limits j = option_map_or (λ s. s.cells) (slice_get limits j) []

-- a property of D and of every number is one of the moment
pub full_each : (P : ℕ → Type 0) (D : ℕ) (limits : List Limit) (e : List ℕ) (i a : ℕ) → P D → ((j : ℕ) → j < length e → P (moment_at e j)) → P (full_at D limits e i a)
unfolding full_at
full_each P D [] e i a d h = d
full_each P D (s ∷ limits) [] i a d h = d
full_each P D (s ∷ limits) (x ∷ e) i a d h =
    pick (holds s.cells (cell_of i a)) x (full_at D limits e i a) (h 0 (omega arith)) (full_each P D limits e i a d (λ j l. h (suc j) (omega arith)))
  where
    pick : (b : Bool) (x y : ℕ) → P x → P y → P (cond b (min x y) y)
    pick true x y p q = elim (cases_lt x y) [
      | inl less ↦ (let same : x ≡ min x y = omega arith in subst P same p)
      | inr more ↦ (let same : y ≡ min x y = omega arith in subst P same q)
    ]
    pick false x y p q = q

-- no later than the end
pub full_le : (D : ℕ) (limits : List Limit) (e : List ℕ) (i a : ℕ) → full_at D limits e i a ≤ D
unfolding full_at
full_le D [] e i a = omega arith
full_le D (s ∷ limits) [] i a = omega arith
full_le D (s ∷ limits) (x ∷ e) i a = least (holds s.cells (cell_of i a)) x (full_at D limits e i a) (full_le D limits e i a)
  where
    least : (b : Bool) (x y : ℕ) → y ≤ D → cond b (min x y) y ≤ D
    least true x y h = omega arith
    least false x y h = h

-- where each number is at most u or at least w
pub full_said : (D u w : ℕ) (limits : List Limit) (e : List ℕ) (i a : ℕ) → w ≤ D → ((j : ℕ) → j < length e → (moment_at e j ≤ u) ⊎ (w ≤ moment_at e j))
    → (full_at D limits e i a ≤ u) ⊎ (w ≤ full_at D limits e i a)
full_said D u w limits e i a h k = full_each (λ f. (f ≤ u) ⊎ (w ≤ f)) D limits e i a (inr h) k

-- where each number is a multiple of f up to u
pub full_multiple : (D f u : ℕ) (limits : List Limit) (e : List ℕ) (i a : ℕ) → f ∣ min u D → ((j : ℕ) → j < length e → f ∣ min u (moment_at e j)) → f ∣ min u (full_at D limits e i a)
full_multiple D f u limits e i a h k = full_each (λ n. f ∣ min u n) D limits e i a h k

-- no later than a limit that holds the cell
pub full_below : (D : ℕ) (limits : List Limit) (e : List ℕ) (i a j : ℕ) → j < length e → holds (cells_at limits j) (cell_of i a) ≡ true → full_at D limits e i a ≤ moment_at e j
unfolding full_at
full_below D [] e i a j l h = absurd (none h)
  where
    none : false ≡ true → ⊥
    none h = cc
full_below D (s ∷ limits) [] i a j l h = absurd (omega arith)
full_below D (s ∷ limits) (x ∷ e) i a zero l h = here (holds s.cells (cell_of i a)) x (full_at D limits e i a) h
  where
    here : (b : Bool) (x y : ℕ) → b ≡ true → cond b (min x y) y ≤ x
    here true x y h = omega arith
    here false x y h = absurd (cc)
full_below D (s ∷ limits) (x ∷ e) i a (suc j) l h = there (holds s.cells (cell_of i a)) x (full_at D limits e i a) (moment_at e j) (full_below D limits e i a j (omega arith) h)
  where
    there : (b : Bool) (x y z : ℕ) → y ≤ z → cond b (min x y) y ≤ z
    there true x y z h = omega arith
    there false x y z h = h

-- what is no later than the end and each limit that holds the cell
pub full_from : (D : ℕ) (limits : List Limit) (e : List ℕ) (i a n : ℕ) → n ≤ D → ((j : ℕ) → j < length e → holds (cells_at limits j) (cell_of i a) ≡ true → n ≤ moment_at e j) → n ≤ full_at D limits e i a
unfolding full_at
full_from D [] e i a n d h = d
full_from D (s ∷ limits) [] i a n d h = d
full_from D (s ∷ limits) (x ∷ e) i a n d h =
    least (holds s.cells (cell_of i a)) x (full_at D limits e i a) (λ t. h 0 (omega arith) t) (full_from D limits e i a n d (λ j l t. h (suc j) (omega arith) t))
  where
    least : (b : Bool) (x y : ℕ) → (b ≡ true → n ≤ x) → n ≤ y → n ≤ cond b (min x y) y
    least true x y p q = (let r : n ≤ x = p refl in omega arith)
    least false x y p q = q

-- up to a moment, by tables that agree up to it
pub full_cut : (D n : ℕ) (limits : List Limit) (e e' : List ℕ) (i a : ℕ) → length e ≡ length e' → ((j : ℕ) → min n (moment_at e j) ≡ min n (moment_at e' j))
    → min n (full_at D limits e i a) ≡ min n (full_at D limits e' i a)
unfolding full_at
full_cut D n [] e e' i a l h = refl
full_cut D n (s ∷ limits) [] [] i a l h = refl
full_cut D n (s ∷ limits) [] (y ∷ e') i a l h = absurd (omega arith)
full_cut D n (s ∷ limits) (x ∷ e) [] i a l h = absurd (omega arith)
full_cut D n (s ∷ limits) (x ∷ e) (y ∷ e') i a l h =
    cut (holds s.cells (cell_of i a)) x y (full_at D limits e i a) (full_at D limits e' i a) (h 0) (full_cut D n limits e e' i a (omega arith) (λ j. h (suc j)))
  where
    least : (x y z w : ℕ) → min n x ≡ min n y → min n z ≡ min n w → min n (min x z) ≡ min n (min y w)
    least x y z w p q =
        (let one : min n (min x z) ≡ min (min n x) (min n z) = omega arith in one) ∙ ap (λ k. min k (min n z)) p ∙ ap (λ k. min (min n y) k) q
        ∙ (let two : min (min n y) (min n w) ≡ min n (min y w) = omega arith in two)

    cut : (b : Bool) (x y z w : ℕ) → min n x ≡ min n y → min n z ≡ min n w → min n (cond b (min x z) z) ≡ min n (cond b (min y w) w)
    cut true x y z w p q = least x y z w p q
    cut false x y z w p q = q

pub min_product : (c x y : ℕ) → min (c * x) (c * y) ≡ c * min x y
min_product c x y = elim (cases_lt x y) [
  | inl less ↦
      let one : min x y ≡ x = omega arith in
      let le : x ≤ y = omega arith in
      omega (arith, ap (λ n. c * n) one, mul-le-mul_left c le)
  | inr more ↦
      let one : min x y ≡ y = omega arith in
      omega (arith, ap (λ n. c * n) one, mul-le-mul_left c more)
]

-- of a table and its end times a factor
pub full_scale : (c D : ℕ) (limits : List Limit) (e : List ℕ) (i a : ℕ) → full_at (c * D) limits (map (λ x. c * x) e) i a ≡ c * full_at D limits e i a
unfolding full_at
full_scale c D [] e i a = refl
full_scale c D (s ∷ limits) [] i a = refl
full_scale c D (s ∷ limits) (x ∷ e) i a = scaled (holds s.cells (cell_of i a)) x (full_at D limits e i a) (full_at (c * D) limits (map (λ y. c * y) e) i a) (full_scale c D limits e i a)
  where
    scaled : (b : Bool) (x y z : ℕ) → z ≡ c * y → cond b (min (c * x) z) z ≡ c * cond b (min x y) y
    scaled true x y z h = ap (λ k. min (c * x) k) h ∙ min_product c x y
    scaled false x y z h = h

-- of two cells that each limit holds both or neither of
pub full_alike : (D : ℕ) (limits : List Limit) (e : List ℕ) (i j a : ℕ) → AllByRecursion (λ s. holds s.cells (cell_of i a) ≡ holds s.cells (cell_of j a)) limits
    → full_at D limits e i a ≡ full_at D limits e j a
unfolding full_at
full_alike D [] e i j a h = refl
full_alike D (s ∷ limits) [] i j a h = refl
full_alike D (s ∷ limits) (x ∷ e) i j a h =
    ap (λ b. cond b (min x (full_at D limits e i a)) (full_at D limits e i a)) h.0
    ∙ ap (λ n. cond (holds s.cells (cell_of j a)) (min x n) n) (full_alike D limits e i j a h.1)

-- a cell that no limit holds is never full
pub full_never : (D : ℕ) (limits : List Limit) (e : List ℕ) (i a : ℕ) → AllByRecursion (λ s. holds s.cells (cell_of i a) ≡ false) limits → full_at D limits e i a ≡ D
unfolding full_at
full_never D [] e i a h = refl
full_never D (s ∷ limits) [] i a h = refl
full_never D (s ∷ limits) (x ∷ e) i a h =
    ap (λ b. cond b (min x (full_at D limits e i a)) (full_at D limits e i a)) h.0 ∙ full_never D limits e i a h.1

-- the numbers of a table times a factor
pub moments_scaled : (c : ℕ) (e : List ℕ) (j : ℕ) → moment_at (map (λ x. c * x) e) j ≡ c * moment_at e j
moments_scaled c [] j = omega arith
moments_scaled c (x ∷ e) zero = refl
moments_scaled c (x ∷ e) (suc j) = moments_scaled c e j
