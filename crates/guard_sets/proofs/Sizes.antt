-- How many sets and cells the guarded family has.
use Rattle.std.proofs.Common.{◌≡◌, ℕ, zero, suc, ◌+◌, ◌*◌, ◌/◌, ◌<◌, ◌≤◌, ◌∙◌, List, [], ◌∷◌, ◌++◌, map, length, refl, sym, ap, arith, inl, inr, ◌⊎◌, length-append}
use Rattle.std.specs.Prelude.{sum_by, flat_map}
use Rattle.std.specs.List.{AllByRecursion, range_with_len}
use Rattle.std.proofs.lemmas.Nat.{div-mul-add, mul-le}
use Rattle.std.proofs.Math.Nat.{div-le_of_le-mul}
use Rattle.std.proofs.lemmas.Bool.{cases_lt}
use Rattle.std.proofs.lemmas.List.{map-append, length-map}
use Rattle.std.proofs.lemmas.List.FromFn.{length-range_with_len}
use Rattle.std.proofs.lemmas.List.Sums.{sum_by-cons, sum_by-append}
use Rattle.definitions.specs.Sets.{SetValue, ScaledValue, cells_in}
use Rattle.definitions.specs.Values.{ProblemValue, IsProblem, list_at}
use Rattle.definitions.specs.Fairness.{guarded_family, prefix_set}
use Rattle.definitions.proofs.Lists.{each_below}
use Rattle.definitions.proofs.Problems.{list_short}
use Rattle.guard_sets.specs.Guard.{fronts_of, triangle, sets_up_to, cells_up_to}
use Rattle.guard_sets.proofs.Fronts.{front_length}

-- ---- 1 + 2 + .. + n

up_to : ℕ → ℕ
up_to zero = 0
up_to (suc n) = up_to n + suc n

twice_up_to : (n : ℕ) → up_to n * 2 ≡ n * (n + 1)
unfolding up_to
twice_up_to zero = refl
twice_up_to (suc n) =
    let e = twice_up_to n in
    let left : (up_to n + suc n) * 2 ≡ up_to n * 2 + (n + 1) * 2 = grind arith in
    let right : suc n * (suc n + 1) ≡ n * (n + 1) + (n + 1) * 2 = grind arith in
    omega (arith, e, left, right)

triangle_is : (n : ℕ) → triangle n ≡ up_to n
triangle_is n =
    let e : n * (n + 1) ≡ up_to n * 2 + 0 = omega (arith, twice_up_to n) in
    ap (λ m. m / 2) e ∙ div-mul-add (up_to n) 2 0 (omega arith)

-- one more
pub triangle_more : (n : ℕ) → triangle (n + 1) ≡ triangle n + (n + 1)
unfolding up_to
triangle_more n =
    let next : n + 1 ≡ suc n = omega arith in
    let e : triangle (n + 1) ≡ up_to n + suc n = ap triangle next ∙ triangle_is (suc n) in
    omega (arith, e, triangle_is n)

pub triangle_none : triangle 0 ≡ 0
triangle_none = refl

-- a triangle of at most 201 places
pub triangle_small : (n : ℕ) → n ≤ 201 → (n * (n + 1) ≤ 40602) × (triangle n ≤ 20301)
triangle_small n l = (let le = mul-le n (n + 1) 201 202 l (omega arith) in (omega (arith, le), div-le_of_le-mul 2 (omega (arith, le))))

-- ---- one number more

pub range_more : (s n k : ℕ) → s + n ≡ k → range_with_len s (n + 1) ≡ range_with_len s n ++ k ∷ []
range_more s zero k e = ap (λ m. m ∷ []) (let same : s ≡ k = omega (arith, e) in same)
range_more s (suc n) k e =
    let long : suc n + 1 ≡ suc (n + 1) = omega arith in
    ap (range_with_len s) long ∙ ap (λ ns. s ∷ ns) (range_more (s + 1) n k (omega (arith, e)))

-- a sum over one more
pub sum_more : (f : ℕ → ℕ) (n : ℕ) → sum_by f (range_with_len 0 (n + 1)) ≡ sum_by f (range_with_len 0 n) + f n
sum_more f n =
    let e : sum_by f (range_with_len 0 (n + 1)) ≡ sum_by f (range_with_len 0 n ++ n ∷ []) = ap (sum_by f) (range_more 0 n n (omega arith)) in
    omega (arith, e, sum_by-append f (range_with_len 0 n) (n ∷ []), sum_by-cons f n [])

-- a sum over fewer is no greater
pub sum_fewer : (f : ℕ → ℕ) (n m : ℕ) → sum_by f (range_with_len 0 n) ≤ sum_by f (range_with_len 0 (n + m))
sum_fewer f n zero = (let e : sum_by f (range_with_len 0 (n + 0)) ≡ sum_by f (range_with_len 0 n) = ap (λ k. sum_by f (range_with_len 0 k)) (let same : n + 0 ≡ n = omega arith in same) in omega (arith, e))
sum_fewer f n (suc m) =
    let e : sum_by f (range_with_len 0 (n + suc m)) ≡ sum_by f (range_with_len 0 (n + m + 1)) = ap (λ k. sum_by f (range_with_len 0 k)) (let same : n + suc m ≡ n + m + 1 = omega arith in same) in
    omega (arith, e, sum_more f (n + m), sum_fewer f n m)

-- ---- the sets of first places

module _ (p : ProblemValue) (x : ScaledValue) (h : IsProblem p) where
  -- the first n sets of an agent have 1 to n cells
  pub fronts_cells : (i n : ℕ) → i < length p.agents → n ≤ length (list_at p i) → cells_in (map (prefix_set p x i) (range_with_len 1 n)) ≡ triangle n
  fronts_cells i zero l m = refl
  fronts_cells i (suc n) l m =
      let next : n + 1 ≡ suc n = omega arith in
      let list : cells_in (map (prefix_set p x i) (range_with_len 1 (suc n))) ≡ cells_in (map (prefix_set p x i) (range_with_len 1 n) ++ prefix_set p x i (suc n) ∷ []) =
      ap (λ k. cells_in (map (prefix_set p x i) (range_with_len 1 k))) (sym next)
      ∙ ap cells_in (ap (map (prefix_set p x i)) (range_more 1 n (suc n) (omega arith)) ∙ map-append (prefix_set p x i) (range_with_len 1 n) (suc n ∷ [])) in
      let last : length (prefix_set p x i (suc n)).cells ≡ suc n = front_length p x i (suc n) h l m in
      let here : triangle (suc n) ≡ triangle n + (n + 1) = ap triangle (sym next) ∙ triangle_more n in
      omega (
        arith,
        list,
        sum_by-append (λ (s : SetValue). length s.cells) (map (prefix_set p x i) (range_with_len 1 n)) (prefix_set p x i (suc n) ∷ []),
        sum_by-cons (λ (s : SetValue). length s.cells) (prefix_set p x i (suc n)) [],
        last,
        here,
        fronts_cells i n l (omega arith),
      )

  -- so many sets an agent has
  pub fronts_many : (i n : ℕ) → length (map (prefix_set p x i) (range_with_len 1 n)) ≡ n
  fronts_many i n = length-map (range_with_len 1 n) (prefix_set p x i) ∙ length-range_with_len 1 n

  all_many : (agents : List ℕ) → length (flat_map (fronts_of p x) agents) ≡ sum_by (λ i. length (list_at p i)) agents
  all_many [] = refl
  all_many (i ∷ agents) =
      omega (arith, length-append (fronts_of p x i) (flat_map (fronts_of p x) agents), fronts_many i (length (list_at p i)), all_many agents, sum_by-cons (λ (j : ℕ). length (list_at p j)) i agents)

  all_cells_many : (agents : List ℕ) → AllByRecursion (λ i. i < length p.agents) agents → cells_in (flat_map (fronts_of p x) agents) ≡ sum_by (λ i. triangle (length (list_at p i))) agents
  all_cells_many [] a = refl
  all_cells_many (i ∷ agents) a =
      omega (
        arith,
        sum_by-append (λ (s : SetValue). length s.cells) (fronts_of p x i) (flat_map (fronts_of p x) agents),
        fronts_cells i (length (list_at p i)) a.0 (omega arith),
        all_cells_many agents a.1,
        sum_by-cons (λ (j : ℕ). triangle (length (list_at p j))) i agents,
      )

  -- the sets and cells of the family with those of the first n agents
  pub sets_of_first : (n : ℕ) → length (p.family.sets ++ flat_map (fronts_of p x) (range_with_len 0 n)) ≡ sets_up_to p n
  sets_of_first n = omega (arith, length-append p.family.sets (flat_map (fronts_of p x) (range_with_len 0 n)), all_many (range_with_len 0 n))

  pub cells_of_first : (n : ℕ) → n ≤ length p.agents → cells_in (p.family.sets ++ flat_map (fronts_of p x) (range_with_len 0 n)) ≡ cells_up_to p n
  cells_of_first n l =
      omega (
        arith,
        sum_by-append (λ (s : SetValue). length s.cells) p.family.sets (flat_map (fronts_of p x) (range_with_len 0 n)),
        all_cells_many (range_with_len 0 n) (each_below (λ i. i < length p.agents) 0 n (λ i a b. omega (arith, b, l))),
      )

  -- those of the guarded family
  pub guarded_first : (guarded_family p x).sets ≡ p.family.sets ++ flat_map (fronts_of p x) (range_with_len 0 (length p.agents))
  guarded_first = ap (λ n. p.family.sets ++ flat_map (fronts_of p x) (range_with_len 0 n)) h.lists_many

  pub guarded_many : length (guarded_family p x).sets ≡ sets_up_to p (length p.agents)
  guarded_many = ap length guarded_first ∙ sets_of_first (length p.agents)

  pub guarded_cells : cells_in (guarded_family p x).sets ≡ cells_up_to p (length p.agents)
  guarded_cells = ap cells_in guarded_first ∙ cells_of_first (length p.agents) (omega arith)

-- one more agent
pub sets_more : (p : ProblemValue) (n : ℕ) → sets_up_to p (n + 1) ≡ sets_up_to p n + length (list_at p n)
sets_more p n = omega (arith, sum_more (λ i. length (list_at p i)) n)

pub cells_more : (p : ProblemValue) (n : ℕ) → cells_up_to p (n + 1) ≡ cells_up_to p n + triangle (length (list_at p n))
cells_more p n = omega (arith, sum_more (λ i. triangle (length (list_at p i))) n)

-- a size that isn't within both limits is above one
pub over_limit : (sets cells : ℕ) → ((sets ≤ 2000) × (cells ≤ 1201000) → ⊥) → (2000 < sets) ⊎ (1201000 < cells)
over_limit sets cells h = elim (cases_lt 2000 sets) [
  | inl over ↦ inl over
  | inr few ↦ elim (cases_lt 1201000 cells) [ inl over ↦ inr over | inr less ↦ absurd (h (few, less)) ]
]
