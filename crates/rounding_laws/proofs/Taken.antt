-- A piece is taken off, at each cell and set; and where the gap is all that is left.
use Rattle.std.proofs.Common.{◌≡◌, ℕ, ◌+◌, ◌-◌, ◌*◌, ◌<◌, ◌≤◌, ◌⊎◌, suc, zero, List, [], length, get_or, arith, inl, inr, subst, ap, below_more, Bool, true, false, cond}
use Rattle.std.specs.Prelude.{sum_by, nat_lt}
use Rattle.std.proofs.lemmas.Bool.{cases_lt}
use Rattle.std.proofs.lemmas.List.{get_or_past, get_or_default}
use Rattle.std.proofs.lemmas.Option.{slice_get-get_or, slice_get_within, get_or_from_slice_get}
use Rattle.definitions.specs.declared.Cell.{Cell}
use Rattle.definitions.specs.Sets.{set_sum, unit_at, cell_index}
use Rattle.definitions.specs.Rounding.{Rounds, IsRounded, Allows, gap}
use Rattle.definitions.proofs.Sums.{sum_same, sum_of_sums, sum_scaled}
use Rattle.rounding_laws.specs.Remainders.{AllAllow, IsGreatestTake, IsTight}
use Rattle.rounding_laws.proofs.Allowed.{allows_of_gap, gap_of_allows}
use Rattle.rounding_laws.proofs.Edges.{IsTakenAt}

-- the sum of a matrix over a set
abbrev pub sum_at : ℕ → List ℕ → List Cell → ℕ
sum_at columns y s = set_sum (unit_at columns y) s

entry_rest : (w : ℕ) (y m y' : List ℕ) → length m ≡ length y → length y' ≡ length y → ((i : ℕ) → i < length y → get_or y' i 0 + w * get_or m i 0 ≡ get_or y i 0)
    → (i : ℕ) → get_or y' i 0 + w * get_or m i 0 ≡ get_or y i 0
entry_rest w y m y' e f rest i = elim (cases_lt i (length y)) [
  | inl h ↦ rest i h
  | inr h ↦ (
      let off : get_or y' i 0 ≡ 0 = get_or_past y' i 0 (omega arith) in
      let none : w * get_or m i 0 ≡ w * 0 = ap (λ n. w * n) (get_or_past m i 0 (omega arith)) in
      omega (arith, off, none, get_or_past y i 0 h))
]

cell_rest : (columns w : ℕ) (y m y' : List ℕ) → ((i : ℕ) → get_or y' i 0 + w * get_or m i 0 ≡ get_or y i 0)
    → (c : Cell) → unit_at columns y' c + w * unit_at columns m c ≡ unit_at columns y c
cell_rest columns w y m y' rest c = by_test (nat_lt c.object columns)
  where
    by_test : (b : Bool) → cond b (get_or y' (cell_index columns c) 0) 0 + w * cond b (get_or m (cell_index columns c) 0) 0 ≡ cond b (get_or y (cell_index columns c) 0) 0
    by_test true = rest (cell_index columns c)
    by_test false = omega arith

-- over each set the sums are what is left and what is taken, too
pub sum_rest : (columns w : ℕ) (y m y' : List ℕ) → length m ≡ length y → length y' ≡ length y → ((i : ℕ) → i < length y → get_or y' i 0 + w * get_or m i 0 ≡ get_or y i 0)
    → (s : List Cell) → sum_at columns y' s + w * sum_at columns m s ≡ sum_at columns y s
sum_rest columns w y m y' e f rest s =
    let scaled : sum_by (λ c. w * unit_at columns m c) s ≡ w * sum_at columns m s = sum_scaled w (unit_at columns m) s in
    let both : sum_by (λ c. unit_at columns y' c + w * unit_at columns m c) s ≡ sum_at columns y' s + sum_by (λ c. w * unit_at columns m c) s = sum_of_sums (unit_at columns y') (λ c. w * unit_at columns m c) s in
    let same : sum_by (λ c. unit_at columns y' c + w * unit_at columns m c) s ≡ sum_at columns y s =
    sum_same (λ c. unit_at columns y' c + w * unit_at columns m c) (unit_at columns y) s (cell_rest columns w y m y' (entry_rest w y m y' e f rest)) in
    omega (arith, scaled, both, same)

module _ (columns d w d' : ℕ) (sets : List (List Cell)) (y m y' : List ℕ) (t : IsGreatestTake columns sets y d m w y' d') (one : 1 ≤ d') where
  near_left : (units count : ℕ) → IsRounded units d count → Allows units d count w → gap count units d ≤ d'
  near_left units count rounded allows = omega (arith, t.left, one, gap_of_allows units d count w (omega (arith, t.left, one)) (omega (arith, t.left)) rounded allows)

  -- at a cell
  pub taken_cell : (i : ℕ) → i < length y → IsTakenAt d w d' (get_or y i 0) (get_or m i 0) (get_or y' i 0)
  taken_cell i h = record {
    one = one;
    left = t.left;
    rounded = t.rounds.cells i h;
    rest = t.rest i h;
    near = near_left (get_or y i 0) (get_or m i 0) (t.rounds.cells i h) (t.allowed.cells i h);
  }

  -- over a set
  pub taken_set : (k : ℕ) (s : List Cell) → k < length sets → IsTakenAt d w d' (sum_at columns y (get_or sets k s)) (sum_at columns m (get_or sets k s)) (sum_at columns y' (get_or sets k s))
  taken_set k s h = record {
    one = one;
    left = t.left;
    rounded = t.rounds.sums k s h;
    rest = sum_rest columns w y m y' t.rounds.shape t.shape t.rest (get_or sets k s);
    near = near_left (sum_at columns y (get_or sets k s)) (sum_at columns m (get_or sets k s)) (t.rounds.sums k s h) (t.allowed.sums k s h);
  }

find_above : (g : ℕ → ℕ) (bound n : ℕ) → ((i : ℕ) → i < n → g i ≤ bound) ⊎ ((i : ℕ) × (i < n) × (bound < g i))
find_above g bound zero = inl (λ i h. absurd (omega arith))
find_above g bound (suc n) = elim (find_above g bound n) [
  | inr far ↦ inr (far.0, omega (arith, far.1), far.2)
  | inl all ↦ elim (cases_lt bound (g n)) [
    | inl h ↦ inr (n, omega arith, h)
    | inr h ↦ inl (λ i l. below_more (λ j. g j ≤ bound) n all h i (omega arith))
  ]
]

-- where no larger weight is allowed, one is tight
pub tight_of_greatest : (columns d w d' : ℕ) (sets : List (List Cell)) (y m y' : List ℕ) → IsGreatestTake columns sets y d m w y' d' → 1 ≤ d' → IsTight columns sets y d m w
tight_of_greatest columns d w d' sets y m y' t one = elim (find_above cell_gap (d' - 1) (length y)) [
  | inr far ↦ inl (far.0, far.1, omega (arith, far.2, (taken_cell columns d w d' sets y m y' t one far.0 far.1).near, t.left))
  | inl cells ↦ elim (find_above set_gap (d' - 1) (length sets)) [
    | inr far ↦ inr (far.0, get_or sets far.0 [], slice_get-get_or sets far.0 [] far.1, omega (arith, far.2, (taken_set columns d w d' sets y m y' t one far.0 [] far.1).near, t.left))
    | inl sums ↦ absurd (omega (arith, t.greatest (w + 1) (omega (arith, t.left, one)) (more cells sums)))
  ]
]
  where
    cell_gap : ℕ → ℕ
    cell_gap i = gap (get_or m i 0) (get_or y i 0) d

    set_gap : ℕ → ℕ
    set_gap k = gap (sum_at columns m (get_or sets k [])) (sum_at columns y (get_or sets k [])) d

    more : ((i : ℕ) → i < length y → gap (get_or m i 0) (get_or y i 0) d ≤ d' - 1)
        → ((k : ℕ) → k < length sets → gap (sum_at columns m (get_or sets k [])) (sum_at columns y (get_or sets k [])) d ≤ d' - 1) → AllAllow columns sets y d m (w + 1)
    more cells sums = record {
      cells = λ i h. allows_of_gap (get_or y i 0) d (get_or m i 0) (w + 1) (omega (arith, t.left, one)) (omega (arith, t.left, one)) (t.rounds.cells i h) (omega (arith, cells i h, t.left, one));
      sums = λ k s h.
          allows_of_gap (sum_at columns y (get_or sets k s)) d (sum_at columns m (get_or sets k s)) (w + 1) (omega (arith, t.left, one)) (omega (arith, t.left, one)) (t.rounds.sums k s h)
          (subst (λ (c : List Cell). gap (sum_at columns m c) (sum_at columns y c) d ≤ d - (w + 1)) (get_or_default sets k [] s h) (omega (arith, sums k h, t.left, one)));
    }

-- where one is tight, no larger weight is allowed
pub greatest_of_tight : (columns d w : ℕ) (sets : List (List Cell)) (y m : List ℕ) → 1 ≤ d → Rounds columns sets y d m → IsTight columns sets y d m w
    → (v : ℕ) → v ≤ d → AllAllow columns sets y d m v → v ≤ w
greatest_of_tight columns d w sets y m one rounds (inl tight) v h all =
    omega (arith, tight.2, gap_of_allows (get_or y tight.0 0) d (get_or m tight.0 0) v one h (rounds.cells tight.0 tight.1) (all.cells tight.0 tight.1), h)
greatest_of_tight columns d w sets y m one rounds (inr tight) v h all =
    let k : ℕ = tight.0 in
    let s : List Cell = tight.1 in
    let short : k < length sets = slice_get_within sets k s tight.2 in
    let at : get_or sets k s ≡ s = get_or_from_slice_get sets k s s tight.2 in
    let rounded : IsRounded (sum_at columns y s) d (sum_at columns m s) = subst (λ (c : List Cell). IsRounded (sum_at columns y c) d (sum_at columns m c)) at (rounds.sums k s short) in
    let allows : Allows (sum_at columns y s) d (sum_at columns m s) v = subst (λ (c : List Cell). Allows (sum_at columns y c) d (sum_at columns m c) v) at (all.sums k s short) in
    omega (arith, tight.3, gap_of_allows (sum_at columns y s) d (sum_at columns m s) v one h rounded allows, h)
