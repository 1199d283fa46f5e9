-- The limits of the capped cells: which of them hold a cell.
use Rattle.std.proofs.Common.{◌≡◌, ℕ, suc, zero, ◌+◌, ◌-◌, ◌<◌, ◌≤◌, ◌++◌, List, [], ◌∷◌, Bool, true, false, cond, Some, length, map, take, get_or, refl, ap, sym, ◌∙◌, subst, arith, inl, inr}
use Rattle.std.specs.Prelude.{nat_eq, nat_le, slice_get, ◌==◌}
use Rattle.std.specs.List.{IsDistinct}
use Rattle.std.specs.Set.{is_member}
use Rattle.std.proofs.lemmas.Bool.{cases_lt, both_ways, and_parts, and_from, or_cases, or_left, eqb-true, eq-eqb}
use Rattle.std.proofs.lemmas.List.{length-map}
use Rattle.std.proofs.lemmas.List.Sums.{sum_by-cons}
use Rattle.definitions.specs.Sets.{cell_of, same_cell, holds}
use Rattle.definitions.specs.Values.{Limit, Agent, but_last, capped_limits}
use Rattle.definitions.proofs.Members.{number_test, distinct_first, distinct_rest, member_at}
use Rattle.eating_laws.proofs.Full.{cells_at}
use Rattle.eating.specs.Caps.{capped_count, caps_before}

-- in a list without repeats each column has one place
pub one_place : (list : List ℕ) → IsDistinct nat_eq list → (i j : ℕ) → i < length list → j < length list → get_or list i 0 ≡ get_or list j 0 → i ≡ j
one_place [] d i j l m e = absurd (omega arith)
one_place (a ∷ list) d zero zero l m e = refl
one_place (a ∷ list) d zero (suc j) l m e =
    absurd (both_ways (is_member nat_eq list a) (distinct_first nat_eq a list d) (subst (λ x. is_member nat_eq list x ≡ true) (sym e) (member_at nat_eq number_test list j 0 (omega arith))))
one_place (a ∷ list) d (suc i) zero l m e =
    absurd (both_ways (is_member nat_eq list a) (distinct_first nat_eq a list d) (subst (λ x. is_member nat_eq list x ≡ true) e (member_at nat_eq number_test list i 0 (omega arith))))
one_place (a ∷ list) d (suc i) (suc j) l m e = ap suc (one_place list (distinct_rest nat_eq a list d) i j (omega arith) (omega arith) e)

-- a limit of two lists of limits, in the first and in the second
pub cells_left : (xs ys : List Limit) (x : ℕ) → x < length xs → cells_at (xs ++ ys) x ≡ cells_at xs x
cells_left [] ys x l = absurd (omega arith)
cells_left (s ∷ xs) ys zero l = refl
cells_left (s ∷ xs) ys (suc x) l = cells_left xs ys x (omega arith)

pub cells_right : (xs ys : List Limit) (x y : ℕ) → x ≡ length xs + y → cells_at (xs ++ ys) x ≡ cells_at ys y
cells_right [] ys x y e = ap (cells_at ys) (let f : x ≡ y = omega arith in f)
cells_right (s ∷ xs) ys zero y e = absurd (omega arith)
cells_right (s ∷ xs) ys (suc x) y e = cells_right xs ys x y (omega arith)

abbrev head_of : ℕ → Agent → List Limit
head_of i w = cond (nat_le 2 w.demand) (map (λ a. record { ceiling = 1; cells = cell_of i a ∷ [] }) (but_last w.list)) []

-- a list without its last column
pub before_last_length : (list : List ℕ) → length (but_last list) ≡ length list - 1
before_last_length [] = refl
before_last_length (a ∷ []) = refl
before_last_length (a ∷ b ∷ list) = omega (arith, before_last_length (b ∷ list))

before_last_at : (list : List ℕ) (x : ℕ) → x < length list - 1 → get_or (but_last list) x 0 ≡ get_or list x 0
before_last_at [] x l = absurd (omega arith)
before_last_at (a ∷ []) x l = absurd (omega arith)
before_last_at (a ∷ b ∷ list) zero l = refl
before_last_at (a ∷ b ∷ list) (suc x) l = before_last_at (b ∷ list) x (omega arith)

cells_listed : (i : ℕ) (list : List ℕ) (x : ℕ) → x < length list → cells_at (map (λ a. record { ceiling = 1; cells = cell_of i a ∷ [] }) list) x ≡ cell_of i (get_or list x 0) ∷ []
cells_listed i [] x l = absurd (omega arith)
cells_listed i (a ∷ list) zero l = refl
cells_listed i (a ∷ list) (suc x) l = cells_listed i list x (omega arith)

head_length : (i : ℕ) (w : Agent) → length (head_of i w) ≡ capped_count w.demand w.list
head_length i w = pick (nat_le 2 w.demand)
  where
    pick : (b : Bool) → length {A = Limit} (cond b (map (λ a. record { ceiling = 1; cells = cell_of i a ∷ [] }) (but_last w.list)) []) ≡ cond b (length w.list - 1) 0
    pick true = length-map (but_last w.list) (λ (a : ℕ). record { ceiling = 1; cells = cell_of i a ∷ [] }) ∙ before_last_length w.list
    pick false = refl

-- the cell of a capped place
head_cells : (i : ℕ) (w : Agent) (x : ℕ) → x < capped_count w.demand w.list → cells_at (head_of i w) x ≡ cell_of i (get_or w.list x 0) ∷ []
head_cells i w x l = pick (nat_le 2 w.demand) l
  where
    pick : (b : Bool) → x < cond b (length w.list - 1) 0 → cells_at (cond b (map (λ a. record { ceiling = 1; cells = cell_of i a ∷ [] }) (but_last w.list)) []) x ≡ cell_of i (get_or w.list x 0) ∷ []
    pick true l = cells_listed i (but_last w.list) x (omega (arith, l, before_last_length w.list)) ∙ ap (λ a. cell_of i a ∷ []) (before_last_at w.list x l)
    pick false l = absurd (omega arith)

one_cell : (i a k b : ℕ) → holds (cell_of i a ∷ []) (cell_of k b) ≡ true → (k ≡ i) × (b ≡ a)
one_cell i a k b h = elim (or_cases (same_cell (cell_of k b) (cell_of i a)) false h) [
  | inl e ↦ (let p = and_parts (k == i) (b == a) e in (eqb-true k i p.0, eqb-true b a p.1))
  | inr e ↦ cc e
]

own_cell : (i a b : ℕ) → a ≡ b → holds (cell_of i a ∷ []) (cell_of i b) ≡ true
own_cell i a b e = or_left (same_cell (cell_of i b) (cell_of i a)) false (and_from (i == i) (b == a) (eq-eqb i i refl) (eq-eqb b a (sym e)))

none_held : (k b : ℕ) → holds [] (cell_of k b) ≡ true → ⊥
none_held k b h = both_ways false refl h

step_cells : (i : ℕ) (w : Agent) (agents : List Agent) (x : ℕ) → capped_count w.demand w.list ≤ x → cells_at (capped_limits i (w ∷ agents)) x ≡ cells_at (capped_limits (i + 1) agents) (x - capped_count w.demand w.list)
unfolding capped_limits
step_cells i w agents x l = cells_right (head_of i w) (capped_limits (i + 1) agents) x (x - capped_count w.demand w.list) (omega (arith, l, head_length i w))

first_cells : (i : ℕ) (w : Agent) (agents : List Agent) (x : ℕ) → x < capped_count w.demand w.list → cells_at (capped_limits i (w ∷ agents)) x ≡ cell_of i (get_or w.list x 0) ∷ []
unfolding capped_limits
first_cells i w agents x l = cells_left (head_of i w) (capped_limits (i + 1) agents) x (omega (arith, l, head_length i w)) ∙ head_cells i w x l

empty_cells : (i x : ℕ) → cells_at (capped_limits i []) x ≡ []
unfolding capped_limits
empty_cells i x = refl

-- the cells are those of the agents from i on
later_agent : (i : ℕ) (agents : List Agent) (x k b : ℕ) → holds (cells_at (capped_limits i agents) x) (cell_of k b) ≡ true → i ≤ k
later_agent i [] x k b h = absurd (none_held k b (subst (λ c. holds c (cell_of k b) ≡ true) (empty_cells i x) h))
later_agent i (w ∷ agents) x k b h = elim (cases_lt x (capped_count w.demand w.list)) [
  | inl less ↦ (let e = one_cell i (get_or w.list x 0) k b (subst (λ c. holds c (cell_of k b) ≡ true) (first_cells i w agents x less) h) in omega (arith, e.0))
  | inr more ↦ (let r = later_agent (i + 1) agents (x - capped_count w.demand w.list) k b (subst (λ c. holds c (cell_of k b) ≡ true) (step_cells i w agents x more) h) in omega (arith, r))
]

-- limit x of the capped cells is that of a place of an agent, whose own limits begin at `start`
pub record IsCapAt (w : Agent) (start x b : ℕ) : Type 0 where
  pub low : start ≤ x
  pub inside : x - start < capped_count w.demand w.list
  pub column : get_or w.list (x - start) 0 ≡ b

pub cap_found : (i n : ℕ) (agents : List Agent) (w : Agent) (x b : ℕ) → slice_get agents n ≡ Some w → holds (cells_at (capped_limits i agents) x) (cell_of (i + n) b) ≡ true
    → IsCapAt w (caps_before (take n agents)) x b
cap_found i n [] w x b h held = cc h
cap_found i zero (v ∷ agents) w x b h held =
    let same : v ≡ w = cc h in
    subst (λ u. IsCapAt u 0 x b) same (elim (cases_lt x (capped_count v.demand v.list)) [
      | inl less ↦
          let e = one_cell i (get_or v.list x 0) (i + 0) b (subst (λ c. holds c (cell_of (i + 0) b) ≡ true) (first_cells i v agents x less) held) in
          let plain : x - 0 ≡ x = omega arith in
          record { low = omega arith; inside = omega arith; column = ap (λ k. get_or v.list k 0) plain ∙ sym e.1 }
      | inr more ↦ absurd (let r = later_agent (i + 1) agents (x - capped_count v.demand v.list) (i + 0) b (subst (λ c. holds c (cell_of (i + 0) b) ≡ true) (step_cells i v agents x more) held) in omega (arith, r))
    ])
cap_found i (suc n) (v ∷ agents) w x b h held =
    elim (cases_lt x (capped_count v.demand v.list)) [
      | inl less ↦ absurd (let e = one_cell i (get_or v.list x 0) (i + suc n) b (subst (λ c. holds c (cell_of (i + suc n) b) ≡ true) (first_cells i v agents x less) held) in omega (arith, e.0))
      | inr more ↦
          let place : i + suc n ≡ i + 1 + n = omega arith in
          let rest = cap_found (i + 1) n agents w (x - capped_count v.demand v.list) b h
          (subst (λ k. holds (cells_at (capped_limits (i + 1) agents) (x - capped_count v.demand v.list)) (cell_of k b) ≡ true) place
          (subst (λ c. holds c (cell_of (i + suc n) b) ≡ true) (step_cells i v agents x more) held)) in
          let sum = sum_by-cons (λ (u : Agent). capped_count u.demand u.list) v (take n agents) in
          let low : caps_before (take (suc n) (v ∷ agents)) ≤ x = omega (arith, rest.low, sum, more) in
          let same : x - caps_before (take (suc n) (v ∷ agents)) ≡ x - capped_count v.demand v.list - caps_before (take n agents) = omega (arith, sum) in
          record { low = low; inside = omega (arith, same, rest.inside); column = ap (λ k. get_or w.list k 0) same ∙ rest.column }
    ]

pub cap_holds : (i n : ℕ) (agents : List Agent) (w : Agent) (k b : ℕ) → slice_get agents n ≡ Some w → k < capped_count w.demand w.list → get_or w.list k 0 ≡ b
    → holds (cells_at (capped_limits i agents) (caps_before (take n agents) + k)) (cell_of (i + n) b) ≡ true
cap_holds i n [] w k b h l e = cc h
cap_holds i zero (v ∷ agents) w k b h l e =
    let same : w ≡ v = sym (cc h) in
    let inside : k < capped_count v.demand v.list = subst (λ (u : Agent). k < capped_count u.demand u.list) same l in
    let column : get_or v.list k 0 ≡ b = subst (λ (u : Agent). get_or u.list k 0 ≡ b) same e in
    let at : caps_before (take zero (v ∷ agents)) + k ≡ k = omega arith in
    let agent : i ≡ i + 0 = omega arith in
    subst (λ x. holds (cells_at (capped_limits i (v ∷ agents)) x) (cell_of (i + 0) b) ≡ true) (sym at)
    (subst (λ c. holds c (cell_of (i + 0) b) ≡ true) (sym (first_cells i v agents k inside))
    (subst (λ m. holds (cell_of i (get_or v.list k 0) ∷ []) (cell_of m b) ≡ true) agent (own_cell i (get_or v.list k 0) b column)))
cap_holds i (suc n) (v ∷ agents) w k b h l e =
    let sum = sum_by-cons (λ (u : Agent). capped_count u.demand u.list) v (take n agents) in
    let low : capped_count v.demand v.list ≤ caps_before (take (suc n) (v ∷ agents)) + k = omega (arith, sum) in
    let at : caps_before (take n agents) + k ≡ caps_before (take (suc n) (v ∷ agents)) + k - capped_count v.demand v.list = omega (arith, sum) in
    let place : i + 1 + n ≡ i + suc n = omega arith in
    subst (λ c. holds c (cell_of (i + suc n) b) ≡ true) (sym (step_cells i v agents (caps_before (take (suc n) (v ∷ agents)) + k) low))
    (subst (λ x. holds (cells_at (capped_limits (i + 1) agents) x) (cell_of (i + suc n) b) ≡ true) at
    (subst (λ m. holds (cells_at (capped_limits (i + 1) agents) (caps_before (take n agents) + k)) (cell_of m b) ≡ true) place (cap_holds (i + 1) n agents w k b h l e)))
