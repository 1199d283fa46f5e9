-- No agent envies one who is alike.
use Rattle.std.proofs.Common.{◌≡◌, ℕ, ◌-◌, ◌*◌, ◌<◌, ◌≤◌, List, [], ◌∷◌, true, false, length, take, ap, sym, ◌∙◌, subst, inl, inr, arith}
use Rattle.std.specs.Prelude.{min, max, nat_eq, sum_by, ◌==◌}
use Rattle.std.specs.List.{AllByRecursion}
use Rattle.std.specs.Set.{is_member}
use Rattle.std.proofs.lemmas.Bool.{cases_lt, cases_Bool, both_ways, or_cases, eqb-true}
use Rattle.std.proofs.lemmas.List.Elements.{recursion_from_All, All-weaker}
use Rattle.definitions.specs.Sets.{cell_of, holds, prefix_sum, ScaledValue, units_of}
use Rattle.definitions.specs.Values.{Limit, ProblemValue, IsProblem, market_of, limits_of, list_at, demand_at, column_count}
use Rattle.definitions.specs.Eating.{full_at, reached, eaten_along, share, IsAssignmentOf}
use Rattle.definitions.specs.Fairness.{IsAlike, Envies}
use Rattle.definitions.proofs.Members.{member_take, distinct_take}
use Rattle.definitions.proofs.Sums.{sum_same}
use Rattle.definitions.proofs.Problems.{agent_of, list_lawful}
use Rattle.eating_laws.proofs.Line.{along_within, reached_from}
use Rattle.eating_laws.proofs.Full.{full_le, full_alike, full_never}
use Rattle.eating_laws.proofs.Columns.{sum_columns}
use Rattle.eating_laws.proofs.Limits.{none_free}
use Rattle.eating_laws.proofs.Shares.{share_is, prefix_share}
use Rattle.eating_laws.proofs.Assignment.{units_are_shares}

-- the cells of alike agents are full from one moment on
full_same : (p : ProblemValue) (D : ℕ) (e : List ℕ) (i j a : ℕ) → IsProblem p → IsAlike p i j → a ≤ length p.objects → full_at D (limits_of p) e i a ≡ full_at D (limits_of p) e j a
full_same p D e i j a h alike k = elim (cases_lt a (length p.objects)) [
  | inl less ↦
      full_alike D (limits_of p) e i j a
      (recursion_from_All (λ (s : Limit). holds s.cells (cell_of i a) ≡ holds s.cells (cell_of j a)) (limits_of p)
      (All-weaker (λ (s : Limit). (b : ℕ) → b < length p.objects → holds s.cells (cell_of i b) ≡ holds s.cells (cell_of j b)) (λ (s : Limit). holds s.cells (cell_of i a) ≡ holds s.cells (cell_of j a))
      (λ s q. q a less) (limits_of p) alike.sets))
  | inr more ↦ (let last : length p.objects ≡ a = omega arith in subst (λ b. full_at D (limits_of p) e i b ≡ full_at D (limits_of p) e j b) last (never i ∙ sym (never j)))
]
  where
    never : (l : ℕ) → full_at D (limits_of p) e l (length p.objects) ≡ D
    never l = full_never D (limits_of p) e l (length p.objects) (recursion_from_All (λ (s : Limit). holds s.cells (cell_of l (length p.objects)) ≡ false) (limits_of p) (none_free p l h))

-- each column of a list is full by the greatest of their moments
reached_member : (full : ℕ → ℕ) (from : ℕ) (list : List ℕ) (a : ℕ) → is_member nat_eq list a ≡ true → full a ≤ reached full from list
unfolding reached
reached_member full from [] a h = absurd (none h)
  where
    none : false ≡ true → ⊥
    none h = cc
reached_member full from (b ∷ list) a h = elim (or_cases (nat_eq a b) (is_member nat_eq list a) h) [
  | inl here ↦ (let same : a ≡ b = eqb-true a b here in let up = reached_from full (max from (full b)) list in omega (arith, up, ap full same))
  | inr there ↦ reached_member full (max from (full b)) list a there
]

-- a member is within a bound on all
member_within : (n : ℕ) (list : List ℕ) (a : ℕ) → AllByRecursion (λ b. b ≤ n) list → is_member nat_eq list a ≡ true → a ≤ n
member_within n [] a h k = absurd (none k)
  where
    none : false ≡ true → ⊥
    none h = cc
member_within n (b ∷ list) a h k = elim (or_cases (nat_eq a b) (is_member nat_eq list a) k) [
  | inl here ↦ (let same : a ≡ b = eqb-true a b here in let l : b ≤ n = h.0 in omega arith)
  | inr there ↦ member_within n list a h.1 there
]

member_of_front : (k : ℕ) (list : List ℕ) (a : ℕ) → is_member nat_eq (take k list) a ≡ true → is_member nat_eq list a ≡ true
member_of_front k list a h = elim (cases_Bool (is_member nat_eq list a)) [
  | inl found ↦ found
  | inr missing ↦ absurd (both_ways (is_member nat_eq (take k list) a) (member_take nat_eq k list a missing) h)
]

-- of the first k columns of i's list, j has no more than i
pub no_more_than_own : (p : ProblemValue) (D : ℕ) (e : List ℕ) (i j k : ℕ) → IsProblem p → i < length p.agents → j < length p.agents → IsAlike p i j
    → sum_by (share (market_of p) D e j) (take k (list_at p i)) ≤ sum_by (share (market_of p) D e i) (take k (list_at p i))
no_more_than_own p D e i j k h l l' alike =
    let front = take k (list_at p i) in
    let full = full_at D (limits_of p) e i in
    let full' = full_at D (limits_of p) e j in
    let lawful = list_lawful p i h l in
    let own : sum_by (share (market_of p) D e i) front ≡ demand_at p i * min D (reached full 0 front) =
    prefix_share (market_of p) D e i k (record { demand = demand_at p i; list = list_at p i }) (agent_of p i h l) lawful.apart in
    let other : sum_by (share (market_of p) D e j) front ≡ eaten_along (demand_at p j) full' (is_member nat_eq front) 0 D (list_at p j) =
    sum_same (share (market_of p) D e j) (λ a. eaten_along (demand_at p j) full' (λ b. b == a) 0 D (list_at p j)) front (λ a. share_is (market_of p) D e j a (record { demand = demand_at p j; list = list_at p j }) (agent_of p j h l'))
    ∙ sum_columns (demand_at p j) full' 0 D (list_at p j) front (distinct_take nat_eq k (list_at p i) lawful.apart) in
    let within : eaten_along (demand_at p j) full' (is_member nat_eq front) 0 D (list_at p j) ≤ demand_at p j * (max 0 (min D (reached full 0 front)) - 0) =
    along_within (demand_at p j) full' (is_member nat_eq front) (min D (reached full 0 front)) 0 D (list_at p j)
    (λ a m. by_then full full' a (full_same p D e i j a h alike (member_within (length p.objects) (list_at p i) a (recursion_from_All (λ b. b ≤ length p.objects) (list_at p i) lawful.known) (member_of_front k (list_at p i) a m))) (full_le D (limits_of p) e i a) (reached_member full 0 front a m)) in
    let plain : max 0 (min D (reached full 0 front)) - 0 ≡ min D (reached full 0 front) = omega arith in
    let equal : demand_at p j * (max 0 (min D (reached full 0 front)) - 0) ≡ demand_at p i * min D (reached full 0 front) =
    ap (λ n. demand_at p j * n) plain ∙ ap (λ d. d * min D (reached full 0 front)) (sym alike.demands) in
    omega (arith, own, other, within, equal)
  where
    by_then : (full full' : ℕ → ℕ) (a : ℕ) {r : ℕ} → full a ≡ full' a → full a ≤ D → full a ≤ r → full' a ≤ min D r
    by_then full full' a e p q = omega arith

-- no agent envies one who is alike
pub no_envy : (p : ProblemValue) (x : ScaledValue) (e : List ℕ) (i j : ℕ) → IsProblem p → IsAssignmentOf (column_count p) (market_of p) x.denominator e x
    → i < length p.agents → j < length p.agents → IsAlike p i j → Envies p (units_of x) i j → ⊥
no_envy p x e i j h a l l' alike (k, inside, more) =
    let D = x.denominator in
    let front = take k (list_at p i) in
    let own : prefix_sum (units_of x) i (list_at p i) k ≡ sum_by (share (market_of p) D e i) front = sum_same (λ b. units_of x (cell_of i b)) (share (market_of p) D e i) front (λ b. units_are_shares p x e h a (cell_of i b)) in
    let other : prefix_sum (units_of x) j (list_at p i) k ≡ sum_by (share (market_of p) D e j) front = sum_same (λ b. units_of x (cell_of j b)) (share (market_of p) D e j) front (λ b. units_are_shares p x e h a (cell_of j b)) in
    let bound = no_more_than_own p D e i j k h l l' alike in
    omega (arith, own, other, bound, more)
