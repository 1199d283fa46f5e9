-- The assignment of an eating table is a random assignment.
use Rattle.std.proofs.Common.{subst, ◌≡◌, ℕ, ◌+◌, ◌-◌, ◌*◌, ◌<◌, ◌≤◌, List, [], ◌∷◌, false, length, get_or, refl, ap, sym, ◌∙◌, arith, inl, inr}
use Rattle.std.specs.Prelude.{All, nat_eq, ◌⊎◌}
use Rattle.std.specs.List.{AllByRecursion, IsDistinct, range_with_len}
use Rattle.std.specs.Option.{option_map_or}
use Rattle.std.specs.Set.{is_member}
use Rattle.std.proofs.lemmas.Bool.{or_from, ne_eqb, cases_lt, both_ways, false_from_ne_true}
use Rattle.std.proofs.lemmas.List.{get_or_past}
use Rattle.std.proofs.lemmas.Option.{slice_get-get_or}
use Rattle.std.proofs.lemmas.List.Elements.{recursion_from_All}
use Rattle.std.proofs.Math.Nat.{mul-le-mul_right}
use Rattle.definitions.specs.declared.Cell.{Cell}
use Rattle.definitions.specs.Sets.{cell_of, same_cell, holds, set_sum, row_sum, row_cells, cell_index, ScaledValue, units_of}
use Rattle.definitions.specs.Values.{Limit, Agent, Market, ProblemValue, IsProblem, market_of, limits_of, listed_cells, list_at, demand_at, column_count}
use Rattle.definitions.specs.Eating.{share, eaten_by, moment_at, limit_cells, limit_ceiling, IsEatingTable, IsAssignmentOf}
use Rattle.definitions.specs.Assignment.{IsRandomAssignment}
use Rattle.definitions.proofs.Sums.{sum_same, unit_at_within, unit_at_past, sum_mapped}
use Rattle.definitions.proofs.Problems.{agent_of, list_lawful}
use Rattle.definitions.proofs.Listed.{column_listed}
use Rattle.eating_laws.proofs.Full.{full_never}
use Rattle.eating_laws.proofs.Limits.{agent_count, limits_apart, none_free}
use Rattle.eating_laws.proofs.Shares.{share_past, share_off, row_share, sum_is_eaten, eaten_within, eaten_whole}

-- what each agent has of each column in the end, by cells
abbrev pub share_of : Market → ℕ → List ℕ → Cell → ℕ
share_of market D e c = share market D e c.agent c.object

list_known : (n : ℕ) (list : List ℕ) → AllByRecursion (λ a. a ≤ n) list → AllByRecursion (λ a. a < n + 1) list
list_known n [] h = tt
list_known n (a ∷ list) h = ((let l : a ≤ n = h.0 in omega arith), list_known n list h.1)

rows : (p : ProblemValue) (D : ℕ) (e : List ℕ) → IsProblem p → (i : ℕ) → i < length p.agents → row_sum (share_of (market_of p) D e) (column_count p) i ≡ demand_at p i * D
rows p D e h i l =
    let none = length p.objects in
    let lawful = list_lawful p i h l in
    let w : Agent = record { demand = demand_at p i; list = list_at p i } in
    sum_mapped (share_of (market_of p) D e) (cell_of i) (range_with_len 0 (column_count p))
    ∙ row_share (market_of p) D e i (column_count p) (length (list_at p i) - 1) none w (agent_of p i h l)
    (list_known none (list_at p i) (recursion_from_All (λ a. a ≤ none) (list_at p i) lawful.known)) lawful.last
    (full_never D (limits_of p) e i none (recursion_from_All (λ (s : Limit). holds s.cells (cell_of i none) ≡ false) (limits_of p) (none_free p i h)))

listed : (p : ProblemValue) (D : ℕ) (e : List ℕ) → IsProblem p → (c : Cell) → holds (listed_cells p) c ≡ false → share_of (market_of p) D e c ≡ 0
listed p D e h c off = elim (cases_lt c.agent (length p.agents)) [
  | inl inside ↦
      share_off (market_of p) D e c.agent c.object (record { demand = demand_at p c.agent; list = list_at p c.agent }) (agent_of p c.agent h inside)
      (false_from_ne_true (is_member nat_eq (list_at p c.agent) c.object) (λ on. both_ways (holds (listed_cells p) c) off (column_listed p c.agent c.object (omega (arith, inside, h.lists_many)) on)))
  | inr past ↦ share_past (market_of p) D e c.agent c.object (omega (arith, agent_count p h))
]

-- the cells and the ceiling of a limit
limit_is : (market : Market) (j : ℕ) (d : Limit) → j < length market.limits
    → (limit_cells market j ≡ (let s : Limit = get_or market.limits j d in s.cells)) × (limit_ceiling market j ≡ (let s : Limit = get_or market.limits j d in s.ceiling))
limit_is market j d l =
    let found = slice_get-get_or market.limits j d l in
    (ap (λ o. option_map_or (λ (s : Limit). s.cells) o []) found, ap (λ o. option_map_or (λ (s : Limit). s.ceiling) o 0) found)

kept : (p : ProblemValue) (D : ℕ) (e : List ℕ) → IsProblem p → IsEatingTable (market_of p) D e → All (λ s. set_sum (share_of (market_of p) D e) s.cells ≤ s.ceiling * D) (limits_of p)
kept p D e h table j d l =
    let s : Limit = get_or (limits_of p) j d in
    let limit = limit_is (market_of p) j d l in
    let within : eaten_by (market_of p) D e (limit_cells (market_of p) j) D ≤ limit_ceiling (market_of p) j * D = eaten_within (market_of p) D e table j (omega (arith, table.size)) in
    let same = ap (λ cells. eaten_by (market_of p) D e cells D) limit.0 in
    let bound = ap (λ n. n * D) limit.1 in
    omega (arith, sum_is_eaten (market_of p) D e s.cells (limits_apart p h j d l), same, bound, within)

-- a limit that is full before the end has all of its ceiling in the end
pub shares_full : (p : ProblemValue) (D : ℕ) (e : List ℕ) → IsProblem p → IsEatingTable (market_of p) D e → (j : ℕ) → j < length e → moment_at e j < D
    → set_sum (share_of (market_of p) D e) (limit_cells (market_of p) j) ≡ limit_ceiling (market_of p) j * D
shares_full p D e h table j l early =
    let none : Limit = record { ceiling = 0; cells = [] } in
    let inside : j < length (limits_of p) = omega (arith, l, table.size) in
    let limit = limit_is (market_of p) j none inside in
    let apart : IsDistinct same_cell (limit_cells (market_of p) j) = subst (IsDistinct same_cell) (sym limit.0) (limits_apart p h j none inside) in
    sum_is_eaten (market_of p) D e (limit_cells (market_of p) j) apart ∙ eaten_whole (market_of p) D e table j l early

-- the shares of an eating table are a random assignment
pub shares_assign : (p : ProblemValue) (D : ℕ) (e : List ℕ) → IsProblem p → IsEatingTable (market_of p) D e → IsRandomAssignment p D (share_of (market_of p) D e)
shares_assign p D e h table = record {
  one = table.positive;
  rows = rows p D e h;
  listed = listed p D e h;
  kept = kept p D e h table;
}

-- a random assignment, as another function with the same units
pub assignment_same : (p : ProblemValue) (D : ℕ) (x y : Cell → ℕ) → ((c : Cell) → x c ≡ y c) → IsRandomAssignment p D y → IsRandomAssignment p D x
assignment_same p D x y e h = record {
  one = h.one;
  rows = λ i l. sum_same x y (row_cells (column_count p) i) e ∙ h.rows i l;
  listed = λ c off. e c ∙ h.listed c off;
  kept = λ j d l. (let s : Limit = get_or (limits_of p) j d in let k : set_sum y s.cells ≤ s.ceiling * D = h.kept j d l in omega (arith, sum_same x y s.cells e, k));
}

above : (n b : ℕ) (list : List ℕ) → n < b → AllByRecursion (λ a. a ≤ n) list → is_member nat_eq list b ≡ false
above n b [] l h = refl
above n b (a ∷ list) l h = or_from (nat_eq b a) (is_member nat_eq list b) (ne_eqb b a (λ e. (let k : a ≤ n = h.0 in absurd (omega arith)))) (above n b list l h.1)

-- the matrix of the shares holds each agent's share of each column
pub units_are_shares : (p : ProblemValue) (x : ScaledValue) (e : List ℕ) → IsProblem p → IsAssignmentOf (column_count p) (market_of p) x.denominator e x
    → (c : Cell) → units_of x c ≡ share_of (market_of p) x.denominator e c
units_are_shares p x e h a c = elim (cases_lt c.object x.columns) [
  | inl column ↦ elim (cases_lt c.agent x.agents) [
    | inl row ↦ a.units c.agent c.object row column
    | inr past ↦
        let beyond : length x.units ≤ cell_index x.columns c = (let more : x.agents * x.columns ≤ c.agent * x.columns = mul-le-mul_right x.columns past in omega (arith, more, a.shape)) in
        unit_at_within x.columns x.units c column ∙ get_or_past x.units (cell_index x.columns c) 0 beyond
        ∙ sym (share_past (market_of p) x.denominator e c.agent c.object (omega (arith, a.agents)))
  ]
  | inr off ↦ unit_at_past x.columns x.units c off ∙ sym (off_columns off (cases_lt c.agent (length p.agents)))
]
  where
    off_columns : x.columns ≤ c.object → (c.agent < length p.agents) ⊎ (length p.agents ≤ c.agent) → share_of (market_of p) x.denominator e c ≡ 0
    off_columns off (inl inside) =
        share_off (market_of p) x.denominator e c.agent c.object (record { demand = demand_at p c.agent; list = list_at p c.agent }) (agent_of p c.agent h inside)
        (above (length p.objects) c.object (list_at p c.agent) (omega (arith, off, a.columns)) (recursion_from_All (λ b. b ≤ length p.objects) (list_at p c.agent) ((list_lawful p c.agent h inside).known)))
    off_columns off (inr past) = share_past (market_of p) x.denominator e c.agent c.object (omega (arith, agent_count p h))

-- the assignment of an eating table is a random assignment
pub eating_assigns : (p : ProblemValue) (x : ScaledValue) (e : List ℕ) → IsProblem p → IsEatingTable (market_of p) x.denominator e
    → IsAssignmentOf (column_count p) (market_of p) x.denominator e x → IsRandomAssignment p x.denominator (units_of x)
eating_assigns p x e h table a =
    assignment_same p x.denominator (units_of x) (share_of (market_of p) x.denominator e) (units_are_shares p x e h a) (shares_assign p x.denominator e h table)

-- and a limit that is full before the end is full in it
pub units_full : (p : ProblemValue) (x : ScaledValue) (e : List ℕ) → IsProblem p → IsEatingTable (market_of p) x.denominator e
    → IsAssignmentOf (column_count p) (market_of p) x.denominator e x → (j : ℕ) → j < length e → moment_at e j < x.denominator
    → set_sum (units_of x) (limit_cells (market_of p) j) ≡ limit_ceiling (market_of p) j * x.denominator
units_full p x e h table a j l early =
    sum_same (units_of x) (share_of (market_of p) x.denominator e) (limit_cells (market_of p) j) (units_are_shares p x e h a) ∙ shares_full p x.denominator e h table j l early
