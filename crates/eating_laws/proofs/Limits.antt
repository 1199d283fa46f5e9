-- The agents and the limits of the market of a lawful problem.
use Rattle.std.proofs.Common.{◌≡◌, ℕ, suc, ◌<◌, ◌≤◌, List, [], ◌∷◌, true, false, length, get_or, refl, ap, sym, ◌∙◌, arith}
use Rattle.std.specs.Prelude.{sum, sum_by, All}
use Rattle.std.specs.List.{IsDistinct}
use Rattle.std.proofs.lemmas.List.Elements.{All-take, All-weaker, recursion_from_All, filter_passes}
use Rattle.definitions.specs.declared.Cell.{Cell}
use Rattle.definitions.specs.Sets.{cell_of, same_cell, holds, IsQuotaSet}
use Rattle.definitions.specs.Values.{Agent, ProblemValue, IsProblem, IsStatedSet, market_agents, market_of, limits_of, stated_sets, is_capped, listed_cells}
use Rattle.std.proofs.lemmas.List.Sums.{sum_by-cons, get_or-le-sum_by}
use Rattle.definitions.specs.Eating.{demand_sum}
use Rattle.definitions.proofs.Members.{distinct_none, distinct_more, rising_distinct}
use Rattle.definitions.proofs.Problems.{none_held}
use Rattle.definitions.proofs.Capped.{each_limit, capped_below}
use Rattle.definitions.specs.Laws.{capped_cells}

agents_many : (demands : List ℕ) (lists : List (List ℕ)) → length demands ≡ length lists → length (market_agents demands lists) ≡ length demands
agents_many [] lists h = refl
agents_many (d ∷ demands) [] h = absurd (omega arith)
agents_many (d ∷ demands) (list ∷ lists) h = ap suc (agents_many demands lists (omega arith))

-- the market has the problem's agents
pub agent_count : (p : ProblemValue) → IsProblem p → length (market_of p).agents ≡ length p.agents
agent_count p h = agents_many p.demands p.lists (h.demands_many ∙ sym h.lists_many) ∙ h.demands_many

-- no limit holds a cell twice
pub limits_apart : (p : ProblemValue) → IsProblem p → All (λ s. IsDistinct same_cell s.cells) (limits_of p)
limits_apart p h =
    each_limit p h (λ s. IsDistinct same_cell s.cells)
    (All-weaker IsQuotaSet (λ s. IsDistinct same_cell s.cells) (λ s q. rising_distinct s.cells q.rise) (stated_sets p) (All-take IsQuotaSet p.stated p.family.sets h.family.lawful))
    (λ k d l. distinct_more same_cell (get_or (capped_cells p) k d) [] refl (distinct_none same_cell))

-- no limit holds a cell of the column of `none`
pub none_free : (p : ProblemValue) (i : ℕ) → IsProblem p → All (λ s. holds s.cells (cell_of i (length p.objects)) ≡ false) (limits_of p)
none_free p i h =
    let none = length p.objects in
    each_limit p h (λ s. holds s.cells (cell_of i none) ≡ false)
    (All-weaker (IsStatedSet none) (λ s. holds s.cells (cell_of i none) ≡ false)
    (λ s q. none_held i none s.cells (recursion_from_All (λ (c : Cell). c.object < none) s.cells q.objects)) (stated_sets p) h.stated_lawful)
    (All-weaker (λ c. is_capped p c ≡ true) (λ c. holds (c ∷ []) (cell_of i none) ≡ false)
    (λ c e. none_held i none (c ∷ []) (capped_below p c e, tt)) (capped_cells p) (filter_passes (is_capped p) (listed_cells p)))

demands_from : (demands : List ℕ) (lists : List (List ℕ)) → length demands ≡ length lists → sum_by (λ w. w.demand) (market_agents demands lists) ≡ sum demands
demands_from [] lists h = refl
demands_from (d ∷ demands) [] h = absurd (omega arith)
demands_from (d ∷ demands) (list ∷ lists) h =
    omega (arith, demands_from demands lists (omega arith), sum_by-cons (λ (w : Agent). w.demand) (record { demand = d; list = list }) (market_agents demands lists), sum_by-cons (λ (n : ℕ). n) d demands)

-- the market's sum of demands is the problem's
pub demand_total : (p : ProblemValue) → IsProblem p → demand_sum (market_of p) ≡ sum p.demands
demand_total p h = demands_from p.demands p.lists (h.demands_many ∙ sym h.lists_many)

-- which is at least 1
pub demands_some : (p : ProblemValue) → IsProblem p → 1 ≤ demand_sum (market_of p)
demands_some p h =
    let first : 0 < length p.demands = (let some = h.agents_some in omega (arith, some, h.demands_many)) in
    let one : 1 ≤ get_or p.demands 0 0 = h.demands 0 0 first in
    let within : get_or p.demands 0 0 ≤ sum p.demands = get_or-le-sum_by (λ n. n) p.demands 0 0 first in
    omega (arith, one, within, demand_total p h)
