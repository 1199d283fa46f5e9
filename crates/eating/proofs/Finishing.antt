-- What is handed out in the end.
use Rattle.std.proofs.Common.{◌≡◌, ℕ, suc, ◌+◌, ◌-◌, ◌*◌, ◌<◌, ◌≤◌, List, [], ◌∷◌, Bool, true, false, cond, Option, Some, length, map, take, drop, get_or, refl, ap, sym, ◌∙◌, subst, arith}
use Rattle.std.specs.Prelude.{nat_eq, slice_get, slice_index, sum, sum_by, ◌^◌, All, flat_map, nat_le}
use Rattle.std.specs.Option.{option_map_or}
use Rattle.std.specs.List.{IsDistinct, range_with_len}
use Rattle.std.specs.Set.{is_member}
use Rattle.std.proofs.Math.Nat.{add-mul, mul-le-mul_right}
use Rattle.std.proofs.lemmas.Bool.{false_from_ne_true, both_ways}
use Rattle.std.proofs.lemmas.Option.{slice_get-get_or, slice_get_within, same_Some}
use Rattle.std.proofs.lemmas.List.{drop_at, get_or-map, get_or-replicate, length-map, get_or-take, length-take, get_or_default}
use Rattle.std.proofs.lemmas.List.Elements.{All-append, All-map, All-take, All-weaker}
use Rattle.std.proofs.lemmas.List.Sums.{sum_by-cons, sum_by-append}
use Rattle.definitions.specs.declared.Cell.{Cell}
use Rattle.definitions.specs.Sets.{cell_of, holds, row_cells, row_sum, all_cells, unit_at, SetValue, IsQuotaSet, ScaledValue, IsScaledMatrix}
use Rattle.definitions.specs.Values.{Limit, Agent, ProblemValue, IsProblem, column_count, capped_limits, market_of, limits_of, stated_sets, list_at, demand_at}
use Rattle.definitions.specs.Eating.{full_at, share, IsAssignmentOf, IsEatingTable, IsLowestTerms}
use Rattle.definitions.proofs.Members.{number_test, member_at}
use Rattle.definitions.proofs.Sums.{unit_at_within, sum_of_units}
use Rattle.eating_laws.proofs.Full.{cells_at}
use Rattle.definitions.proofs.Problems.{agent_of, list_lawful}
use Rattle.eating_laws.proofs.Limits.{agent_count, demand_total}
use Rattle.eating_laws.proofs.Assignment.{eating_assigns}
use Rattle.eating.proofs.Counts.{limits_few}
use Rattle.eating.specs.Caps.{caps_before}
use Rattle.eating.specs.Plan.{LineValue, IsSmall, AreLinesOf}
use Rattle.eating.specs.Serving.{AreListsWithin, IsServed, IsUncappedOffLists}
use Rattle.eating.specs.Eaten.{EatenValue, IsEatenValue}
use Rattle.eating.specs.Answers.{IsEatenBy, cap_at}
use Rattle.eating.proofs.Capped.{cap_found, IsCapAt}
use Rattle.eating.proofs.Counts.{capped_length, capped_ones}
use Rattle.definitions.proofs.Families.{stated_count}

module _ (p : ProblemValue) (h : IsProblem p) where
  abbrev stated_limits : List Limit
  stated_limits = map (λ (s : SetValue). record { ceiling = s.ceiling; cells = s.cells }) (stated_sets p)

  capped_ceiling : (k : ℕ) (d : Limit) → k < length (capped_limits 0 (market_of p).agents) → (get_or (capped_limits 0 (market_of p).agents) k d).ceiling ≤ 1000
  capped_ceiling k d l =
      let xs = capped_limits 0 (market_of p).agents in
      let read = sym (get_or-map (λ (s : Limit). s.ceiling) xs k d 0 l) ∙ ap (λ ys. get_or ys k 0) (capped_ones 0 (market_of p).agents)
      ∙ get_or-replicate (caps_before (market_of p).agents) k 1 0 (omega (arith, l, capped_length 0 (market_of p).agents)) in
      omega (arith, read)

  -- no ceiling and no sum of demands is large
  pub problem_small : IsSmall (market_of p)
  problem_small = record {
    few = (let few = limits_few p h in omega (arith, few));
    ceilings = All-append (λ s. s.ceiling ≤ 1000) stated_limits (capped_limits 0 (market_of p).agents)
        (All-map (λ (s : Limit). s.ceiling ≤ 1000) (λ (s : SetValue). record { ceiling = s.ceiling; cells = s.cells }) (stated_sets p)
        (All-weaker IsQuotaSet (λ s. s.ceiling ≤ 1000) (λ s q. q.limit) (stated_sets p) (All-take IsQuotaSet p.stated p.family.sets h.family.lawful)))
        capped_ceiling;
    demands = (let total = demand_total p h in let few = h.demands_limit in omega (arith, total, few));
  }

  -- the limits after the stated sets are those of the capped cells
  pub capped_part : drop p.stated (limits_of p) ≡ capped_limits 0 (market_of p).agents
  capped_part = drop_at stated_limits (capped_limits 0 (market_of p).agents) p.stated (length-map (stated_sets p) (λ (s : SetValue). record { ceiling = s.ceiling; cells = s.cells }) ∙ stated_count p h)

  cells_read : (xs : List Limit) (k : ℕ) (d : Limit) → k < length xs → cells_at xs k ≡ (get_or xs k d).cells
  cells_read xs k d l = ap (λ (o : Option Limit). option_map_or (λ (s : Limit). s.cells) o []) (slice_get-get_or xs k d l)

  pub off_lists : IsUncappedOffLists (market_of p) p.stated
  off_lists i a w agent off = subst (All (λ s. holds s.cells (cell_of i a) ≡ false)) (sym capped_part)
      (λ k d l. false_from_ne_true (holds (get_or (capped_limits 0 (market_of p).agents) k d).cells (cell_of i a)) (λ held.
      listed (cap_found 0 i (market_of p).agents w k a agent
      (subst (λ n. holds (cells_at (capped_limits 0 (market_of p).agents) k) (cell_of n a) ≡ true) (let z : i ≡ 0 + i = omega arith in z)
      (ap (λ c. holds c (cell_of i a)) (cells_read (capped_limits 0 (market_of p).agents) k d l) ∙ held)))))
    where
      short : (b : Bool) (n : ℕ) → cond b (n - 1) 0 ≤ n
      short true n = omega arith
      short false n = omega arith

      listed : {start k : ℕ} → IsCapAt w start k a → ⊥
      listed {start} {k} at =
          let inside : k - start < length w.list = (let l = at.inside in omega (arith, l, short (nat_le 2 w.demand) (length w.list))) in
          both_ways (is_member nat_eq w.list a) off (subst (λ x. is_member nat_eq w.list x ≡ true) at.column (member_at nat_eq number_test w.list (k - start) 0 inside))

  agent_is : (i : ℕ) (w : Agent) → slice_get (market_of p).agents i ≡ Some w → (i < length p.agents) × (w.list ≡ list_at p i)
  agent_is i w e =
      let inside : i < length p.agents = (let l = slice_get_within (market_of p).agents i w e in omega (arith, l, agent_count p h)) in
      (inside, ap (λ (v : Agent). v.list) (same_Some w (record { demand = demand_at p i; list = list_at p i }) (sym e ∙ agent_of p i h inside)))

  pub problem_served : (lines : List LineValue) (e : List ℕ) → AreLinesOf (market_of p) lines → length e ≡ length (limits_of p) → IsServed (market_of p) lines e
  problem_served lines e are many = record {
    lines_of = are;
    apart = λ i w at. (let a = agent_is i w at in subst (IsDistinct nat_eq) (sym a.1) (list_lawful p i h a.0).apart);
    many = many;
  }

  pub lists_within : (lines : List LineValue) → AreLinesOf (market_of p) lines → AreListsWithin (column_count p) lines
  lists_within lines are i line at =
      let inside : i < length p.agents = (let l = slice_get_within lines i line at in omega (arith, l, are.many, agent_count p h)) in
      let known = agent_of p i h inside in
      let is = (are.each i (record { demand = demand_at p i; list = list_at p i }) line known at).columns in
      subst (All (λ a. a < column_count p)) (sym is) (λ k d l. (let low = (list_lawful p i h inside).known k d l in omega arith))

  rows_sum : (f : Cell → ℕ) (columns d s : ℕ) (demands : List ℕ) → ((k : ℕ) → k < length demands → row_sum f columns (s + k) ≡ get_or demands k 0 * d)
      → sum_by f (flat_map (row_cells columns) (range_with_len s (length demands))) ≡ sum demands * d
  rows_sum f columns d s [] rows = omega arith
  rows_sum f columns d s (x ∷ demands) rows =
      let first : row_sum f columns s ≡ x * d = ap (row_sum f columns) (let z : s ≡ s + 0 = omega arith in z) ∙ rows 0 (omega arith) in
      let rest = rows_sum f columns d (s + 1) demands (λ k l. ap (row_sum f columns) (let z : s + 1 + k ≡ s + suc k = omega arith in z) ∙ rows (suc k) (omega arith)) in
      sum_by-append f (row_cells columns s) (flat_map (row_cells columns) (range_with_len (s + 1) (length demands)))
      ∙ (let more = add-mul x (sum demands) d in let head = sum_by-cons (λ (n : ℕ). n) x demands in
      let whole : sum (x ∷ demands) * d ≡ (x + sum demands) * d = ap (λ n. n * d) head in omega (arith, first, rest, more, whole))

  module _ (D : ℕ) (e units caps : List ℕ) (table : IsEatingTable (market_of p) D e) (lowest : IsLowestTerms D e) (fine : D ≤ 2 ^ 116)
      (many : length units ≡ length p.agents * column_count p) (many_caps : length caps ≡ length p.agents * column_count p)
      (shares : (i a : ℕ) → i < length p.agents → a < column_count p → slice_index units (i * column_count p + a) ≡ share (market_of p) D e i a)
      (own : (i a : ℕ) → i < length p.agents → a < column_count p → slice_index caps (i * column_count p + a) ≡ full_at D (drop p.stated (limits_of p)) (drop p.stated e) i a) where
    abbrev pub matrix_of : ScaledValue
    matrix_of = record { denominator = D; agents = length p.agents; columns = column_count p; units = units }

    assigned : IsAssignmentOf (column_count p) (market_of p) D e matrix_of
    assigned = record {
      agents = sym (agent_count p h);
      columns = refl;
      shape = many;
      denominator = refl;
      units = λ i a l m. unit_at_within (column_count p) units (cell_of i a) m ∙ shares i a l m;
    }

    pub matrix_lawful : IsScaledMatrix matrix_of
    matrix_lawful = record {
      one = (let one : 1 ≤ D = table.positive in omega arith);
      limit = fine;
      shape = many;
      total = (let rows = (eating_assigns p matrix_of e h table assigned).rows in
          let agents : length p.demands ≡ length p.agents = h.demands_many in
          let whole : sum_by (unit_at (column_count p) units) (all_cells (length p.agents) (column_count p)) ≡ sum p.demands * D =
          ap (λ n. sum_by (unit_at (column_count p) units) (flat_map (row_cells (column_count p)) (range_with_len 0 n))) (sym agents)
          ∙ rows_sum (unit_at (column_count p) units) (column_count p) D 0 p.demands (λ k l. ap (row_sum (unit_at (column_count p) units) (column_count p)) (let z : 0 + k ≡ k = omega arith in z) ∙ rows k (omega (arith, l, agents))) in
          let few : sum p.demands * D ≤ 1000 * D = mul-le-mul_right D h.demands_limit in
          omega (arith, sum_of_units (length p.agents) (column_count p) units many, whole, few));
    }

    abbrev pub value_of : EatenValue
    value_of = record { moments = take p.stated e; shares = matrix_of; caps = caps }

    at_caps : (i a : ℕ) → i < length p.agents → a < column_count p → unit_at (column_count p) caps (cell_of i a) ≡ cap_at p D e i a
    at_caps i a l m = unit_at_within (column_count p) caps (cell_of i a) m ∙ own i a l m ∙ ap (λ limits. full_at D limits (drop p.stated e) i a) capped_part

    -- what is handed out is what is eaten
    pub value_eaten : IsEatenBy p e value_of
    value_eaten = record {
      table = table;
      lowest = lowest;
      within = fine;
      moments = refl;
      shares = assigned;
      caps = record { many = many_caps; each = at_caps };
    }

    -- and is lawful
    pub value_lawful : ((n : ℕ) → n < length caps → slice_index caps n ≤ D) → IsEatenValue value_of
    value_lawful within = record {
      matrix = matrix_lawful;
      moments_within = λ k d l. (let inside : k < length e = omega (arith, l, length-take p.stated e) in
          let first : k < p.stated = omega (arith, l, length-take p.stated e) in
          let low = table.within k inside in
          omega (arith, low, get_or-take p.stated e k d first, get_or_default e k d 0 inside));
      caps_many = many_caps;
      caps_within = λ k d l. (let low = within k l in omega (arith, low, get_or_default caps k d 0 l));
    }
