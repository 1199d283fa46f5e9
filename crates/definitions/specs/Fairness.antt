-- Envy among alike agents, and the sets that bound how much two pieces differ for one agent.
-- No envy: Bogomolnaia and Moulin 2001. The utility guard: Budish, Che, Kojima and Milgrom 2013.
use Rattle.std.specs.Prelude.{◌≡◌, ℕ, ◌+◌, ◌-◌, ◌/◌, ◌<◌, ◌≤◌, ◌++◌, length, map, take, filter, All, nat_eq, flat_map}
use Rattle.std.specs.List.{range_with_len}
use Rattle.std.specs.Set.{is_member}
use Rattle.definitions.specs.declared.Cell.{Cell}
use Rattle.definitions.specs.Sets.{cell_of, holds, prefix_sum, row_cells, SetValue, FamilyValue, ScaledValue, units_of}
use Rattle.definitions.specs.Values.{ProblemValue, list_at, demand_at, limits_of, column_count}

-- agents i and j are alike: equal demands, and each limit of the problem holds the one's cell of an object exactly where it holds the other's
pub record IsAlike (p : ProblemValue) (i j : ℕ) : Type 0 where
  pub demands : demand_at p i ≡ demand_at p j
  pub sets : All (λ s. (a : ℕ) → a < length p.objects → holds s.cells (cell_of i a) ≡ holds s.cells (cell_of j a)) (limits_of p)

-- agent i envies j: for some k, j has more than i of the columns at the first k places of i's list
abbrev pub Envies : ProblemValue → (Cell → ℕ) → ℕ → ℕ → Type 0
Envies p x i j = (k : ℕ) × (k ≤ length (list_at p i)) × (prefix_sum x i (list_at p i) k < prefix_sum x j (list_at p i) k)

-- the cells of the first k places of agent i's list as a set of side 1, with its own sum over D, rounded down and up, as quotas
abbrev pub prefix_set : ProblemValue → ScaledValue → ℕ → ℕ → SetValue
prefix_set p x i k = record {
  side = 1;
  floor = prefix_sum (units_of x) i (list_at p i) k / x.denominator;
  ceiling = (prefix_sum (units_of x) i (list_at p i) k + x.denominator - 1) / x.denominator;
  cells = filter (λ c. is_member nat_eq (take k (list_at p i)) c.object) (row_cells (column_count p) i);
}

-- the family, and then the sets of all agents' first places, by agent and then number of places
abbrev pub guarded_family : ProblemValue → ScaledValue → FamilyValue
guarded_family p x = record p.family {
  sets = p.family.sets ++ flat_map (λ i. map (prefix_set p x i) (range_with_len 1 (length (list_at p i)))) (range_with_len 0 (length p.lists));
}
