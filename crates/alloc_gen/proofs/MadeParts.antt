-- What is made is what a problem is made of.
use Rattle.std.proofs.Common.{◌≡◌, ℕ, ◌+◌, ◌*◌, ◌<◌, ◌≤◌, ◌∙◌, List, true, All, length, get_or, codes, replicate, ap, sym, refl, subst, arith, length-append}
use Rattle.std.specs.Int.{div_ceil}
use Rattle.std.specs.List.{Any, range_with_len}
use Rattle.std.proofs.lemmas.List.{get_or_append_left}
use Rattle.std.proofs.lemmas.List.Elements.{All-append, All-map}
use Rattle.std.proofs.lemmas.List.FromFn.{length-map-range_with_len, get_or-map-range_with_len}
use Rattle.std.proofs.lemmas.List.Sums.{sum_by-append}
use Rattle.std.proofs.lemmas.Nat.{mul-le}
use Rattle.definitions.specs.Sets.{SetValue, cell_of, cells_in, holds}
use Rattle.definitions.specs.Values.{HoldsColumn, IsStatedSet}
use Rattle.quota_sets.specs.Parts.{AreProblemParts, problem_from}
use Rattle.alloc_gen.specs.Made.{made_family, made_name, made_names, made_problem}
use Rattle.alloc_gen.specs.MadeLists.{made_lists}
use Rattle.alloc_gen.specs.MadeSets.{column_ceiling, column_cells, column_set, half_ceiling, half_set, made_sets}
use Rattle.alloc_gen.proofs.Columns.{cell_held, part_is_stated}
use Rattle.alloc_gen.proofs.LawfulLists.{length-made_lists, made_lists_lawful, range_below}
use Rattle.alloc_gen.proofs.PartsInOrder.{cells_in-parts, length-parts, parts}

pub length-made_names : (letter : List ℕ) (count : ℕ) → length (made_names letter count) ≡ count
length-made_names letter count = length-map-range_with_len (made_name letter) 0 count

module _ (n m : ℕ) where
  abbrev wholes : List SetValue
  wholes = parts n 1 (column_ceiling n m) m

  abbrev halves : List SetValue
  halves = parts (div_ceil n 2) 2 (half_ceiling n m) m

  pub length-made_sets : length (made_sets n m) ≡ 2 * m
  unfolding made_sets
  length-made_sets =
      omega (arith, length-append wholes halves, length-parts n 1 (column_ceiling n m) m, length-parts (div_ceil n 2) 2 (half_ceiling n m) m)

  few_cells : n ≤ 1000 → m ≤ 200 → cells_in (made_sets n m) ≤ 1000000
  unfolding made_sets
  few_cells few narrow =
      let whole : m * n ≤ 200 * 1000 = mul-le m n 200 1000 narrow few in
      let half : m * div_ceil n 2 ≤ 200 * 1000 = mul-le m (div_ceil n 2) 200 1000 narrow (omega arith) in
      omega (arith, sum_by-append (λ (s : SetValue). length s.cells) wholes halves, cells_in-parts n 1 (column_ceiling n m) m, cells_in-parts (div_ceil n 2) 2 (half_ceiling n m) m, whole, half)

  sets_stated : All (IsStatedSet m) (made_sets n m)
  unfolding made_sets
  sets_stated =
      All-append (IsStatedSet m) wholes halves
      (All-map (IsStatedSet m) (column_set n m) (range_with_len 0 m) (λ k d l. part_is_stated n 1 (column_ceiling n m) (get_or (range_with_len 0 m) k d) m (range_below m k d l)))
      (All-map (IsStatedSet m) (half_set n m) (range_with_len 0 m) (λ k d l. part_is_stated (div_ceil n 2) 2 (half_ceiling n m) (get_or (range_with_len 0 m) k d) m (range_below m k d l)))

  -- each column is a stated set
  column_stated : (a : ℕ) → a < m → Any (HoldsColumn n a) (made_sets n m)
  unfolding made_sets
  column_stated a within =
      let many = length-parts n 1 (column_ceiling n m) m in
      let plain : 0 + a ≡ a = omega arith in
      let column : SetValue = column_set n m a in
      let at : get_or (made_sets n m) a column ≡ column = get_or_append_left wholes halves column a (omega arith) ∙ get_or-map-range_with_len (column_set n m) 0 m a a column within plain in
      (a, column, omega (arith, length-made_sets), at, λ i inside. (let one : 1 * i ≡ i = omega arith in subst (λ j. holds (column_cells n 1 a) (cell_of j a) ≡ true) one (cell_held n 1 a i inside)))

  pub parts_are_lawful : (word : ℕ → ℕ) → 1 ≤ n → n ≤ 1000 → m ≤ 200
      → AreProblemParts (made_names (codes "p") n) (made_names (codes "s") m) (made_lists word n m) (made_family n m)
  parts_are_lawful word some few narrow =
      let agents = length-made_names (codes "p") n in
      let objects = length-made_names (codes "s") m in
      record {
        agents_some = omega arith;
        agents_limit = omega arith;
        objects_limit = omega arith;
        lists_many = length-made_lists word n m ∙ sym agents;
        lawful_lists = rw objects (made_lists_lawful word n m);
        stated_agents = sym agents;
        stated_columns = ap (λ k. k + 1) (sym objects);
        stated_limit = omega (arith, length-made_sets);
        stated_cells = few_cells few narrow;
        stated_lawful = rw objects sets_stated;
        columns_stated = λ a within. rw agents (column_stated a (omega arith));
      }

  -- the problem of these parts is the made one
  pub made_from_parts : (word : ℕ → ℕ) → problem_from (made_names (codes "p") n) (made_names (codes "s") m) (made_lists word n m) (replicate (length (made_names (codes "p") n)) 1) (made_family n m) ≡ made_problem word n m
  unfolding made_problem
  made_from_parts word = rw (length-made_names (codes "p") n, length-made_names (codes "s") m, length-made_sets) refl
