-- Sets of one column: the cells that they hold, that they are lawful, and that none of two crosses the other.
use Rattle.std.proofs.Common.{◌≡◌, ℕ, ◌+◌, ◌*◌, ◌<◌, ◌≤◌, ◌⊎◌, ◌∙◌, true, false, List, length, get_or, ap, sym, refl, subst, inl, inr, arith}
use Rattle.std.specs.Int.{div_ceil}
use Rattle.std.specs.List.{range_with_len}
use Rattle.std.proofs.lemmas.Bool.{both_ways, cases_eq, false_from_ne_true}
use Rattle.std.proofs.lemmas.List.Elements.{All-map}
use Rattle.std.proofs.lemmas.List.Folds.{list_any_none}
use Rattle.std.proofs.lemmas.List.FromFn.{length-map-range_with_len, get_or-map-range_with_len}
use Rattle.std.proofs.Math.Nat.{mul-le-mul_left, mul-lt-mul_of_pos_left}
use Rattle.definitions.specs.declared.Cell.{Cell}
use Rattle.definitions.specs.Sets.{IsInRange, IsQuotaSet, cell_of, crosses, holds, is_subset, overlaps, same_cell}
use Rattle.definitions.specs.Values.{IsStatedSet}
use Rattle.definitions.proofs.Members.{all_from_members, cell_test, around_apart, crosses_self, member_at, member_place, within_apart}
use Rattle.alloc_gen.specs.MadeSets.{column_cells, column_part}

-- ---- the cells of a column

pub length-column_cells : (count step k : ℕ) → length (column_cells count step k) ≡ count
length-column_cells count step k = length-map-range_with_len (λ i. cell_of (step * i) k) 0 count

column_cell : (count step k i : ℕ) (d : Cell) → i < count → get_or (column_cells count step k) i d ≡ cell_of (step * i) k
column_cell count step k i d l = get_or-map-range_with_len (λ x. cell_of (step * x) k) 0 count i i d l (omega arith)

-- a cell that is held is that of a counted agent
cell_counted : (count step k : ℕ) (c : Cell) → holds (column_cells count step k) c ≡ true → (i : ℕ) × (i < count) × (cell_of (step * i) k ≡ c)
cell_counted count step k c m =
    let (i, l, e) = member_place same_cell cell_test c (column_cells count step k) m in
    let inside : i < count = omega (arith, l, length-column_cells count step k) in
    (i, inside, sym (column_cell count step k i c inside) ∙ e c)

-- and the other way round
pub cell_held : (count step k i : ℕ) → i < count → holds (column_cells count step k) (cell_of (step * i) k) ≡ true
cell_held count step k i l =
    subst (λ d. holds (column_cells count step k) d ≡ true) (column_cell count step k i (cell_of 0 k) l)
    (member_at same_cell cell_test (column_cells count step k) i (cell_of 0 k) (omega (arith, l, length-column_cells count step k)))

-- counted agents are below a number that their steps don't reach
agent_below : (agents count step i : ℕ) → step * count < agents + step → i < count → step * i < agents
agent_below agents count step i few l =
    let upto : step * (i + 1) ≤ step * count = mul-le-mul_left step (omega arith) in
    let next : step * (i + 1) ≡ step * i + step = grind arith in
    omega arith

-- ---- lawful sets

pub part_is_lawful : (count step ceiling k : ℕ) → 1 ≤ step → ceiling ≤ 1000 → IsQuotaSet (column_part count step ceiling k)
part_is_lawful count step ceiling k some few = record {
  side = inr refl;
  rise = λ i j d l m.
      let there : j < count = omega (arith, m, length-column_cells count step k) in
      rw (column_cell count step k i d (omega (arith, l, there)), column_cell count step k j d there) (inl (mul-lt-mul_of_pos_left l some));
  quotas = omega arith;
  limit = few;
}

pub part_is_inside : (agents columns count step ceiling k : ℕ) → step * count < agents + step → k < columns → IsInRange agents columns (column_part count step ceiling k)
part_is_inside agents columns count step ceiling k few within i d l =
    let inside : i < count = omega (arith, l, length-column_cells count step k) in
    rw (column_cell count step k i d inside) (agent_below agents count step i few inside, within)

pub part_is_stated : (count step ceiling k objects : ℕ) → k < objects → IsStatedSet objects (column_part count step ceiling k)
part_is_stated count step ceiling k objects within = record {
  side = refl;
  floor = refl;
  objects = λ i d l. rw (column_cell count step k i d (omega (arith, l, length-column_cells count step k))) within;
}

-- ---- sets that don't cross

-- two columns have no common cell
columns_apart : (count step k many wide l : ℕ) → (k ≡ l → ⊥) → overlaps (column_cells count step k) (column_cells many wide l) ≡ false
columns_apart count step k many wide l differ =
    list_any_none (holds (column_cells many wide l)) (column_cells count step k)
    (All-map (λ c. holds (column_cells many wide l) c ≡ false) (λ i. cell_of (step * i) k) (range_with_len 0 count) (λ i d within.
    false_from_ne_true _ (λ held.
    (let (j, m, e) = cell_counted many wide l _ held in differ (sym (ap (λ (c : Cell). c.object) e))))))

-- every step-th cell of a column lies within the column
part_within : (agents count step k : ℕ) → step * count < agents + step → is_subset (column_cells count step k) (column_cells agents 1 k) ≡ true
part_within agents count step k few = all_from_members same_cell cell_test (holds (column_cells agents 1 k)) (column_cells count step k) (λ c m.
    let (i, l, e) = cell_counted count step k c m in
    let plain : 1 * (step * i) ≡ step * i = omega arith in
    subst (λ d. holds (column_cells agents 1 k) d ≡ true) (ap (λ j. cell_of j k) plain ∙ e) (cell_held agents 1 k (step * i) (agent_below agents count step i few l)))

-- the whole column k of n agents, or every second cell of it
abbrev pub IsOf : ℕ → ℕ → List Cell → Type 0
IsOf n k cells = (cells ≡ column_cells n 1 k) ⊎ (cells ≡ column_cells (div_ceil n 2) 2 k)

half_within : (n k : ℕ) → is_subset (column_cells (div_ceil n 2) 2 k) (column_cells n 1 k) ≡ true
half_within n k = part_within n (div_ceil n 2) 2 k (omega arith)

one_column : (n k : ℕ) (a b : List Cell) → IsOf n k a → IsOf n k b → crosses a b ≡ true → ⊥
one_column n k a b (inl e) (inl f) cross = both_ways _ (crosses_self b) (rw (e ∙ sym f) at cross)
one_column n k a b (inl e) (inr f) cross = both_ways _ (around_apart a b (rw (e, f) (half_within n k))) cross
one_column n k a b (inr e) (inl f) cross = both_ways _ (within_apart a b (rw (e, f) (half_within n k))) cross
one_column n k a b (inr e) (inr f) cross = both_ways _ (crosses_self b) (rw (e ∙ sym f) at cross)

two_columns : (n k l : ℕ) (a b : List Cell) → (k ≡ l → ⊥) → IsOf n k a → IsOf n l b → overlaps a b ≡ false
two_columns n k l a b differ (inl e) (inl f) = rw (e, f) (columns_apart n 1 k n 1 l differ)
two_columns n k l a b differ (inl e) (inr f) = rw (e, f) (columns_apart n 1 k (div_ceil n 2) 2 l differ)
two_columns n k l a b differ (inr e) (inl f) = rw (e, f) (columns_apart (div_ceil n 2) 2 k n 1 l differ)
two_columns n k l a b differ (inr e) (inr f) = rw (e, f) (columns_apart (div_ceil n 2) 2 k (div_ceil n 2) 2 l differ)

-- so none of these cross
pub columns_dont_cross : (n k l : ℕ) (a b : List Cell) → IsOf n k a → IsOf n l b → crosses a b ≡ true → ⊥
columns_dont_cross n k l a b first second cross = elim (cases_eq k l) [
  | inl same ↦ one_column n k a b first (subst (λ j. IsOf n j b) (sym same) second) cross
  | inr differ ↦ both_ways _ refl (rw (two_columns n k l a b differ first second) at cross)
]
