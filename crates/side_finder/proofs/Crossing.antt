-- The graph that the rows of overlaps make.
use Rattle.std.proofs.Common.{◌≡◌, ℕ, ◌+◌, ◌*◌, ◌<◌, ◌≤◌, ◌∙◌, List, [], ◌∷◌, ◌++◌, Vec, Global, map, Bool, not, ◌&&◌, length, get_or, sym, ap, ap₂, subst, inl, inr, arith}
use Rattle.std.specs.Prelude.{◌/◌, ◌%◌}
use Rattle.std.proofs.lemmas.Bool.{cases_lt}
use Rattle.std.proofs.lemmas.List.{get_or-map, get_or_append_left, get_or_push, length-map}
use Rattle.std.proofs.lemmas.List.Elements.{All-from_get_or}
use Rattle.definitions.specs.Sets.{FamilyValue, IsFamily, IsSet, SetValue, cells_of, crosses, is_subset, overlaps, set_cells}
use Rattle.definitions.proofs.Members.{crosses_turned}
use Rattle.side_laws.proofs.Order.{set_distinct}
use Rattle.side_finder.specs.declared.overlaps.Overlap.{Overlap}
use Rattle.side_finder.specs.Blocks.{AreOverlaps, IsOverlap, has_bit}
use Rattle.side_finder.specs.Graphs.{AreRows, GraphValue, IsCrossingGraph, IsGraphOf, joined, overlap_at}

-- one more row
pub rows_more : (f : FamilyValue) (block : ℕ) (rows : List (List Overlap)) (row : List Overlap) → length rows ≡ block
    → ((k : ℕ) → k < block → AreOverlaps f k (length f.sets) (get_or rows k [])) → AreOverlaps f block (length f.sets) row
    → (k : ℕ) → k < block + 1 → AreOverlaps f k (length f.sets) (get_or (rows ++ row ∷ []) k [])
rows_more f block rows row many h here k l = elim (cases_lt k block) [
  | inl before ↦ subst (λ (x : List Overlap). AreOverlaps f k (length f.sets) x) (sym (get_or_append_left rows (row ∷ []) [] k (omega (arith, before, many)))) (h k before)
  | inr from ↦
      let e : k ≡ block = omega (arith, l, from) in
      subst (λ (i : ℕ). AreOverlaps f i (length f.sets) (get_or (rows ++ row ∷ []) i [])) (sym e)
      (subst (λ (x : List Overlap). AreOverlaps f block (length f.sets) x) (sym (get_or_push rows row [] block many)) here)
]

module _ (f : FamilyValue) (lawful : IsFamily f) (rows : List (List Overlap)) (count : ℕ) (many : length rows ≡ count) (enough : length f.sets ≤ 64 * count)
    (h : (k : ℕ) → k < count → AreOverlaps f k (length f.sets) (get_or rows k [])) where
  abbrev graph : GraphValue
  graph = record { size = length f.sets; rows = rows }

  pub are_rows : AreRows (length f.sets) rows
  are_rows = record {
    many = omega (arith, many, enough);
    wide = All-from_get_or (λ (row : List Overlap). length row ≡ length f.sets) rows [] (λ k l. (h k (omega (arith, l, many))).many);
  }

  overlap_of : (a b : ℕ) → a < length f.sets → b < length f.sets → IsOverlap f (b / 64) (a + 1) (overlap_at rows (b / 64) a)
  overlap_of a b first second = (h (b / 64) (omega (arith, second, enough))).right a first

  number : (b : ℕ) → 64 * (b / 64) + b % 64 + 1 ≡ b + 1
  number b = omega arith

  shares : (a b : ℕ) → a < length f.sets → b < length f.sets → has_bit (overlap_at rows (b / 64) a).sharing (b % 64) ≡ overlaps (set_cells f (a + 1)) (set_cells f (b + 1))
  shares a b first second = (overlap_of a b first second).sharing (b % 64) (omega arith) ∙ ap (λ (s : ℕ). overlaps (set_cells f (a + 1)) (set_cells f s)) (number b)

  contains : (a b : ℕ) → a < length f.sets → b < length f.sets → has_bit (overlap_at rows (b / 64) a).containing (b % 64) ≡ is_subset (set_cells f (a + 1)) (set_cells f (b + 1))
  contains a b first second = (overlap_of a b first second).containing (b % 64) (omega arith) ∙ ap (λ (s : ℕ). is_subset (set_cells f (a + 1)) (set_cells f s)) (number b)

  right : (a b : ℕ) → a < length f.sets → b < length f.sets → joined graph a b ≡ crosses (set_cells f (a + 1)) (set_cells f (b + 1))
  unfolding joined
  right a b first second =
      let x = shares a b first second in
      let y = contains a b first second in
      let z = contains b a second first in
      ap₂ (λ (s t : Bool). s && (not t && not (has_bit (overlap_at rows (a / 64) b).containing (a % 64)))) x y
      ∙ ap (λ (t : Bool). overlaps (set_cells f (a + 1)) (set_cells f (b + 1)) && (not (is_subset (set_cells f (a + 1)) (set_cells f (b + 1))) && not t)) z

  pub is_graph : IsGraphOf (cells_of f) graph
  is_graph = record { many = sym (length-map f.sets (λ (q : SetValue). q.cells)); right = right }

  known : (a : ℕ) → a < length f.sets → IsSet f (a + 1)
  known a l = (omega arith, omega (arith, l))

  pub is_crossing : IsCrossingGraph graph
  is_crossing = record {
    few = lawful.sets_limit;
    turned = λ a b first second j.
        right b a second first
        ∙ crosses_turned (set_cells f (b + 1)) (set_cells f (a + 1)) (set_distinct f lawful.lawful (b + 1) (known b second)) (set_distinct f lawful.lawful (a + 1) (known a first))
        ∙ sym (right a b first second) ∙ j;
  }

abbrev pub rows_of : List (Vec Overlap Global) → List (List Overlap)
rows_of blocks = map (λ row. row.items) blocks

-- the row that is read
module _ (g : GraphValue) (sets : ℕ) (blocks : List (Vec Overlap Global)) (view : record { size = sets; rows = rows_of blocks } ≡ g)
    (h : AreRows sets (rows_of blocks)) (other : ℕ) (known : other < g.size) (v : Vec Overlap Global) (is : v ≡ get_or blocks (other / 64) v) where
  inside : other / 64 < length blocks
  inside =
      let size : sets ≡ g.size = ap (λ (x : GraphValue). x.size) view in
      let count = length-map blocks (λ (row : Vec Overlap Global). row.items) in
      let many = h.many in
      omega (arith, size, count, many, known)

  row_is : get_or (rows_of blocks) (other / 64) [] ≡ v.items
  row_is = get_or-map (λ (row : Vec Overlap Global). row.items) blocks (other / 64) v [] inside ∙ ap (λ (row : Vec Overlap Global). row.items) (sym is)

  pub row_read : get_or g.rows (other / 64) [] ≡ v.items
  row_read = ap (λ (x : GraphValue). get_or x.rows (other / 64) []) (sym view) ∙ row_is

  pub row_wide : length v.items ≡ g.size
  row_wide =
      let count = length-map blocks (λ (row : Vec Overlap Global). row.items) in
      ap (λ (xs : List Overlap). length xs) (sym row_is) ∙ h.wide (other / 64) [] (omega (arith, inside, count)) ∙ ap (λ (x : GraphValue). x.size) view
