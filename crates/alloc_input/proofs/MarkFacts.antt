-- A set of cells grows, one row and one agent after another.
use Rattle.std.proofs.Common.{◌≡◌, ◌∙◌, ◌+◌, ◌<◌, ◌≤◌, ◌*◌, ◌++◌, ◌∷◌, [], ℕ, List, Some, None, Result, length, refl, sym, ap, map, filter, get_or, take, drop, arith}
use Rattle.std.specs.Prelude.{nat_le}
use Rattle.std.proofs.lemmas.Bool.{le-leb, lt-leb}
use Rattle.std.proofs.lemmas.List.{take_more, take_all, take-append-drop}
use Rattle.definitions.specs.declared.Cell.{Cell}
use Rattle.definitions.specs.Sets.{cell_of, all_cells}
use Rattle.alloc_input.specs.Cells.{with_rectangle}
use Rattle.alloc_input.specs.Checks.{Checks, need}
use Rattle.alloc_input.specs.Marked.{AreRows, IsGrown, row_of, cells_in_rows, marked_cells}
use Rattle.alloc_input.specs.Numbers.{AreNumbersBelow}
use Rattle.alloc_input.specs.declared.quotas.marks.Marks.{Marks}
use Rattle.alloc_input.specs.declared.faults.InputKind.{InputKind}
use Rattle.alloc_input.specs.declared.faults.InputKind.TheVariants as kind
use Rattle.alloc_input.specs.declared.faults.Stop.{Stop}
use Rattle.alloc_input.proofs.Stops.{checks_along}
use Rattle.alloc_input.proofs.CellFacts.{in_rows_test, rectangle-none, rectangle-more, rectangle_le, rectangle-full, one_row, row-picked, count_is, cells-push, rows-push}

pub need-le : (n most : ℕ) (k : InputKind) → n ≤ most → need (nat_le n most) k ≡ None
need-le n most k l = rw (le-leb n most l) refl

pub need-gt : (n most : ℕ) (k : InputKind) → most < n → need (nat_le n most) k ≡ Some k
need-gt n most k l = rw (lt-leb n most l) refl

-- one more empty row
pub cells-after : (m n : ℕ) (rows rows2 : List (List ℕ)) → rows2 ≡ rows ++ [] ∷ [] → cells_in_rows m n rows2 ≡ cells_in_rows m n rows
cells-after m n rows rows2 e = rw e (cells-push m n rows)

pub rows-after : (m n : ℕ) (rows rows2 : List (List ℕ)) (count : ℕ) → rows2 ≡ rows ++ [] ∷ [] → length rows < m → AreRows m n rows count → AreRows m n rows2 count
rows-after m n rows rows2 count e l s = rw e (rows-push m n rows count l s)

-- one more row in a list of cells
pub cells-none : (n : ℕ) (rows : List (List ℕ)) → [] ≡ cells_in_rows 0 n rows
unfolding cells_in_rows
cells-none n rows = refl

pub cells-more : (i n : ℕ) (rows : List (List ℕ)) (cells cells2 : List Cell) → AreNumbersBelow n (row_of rows i) → cells ≡ cells_in_rows i n rows → cells2 ≡ cells ++ map (cell_of i) (row_of rows i)
    → cells2 ≡ cells_in_rows (i + 1) n rows
unfolding cells_in_rows
cells-more i n rows cells cells2 b e f =
    f ∙ ap (λ cs. cs ++ map (cell_of i) (row_of rows i)) e
    ∙ ap (λ cs. filter (in_rows_test rows) (all_cells i n) ++ cs) (sym (row-picked rows i n b))
    ∙ sym (one_row (in_rows_test rows) i n)

module _ (m n : ℕ) (rows : List (List ℕ)) (columns : List ℕ) where
  -- before the first agent
  pub rectangle-start : cells_in_rows m n rows ≡ with_rectangle m n [] columns (cells_in_rows m n rows)
  unfolding cells_in_rows
  rectangle-start = sym (rectangle-none (in_rows_test rows) m n columns)

  -- one more agent
  pub rectangle-next : (m2 n2 i agent : ℕ) (agents : List ℕ) (cells cells2 : List Cell) → i < length agents → agent ≡ get_or agents i 0 → m2 ≡ m → n2 ≡ n
      → cells ≡ with_rectangle m n (take i agents) columns (cells_in_rows m n rows) → cells2 ≡ with_rectangle m2 n2 (agent ∷ []) columns cells
      → cells2 ≡ with_rectangle m n (take (i + 1) agents) columns (cells_in_rows m n rows)
  unfolding cells_in_rows
  rectangle-next m2 n2 i agent agents cells cells2 l a p q e f =
      f ∙ rw (p, q, e, a) (rectangle-more (in_rows_test rows) m n (take i agents) (get_or agents i 0 ∷ []) columns)
      ∙ ap (λ xs. with_rectangle m n xs columns (filter (in_rows_test rows) (all_cells m n))) (sym (take_more agents i 0 l))

  -- too many cells before the last agent are too many after it
  pub rectangle-over : (i count most : ℕ) (agents : List ℕ) (cells : List Cell) → cells ≡ with_rectangle m n (take i agents) columns (cells_in_rows m n rows) → count ≡ length cells → most < count
      → need (nat_le (length (with_rectangle m n agents columns (cells_in_rows m n rows))) most) kind.OverLimit ≡ Some kind.OverLimit
  unfolding cells_in_rows
  rectangle-over i count most agents cells e c l =
      let le = rectangle_le (in_rows_test rows) m n (take i agents) (drop i agents) columns in
      let more = rw (take-append-drop i agents) at le in
      let many = c ∙ ap length e in
      need-gt _ most kind.OverLimit (omega (arith, more, many))

  -- after the last agent
  pub rectangle-end : (i count most : ℕ) (agents : List ℕ) (cells : List Cell) → length agents ≤ i → cells ≡ with_rectangle m n (take i agents) columns (cells_in_rows m n rows) → count ≡ length cells → count ≤ most
      → (need (nat_le (length (with_rectangle m n agents columns (cells_in_rows m n rows))) most) kind.OverLimit ≡ None) × (cells ≡ with_rectangle m n agents columns (cells_in_rows m n rows))
  rectangle-end i count most agents cells l e c le =
      let all = rw (take_all i agents l) at e in
      let many = c ∙ ap length all in
      (need-le _ most kind.OverLimit (omega (arith, many)), all)

  -- a full set
  pub rectangle-all : (count most : ℕ) (agents : List ℕ) → AreRows m n rows count → count ≡ m * n → count ≤ most
      → (need (nat_le (length (with_rectangle m n agents columns (cells_in_rows m n rows))) most) kind.OverLimit ≡ None) × (cells_in_rows m n rows ≡ with_rectangle m n agents columns (cells_in_rows m n rows))
  unfolding cells_in_rows
  rectangle-all count most agents s e le =
      let many = count_is m n rows count s in
      let still = full agents (sym many ∙ e) in
      let same = many ∙ ap length (sym still) in
      (need-le _ most kind.OverLimit (omega (arith, same)), sym still)
    where
      full : (agents : List ℕ) → length (cells_in_rows m n rows) ≡ m * n → with_rectangle m n agents columns (cells_in_rows m n rows) ≡ cells_in_rows m n rows
      full agents e = rectangle-full (in_rows_test rows) m n agents columns e

-- a rectangle that is added to the same cells
pub marked_along : (r : Result (Unit {0}) Stop) (old filled new : Marks) (agents columns : List ℕ) (most : ℕ) → marked_cells filled ≡ marked_cells old → IsGrown old filled
    → Checks r (need (nat_le (length (with_rectangle filled.agents filled.columns agents columns (marked_cells filled))) most) kind.OverLimit)
    (λ _. (marked_cells new ≡ with_rectangle filled.agents filled.columns agents columns (marked_cells filled)) × IsGrown filled new)
    → Checks r (need (nat_le (length (with_rectangle old.agents old.columns agents columns (marked_cells old))) most) kind.OverLimit)
    (λ _. (marked_cells new ≡ with_rectangle old.agents old.columns agents columns (marked_cells old)) × IsGrown old new)
marked_along r old filled new agents columns most cells grown h =
    let same : with_rectangle filled.agents filled.columns agents columns (marked_cells filled) ≡ with_rectangle old.agents old.columns agents columns (marked_cells old) =
    ap (λ k. with_rectangle k filled.columns agents columns (marked_cells filled)) grown.1 ∙ ap (λ k. with_rectangle old.agents k agents columns (marked_cells filled)) grown.2
    ∙ ap (with_rectangle old.agents old.columns agents columns) cells in
    checks_along r _ _ _ _ (ap (λ cs. need (nat_le (length cs) most) kind.OverLimit) same) (λ x p. (p.0 ∙ same, (p.1.0, p.1.1 ∙ grown.1, p.1.2 ∙ grown.2))) h
