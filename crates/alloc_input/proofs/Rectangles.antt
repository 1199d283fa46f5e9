-- The cells of a rectangle that is added to a set.
use Rattle.std.proofs.Common.{◌≡◌, ◌∙◌, ◌<◌, ◌∷◌, ◌||◌, [], ℕ, List, Bool, true, false, All, refl, filter, get_or, arith}
use Rattle.std.specs.Prelude.{◌==◌}
use Rattle.std.proofs.lemmas.Bool.{or_left, or_right, and_from, eq-eqb}
use Rattle.std.proofs.lemmas.List.Elements.{All-filter}
use Rattle.definitions.specs.declared.Cell.{Cell}
use Rattle.definitions.specs.Sets.{cell_of, same_cell, holds, all_cells}
use Rattle.definitions.proofs.Members.{cell_test, member_at}
use Rattle.alloc_input.specs.Cells.{has_number, numbers_to, covers, with_rectangle}
use Rattle.definitions.proofs.Cells.{within_is_member, member_is_within}
use Rattle.alloc_input.proofs.CellFacts.{holds_filter}
use Rattle.alloc_input.proofs.NumberFacts.{has-range}

-- a cell of the matrix that passes is picked
picked : (m n : ℕ) (p : Cell → Bool) (i a : ℕ) → i < m → a < n → p (cell_of i a) ≡ true → holds (filter p (all_cells m n)) (cell_of i a) ≡ true
picked m n p i a l g e = holds_filter p (all_cells m n) (cell_of i a) ∙ and_from (holds (all_cells m n) (cell_of i a)) (p (cell_of i a)) (within_is_member m n (cell_of i a) (l, g)) e

-- all cells of a rectangle that is added have known columns
pub rectangle-within : (m n : ℕ) (rows columns : List ℕ) (cells : List Cell) → All (λ c. c.object < n) (with_rectangle m n rows columns cells)
unfolding with_rectangle
rectangle-within m n rows columns cells =
    All-filter (λ c. holds cells c || covers rows columns c) (λ (c : Cell). c.object < n) (all_cells m n)
    (λ k d l. (member_is_within m n (get_or (all_cells m n) k d) (member_at same_cell cell_test (all_cells m n) k d l)).1)

-- it keeps the cells of the matrix that were there
pub rectangle-keeps : (m n : ℕ) (rows columns : List ℕ) (cells : List Cell) (i a : ℕ) → i < m → a < n → holds cells (cell_of i a) ≡ true → holds (with_rectangle m n rows columns cells) (cell_of i a) ≡ true
unfolding with_rectangle
rectangle-keeps m n rows columns cells i a l g h =
    picked m n (λ c. holds cells c || covers rows columns c) i a l g (or_left (holds cells (cell_of i a)) (covers rows columns (cell_of i a)) h)

-- a whole column that is added is there
pub column-added : (m n a i : ℕ) (cells : List Cell) → i < m → a < n → holds (with_rectangle m n (numbers_to m) (a ∷ []) cells) (cell_of i a) ≡ true
unfolding with_rectangle
column-added m n a i cells l g =
    picked m n (λ c. holds cells c || covers (numbers_to m) (a ∷ []) c) i a l g
    (or_right (holds cells (cell_of i a)) (covers (numbers_to m) (a ∷ []) (cell_of i a))
    (and_from (has_number (numbers_to m) i) (has_number (a ∷ []) a) (has-range 0 m i (omega arith) (omega arith)) (or_left (a == a) false (eq-eqb a a refl))))
