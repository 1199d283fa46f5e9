-- Numbers and cells that grow by lists of numbers and by rectangles.
use Rattle.std.specs.Prelude.{◌==◌, ◌&&◌, ◌||◌, ℕ, Bool, List, filter}
use Rattle.std.specs.List.{list_any, range_with_len}
use Rattle.definitions.specs.declared.Cell.{Cell}
use Rattle.definitions.specs.Sets.{all_cells, holds}

-- the numbers below n, in order
abbrev pub numbers_to : ℕ → List ℕ
numbers_to n = range_with_len 0 n

-- the number is among these
abbrev pub has_number : List ℕ → ℕ → Bool
has_number xs k = list_any (λ x. x == k) xs

-- those of some numbers that are below n, each once, in rising order
abbrev pub distinct_below : ℕ → List ℕ → List ℕ
distinct_below n xs = filter (has_number xs) (numbers_to n)

-- a cell of these agents and columns
abbrev pub covers : List ℕ → List ℕ → Cell → Bool
covers agents columns c = has_number agents c.agent && has_number columns c.object

-- the cells of a set and those of a rectangle, each once, in rising order
unfoldable pub with_rectangle : ℕ → ℕ → List ℕ → List ℕ → List Cell → List Cell
with_rectangle m n agents columns cells = filter (λ c. holds cells c || covers agents columns c) (all_cells m n)
