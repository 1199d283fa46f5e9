-- The cells of a matrix, row by row: which they are, that none stands there twice, how many they are, and where each stands.
use Rattle.std.proofs.Common.{◌≡◌, ℕ, zero, suc, ◌+◌, ◌*◌, ◌<◌, ◌≤◌, ◌∙◌, List, [], ◌∷◌, ◌++◌, map, length, get_or, Bool, true, false, ◌||◌, ◌&&◌, refl, sym, ap, arith, length-append}
use Rattle.std.specs.Prelude.{nat_eq, ◌==◌, flat_map}
use Rattle.std.specs.List.{AllByRecursion, IsDistinct, range_with_len}
use Rattle.std.specs.Set.{is_member}
use Rattle.std.proofs.lemmas.Bool.{and_parts, and_from, and_right, eqb-true}
use Rattle.std.proofs.lemmas.Nat.{mul-le}
use Rattle.std.proofs.lemmas.List.{get_or_append_left, get_or-append-add}
use Rattle.std.proofs.lemmas.List.Elements.{recursion_from_All}
use Rattle.std.proofs.lemmas.List.FromFn.{length-map-range_with_len, get_or-map-range_with_len}
use Rattle.definitions.specs.declared.Cell.{Cell}
use Rattle.definitions.specs.Sets.{cell_of, same_cell, holds, row_cells, all_cells, IsCellWithin}
use Rattle.definitions.proofs.Members.{cell_test, distinct_first, distinct_rest, distinct_none, distinct_more, member_at, member_append, distinct_append}
use Rattle.definitions.proofs.Ranges.{member_of_range, range_of_member, distinct_range}

and_or : (a b c : Bool) → ((a && b) || (a && c)) ≡ (a && (b || c))
and_or true b c = refl
and_or false b c = refl

or_and : (a b c : Bool) → ((a && c) || (b && c)) ≡ ((a || b) && c)
or_and true true true = refl
or_and true true false = refl
or_and true false true = refl
or_and true false false = refl
or_and false b c = refl

-- a cell is on an agent's row of these columns exactly where it is the agent's and its column is one of them
pub row_member : (i : ℕ) (list : List ℕ) (c : Cell) → holds (map (cell_of i) list) c ≡ (nat_eq c.agent i && is_member nat_eq list c.object)
row_member i [] c = sym (and_right (nat_eq c.agent i) false refl)
row_member i (a ∷ list) c =
    ap (λ b. (nat_eq c.agent i && nat_eq c.object a) || b) (row_member i list c)
    ∙ and_or (nat_eq c.agent i) (nat_eq c.object a) (is_member nat_eq list c.object)

-- distinct columns make distinct cells of a row
pub row_distinct : (i : ℕ) (list : List ℕ) → IsDistinct nat_eq list → IsDistinct same_cell (map (cell_of i) list)
row_distinct i [] d = distinct_none same_cell
row_distinct i (a ∷ list) d =
    distinct_more same_cell (cell_of i a) (map (cell_of i) list)
    (row_member i list (cell_of i a) ∙ and_right (nat_eq i i) (is_member nat_eq list a) (distinct_first nat_eq a list d))
    (row_distinct i list (distinct_rest nat_eq a list d))

-- the cells of the rows from one on
member_of_rows : (columns a n : ℕ) (c : Cell) → holds (flat_map (row_cells columns) (range_with_len a n)) c
    ≡ (is_member nat_eq (range_with_len a n) c.agent && is_member nat_eq (range_with_len 0 columns) c.object)
member_of_rows columns a zero c = refl
member_of_rows columns a (suc n) c =
    member_append same_cell cell_test (row_cells columns a) (flat_map (row_cells columns) (range_with_len (a + 1) n)) c
    ∙ ap (λ b. b || holds (flat_map (row_cells columns) (range_with_len (a + 1) n)) c) (row_member a (range_with_len 0 columns) c)
    ∙ ap (λ b. ((c.agent == a) && is_member nat_eq (range_with_len 0 columns) c.object) || b) (member_of_rows columns (a + 1) n c)
    ∙ or_and (c.agent == a) (is_member nat_eq (range_with_len (a + 1) n) c.agent) (is_member nat_eq (range_with_len 0 columns) c.object)

-- a cell within so many agents and columns is a cell of the matrix
pub within_is_member : (agents columns : ℕ) (c : Cell) → IsCellWithin agents columns c → holds (all_cells agents columns) c ≡ true
within_is_member agents columns c h =
    member_of_rows columns 0 agents c
    ∙ and_from (is_member nat_eq (range_with_len 0 agents) c.agent) (is_member nat_eq (range_with_len 0 columns) c.object)
    (member_of_range 0 agents c.agent (omega arith) (let l = h.0 in omega arith)) (member_of_range 0 columns c.object (omega arith) (let l = h.1 in omega arith))

-- and the other way round
pub member_is_within : (agents columns : ℕ) (c : Cell) → holds (all_cells agents columns) c ≡ true → IsCellWithin agents columns c
member_is_within agents columns c m =
    let parts = and_parts (is_member nat_eq (range_with_len 0 agents) c.agent) (is_member nat_eq (range_with_len 0 columns) c.object) (sym (member_of_rows columns 0 agents c) ∙ m) in
    let one = range_of_member 0 agents c.agent parts.0 in
    let other = range_of_member 0 columns c.object parts.1 in
    (omega (arith, one.1), omega (arith, other.1))

-- each cell of a matrix is within it
pub all_within : (agents columns : ℕ) → AllByRecursion (IsCellWithin agents columns) (all_cells agents columns)
all_within agents columns =
    recursion_from_All (IsCellWithin agents columns) (all_cells agents columns)
    (λ k d l. member_is_within agents columns _ (member_at same_cell cell_test (all_cells agents columns) k d l))

distinct_rows : (columns a n : ℕ) → IsDistinct same_cell (flat_map (row_cells columns) (range_with_len a n))
distinct_rows columns a zero = distinct_none same_cell
distinct_rows columns a (suc n) =
    distinct_append same_cell cell_test (row_cells columns a) (flat_map (row_cells columns) (range_with_len (a + 1) n)) (row_distinct a (range_with_len 0 columns) (distinct_range 0 columns)) (distinct_rows columns (a + 1) n)
    (λ c first later.
    let here = and_parts (c.agent == a) (is_member nat_eq (range_with_len 0 columns) c.object) (sym (row_member a (range_with_len 0 columns) c) ∙ first) in
    let there = and_parts (is_member nat_eq (range_with_len (a + 1) n) c.agent) (is_member nat_eq (range_with_len 0 columns) c.object) (sym (member_of_rows columns (a + 1) n c) ∙ later) in
    let same : c.agent ≡ a = eqb-true c.agent a here.0 in
    let after = range_of_member (a + 1) n c.agent there.0 in
    absurd (omega (arith, same, after.0)))

-- no cell stands twice in a matrix
pub cells_distinct : (agents columns : ℕ) → IsDistinct same_cell (all_cells agents columns)
cells_distinct agents columns = distinct_rows columns 0 agents

in_row : (columns i a : ℕ) (d : Cell) → a < columns → get_or (row_cells columns i) a d ≡ cell_of i a
in_row columns i a d h = get_or-map-range_with_len (cell_of i) 0 columns a a d h (omega arith)

in_rows : (columns s n i a : ℕ) (d : Cell) → i < n → a < columns → get_or (flat_map (row_cells columns) (range_with_len s n)) (i * columns + a) d ≡ cell_of (s + i) a
in_rows columns s zero i a d h l = absurd (omega arith)
in_rows columns s (suc n) zero a d h l =
    let place : 0 * columns + a ≡ a = omega arith in
    let row : s ≡ s + 0 = omega arith in
    let many : length (row_cells columns s) ≡ columns = length-map-range_with_len (cell_of s) 0 columns in
    ap (λ k. get_or (row_cells columns s ++ flat_map (row_cells columns) (range_with_len (s + 1) n)) k d) place
    ∙ get_or_append_left (row_cells columns s) (flat_map (row_cells columns) (range_with_len (s + 1) n)) d a (omega arith)
    ∙ in_row columns s a d l
    ∙ ap (λ k. cell_of k a) row
in_rows columns s (suc n) (suc i) a d h l =
    let many : length (row_cells columns s) ≡ columns = length-map-range_with_len (cell_of s) 0 columns in
    let wide : suc i * columns ≡ columns + i * columns = grind arith in
    let place : suc i * columns + a ≡ length (row_cells columns s) + (i * columns + a) = omega arith in
    let row : s + 1 + i ≡ s + suc i = omega arith in
    ap (λ k. get_or (row_cells columns s ++ flat_map (row_cells columns) (range_with_len (s + 1) n)) k d) place
    ∙ get_or-append-add (row_cells columns s) (flat_map (row_cells columns) (range_with_len (s + 1) n)) (i * columns + a) d
    ∙ in_rows columns (s + 1) n i a d (omega arith) l
    ∙ ap (λ k. cell_of k a) row

-- the cell of agent i and column a stands at its index
pub cell_in_place : (agents columns i a : ℕ) (d : Cell) → i < agents → a < columns → get_or (all_cells agents columns) (i * columns + a) d ≡ cell_of i a
cell_in_place agents columns i a d h l = let row : 0 + i ≡ i = omega arith in in_rows columns 0 agents i a d h l ∙ ap (λ k. cell_of k a) row

-- the number of cells of rows one after the other
pub row_count : (columns s n : ℕ) → length (flat_map (row_cells columns) (range_with_len s n)) ≡ n * columns
row_count columns s zero = omega arith
row_count columns s (suc n) =
    let wide : suc n * columns ≡ columns + n * columns = grind arith in
    omega (arith, length-append (row_cells columns s) (flat_map (row_cells columns) (range_with_len (s + 1) n)), length-map-range_with_len (cell_of s) 0 columns, row_count columns (s + 1) n, wide)

-- the number of cells of a matrix
pub cell_count : (agents columns : ℕ) → length (all_cells agents columns) ≡ agents * columns
cell_count agents columns = row_count columns 0 agents

-- a cell in range has an index in range
pub index_within : (agents columns i a : ℕ) → i < agents → a < columns → i * columns + a < agents * columns
index_within agents columns i a h l =
    let row : suc i * columns ≤ agents * columns = mul-le (suc i) columns agents columns h (omega arith) in
    let wide : suc i * columns ≡ columns + i * columns = grind arith in
    omega arith
