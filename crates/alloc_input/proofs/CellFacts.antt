-- The cells of a matrix that a test picks, and those of a rectangle besides.
use Rattle.std.proofs.Common.{◌≡◌, ◌∙◌, ◌+◌, ◌<◌, ◌≤◌, ◌*◌, ◌++◌, ◌∷◌, ◌||◌, ◌&&◌, [], ℕ, suc, zero, List, Bool, true, false, length, refl, sym, ap, map, filter, set, take, inl, inr, arith, length-append, append_assoc}
use Rattle.std.proofs.Math.Bool.{or-false}
use Rattle.std.specs.Prelude.{◌==◌, flat_map}
use Rattle.std.specs.List.{range_with_len, sum_by}
use Rattle.std.proofs.lemmas.Bool.{cases_Bool, cases_lt, cases_eq, or_left, or_right, eq-eqb, ne_eqb, lt-ltb}
use Rattle.std.proofs.lemmas.List.{length-map, take_more, take_all, get_or-set_same, get_or-set_other, get_or_past, length-set, append-nil}
use Rattle.std.proofs.lemmas.List.Elements.{filter-append}
use Rattle.std.proofs.lemmas.List.Folds.{list_any-append}
use Rattle.std.proofs.lemmas.List.Sums.{sum_by-append, sum_by-set}
use Rattle.definitions.specs.declared.Cell.{Cell}
use Rattle.definitions.specs.Sets.{cell_of, same_cell, holds, row_cells, all_cells}
use Rattle.definitions.proofs.Members.{cell_test}
use Rattle.definitions.proofs.Cells.{member_is_within, row_count}
use Rattle.definitions.proofs.Lists.{filter_all, filter_none}
use Rattle.alloc_input.specs.Cells.{has_number, numbers_to, covers, with_rectangle}
use Rattle.alloc_input.specs.Marked.{AreRows, row_of, cells_in_rows}
use Rattle.alloc_input.specs.Numbers.{AreNumbersBelow, AddsNumbers}
use Rattle.alloc_input.proofs.NumberFacts.{filter-full, none_below}

-- ---- what a test picks

-- a cell that is picked is there and passes
pub holds_filter : (p : Cell → Bool) (xs : List Cell) (c : Cell) → holds (filter p xs) c ≡ (holds xs c && p c)
holds_filter p [] c = refl
holds_filter p (x ∷ xs) c = elim (cases_Bool (p x)) [
  | inl passes ↦ elim (cases_Bool (same_cell c x)) [
    | inl same ↦ (let pc : p c ≡ true = ap p (cell_test.sound c x same) ∙ passes in rw (passes, same, pc) refl)
    | inr other ↦ rw (passes, other) (holds_filter p xs c)
  ]
  | inr fails ↦ elim (cases_Bool (same_cell c x)) [
    | inl same ↦ (let pc : p c ≡ false = ap p (cell_test.sound c x same) ∙ fails in rw (fails, same, pc) (holds_filter p xs c ∙ rw pc (and_false (holds xs c))))
    | inr other ↦ rw (fails, other) (holds_filter p xs c)
  ]
]
  where
    and_false : (b : Bool) → b && false ≡ false
    and_false true = refl
    and_false false = refl

-- two tests that agree on the cells of a list pick the same ones
pub filter_same : (p q : Cell → Bool) (xs : List Cell) → ((c : Cell) → holds xs c ≡ true → p c ≡ q c) → filter p xs ≡ filter q xs
filter_same p q [] h = refl
filter_same p q (x ∷ xs) h =
    let here = h x (or_left (same_cell x x) (holds xs x) (cell_test.self x)) in
    let rest = filter_same p q xs (λ c k. h c (or_right (same_cell c x) (holds xs c) k)) in
    rw (here, rest) refl

-- a test that passes wherever another does picks no fewer
pub filter_more_le : (p q : Cell → Bool) (xs : List Cell) → ((c : Cell) → p c ≡ true → q c ≡ true) → length (filter p xs) ≤ length (filter q xs)
filter_more_le p q [] h = omega arith
filter_more_le p q (x ∷ xs) h = elim (cases_Bool (p x)) [
  | inl passes ↦ (let also = h x passes in rw (passes, also) (let l = filter_more_le p q xs h in omega (arith, l)))
  | inr fails ↦ elim (cases_Bool (q x)) [
    | inl more ↦ rw (fails, more) (let l = filter_more_le p q xs h in omega (arith, l))
    | inr less ↦ rw (fails, less) (filter_more_le p q xs h)
  ]
]

-- ---- rectangles

module _ (p : Cell → Bool) (m n : ℕ) where
  -- old cells or those of the rectangle
  pub picked_with_rectangle : (rows columns : List ℕ) → with_rectangle m n rows columns (filter p (all_cells m n)) ≡ filter (λ c. p c || covers rows columns c) (all_cells m n)
  unfolding with_rectangle
  picked_with_rectangle rows columns =
      filter_same (λ c. holds (filter p (all_cells m n)) c || covers rows columns c) (λ c. p c || covers rows columns c) (all_cells m n)
      (λ c h. ap (λ b. b || covers rows columns c) (holds_filter p (all_cells m n) c ∙ rw h refl))

  -- a rectangle of no agents
  pub rectangle-none : (columns : List ℕ) → with_rectangle m n [] columns (filter p (all_cells m n)) ≡ filter p (all_cells m n)
  rectangle-none columns = picked_with_rectangle [] columns ∙ filter_same (λ c. p c || covers [] columns c) p (all_cells m n) (λ c h. or-false (p c))

  either : (a b c d : Bool) → ((a || (b && d)) || (c && d)) ≡ (a || ((b || c) && d))
  either true b c d = refl
  either false true true true = refl
  either false true true false = refl
  either false true false true = refl
  either false true false false = refl
  either false false c d = refl

  -- one rectangle after another over the same columns
  pub rectangle-more : (xs ys columns : List ℕ)
      → with_rectangle m n ys columns (with_rectangle m n xs columns (filter p (all_cells m n))) ≡ with_rectangle m n (xs ++ ys) columns (filter p (all_cells m n))
  unfolding with_rectangle
  rectangle-more xs ys columns =
      ap (with_rectangle m n ys columns) (picked_with_rectangle xs columns)
      ∙ more xs ys columns
      ∙ sym (picked_with_rectangle (xs ++ ys) columns)
    where
      more : (xs ys columns : List ℕ) → with_rectangle m n ys columns (filter (λ c. p c || covers xs columns c) (all_cells m n)) ≡ filter (λ c. p c || covers (xs ++ ys) columns c) (all_cells m n)
      more xs ys columns =
          filter_same (λ c. holds (filter (λ d. p d || covers xs columns d) (all_cells m n)) c || covers ys columns c) (λ c. p c || covers (xs ++ ys) columns c) (all_cells m n)
          (λ c h. ap (λ b. b || covers ys columns c) (holds_filter (λ d. p d || covers xs columns d) (all_cells m n) c ∙ rw h refl)
          ∙ either (p c) (has_number xs c.agent) (has_number ys c.agent) (has_number columns c.object)
          ∙ ap (λ b. p c || (b && has_number columns c.object)) (sym (list_any-append (λ x. x == c.agent) xs ys)))

  -- more agents, no fewer cells
  pub rectangle_le : (xs ys columns : List ℕ) → length (with_rectangle m n xs columns (filter p (all_cells m n))) ≤ length (with_rectangle m n (xs ++ ys) columns (filter p (all_cells m n)))
  rectangle_le xs ys columns =
      rw (picked_with_rectangle xs columns, picked_with_rectangle (xs ++ ys) columns)
      (filter_more_le (λ c. p c || covers xs columns c) (λ c. p c || covers (xs ++ ys) columns c) (all_cells m n)
      (λ c h. (ap (λ b. p c || (b && has_number columns c.object)) (list_any-append (λ x. x == c.agent) xs ys) ∙ wider (p c) (has_number xs c.agent) (has_number ys c.agent) (has_number columns c.object) h)))
    where
      wider : (a b c d : Bool) → (a || (b && d)) ≡ true → (a || ((b || c) && d)) ≡ true
      wider true b c d h = refl
      wider false true c true h = refl
      wider false true c false h = cc h
      wider false false c d h = cc h

  -- all cells are there already
  pub rectangle-full : (rows columns : List ℕ) → length (filter p (all_cells m n)) ≡ m * n → with_rectangle m n rows columns (filter p (all_cells m n)) ≡ filter p (all_cells m n)
  unfolding with_rectangle
  rectangle-full rows columns e =
      let full = filter-full p (all_cells m n) (e ∙ sym (row_count n 0 m)) in
      ap (with_rectangle m n rows columns) full ∙ still rows columns ∙ sym full
    where
      still : (rows columns : List ℕ) → with_rectangle m n rows columns (all_cells m n) ≡ all_cells m n
      still rows columns = filter_same (λ c. holds (all_cells m n) c || covers rows columns c) (λ _. true) (all_cells m n) (λ c h. rw h refl) ∙ filter_all (λ _. true) (all_cells m n) (λ k d l. refl)

-- ---- rows

flat_map-more : (f : ℕ → List Cell) (a n j : ℕ) → a + n ≡ j → flat_map f (range_with_len a (n + 1)) ≡ flat_map f (range_with_len a n) ++ f j
flat_map-more f a zero j e = let s : a ≡ j = omega arith in rw s (append-nil (f j))
flat_map-more f a (suc n) j e =
    let more = flat_map-more f (a + 1) n j (omega arith) in
    let g : suc n + 1 ≡ suc (n + 1) = omega arith in
    rw (g, more) (sym (append_assoc (f a) (flat_map f (range_with_len (a + 1) n)) (f j)))

pub one_row : (p : Cell → Bool) (i n : ℕ) → filter p (all_cells (i + 1) n) ≡ filter p (all_cells i n) ++ filter p (row_cells n i)
one_row p i n = ap (λ xs. filter p xs) (flat_map-more (row_cells n) 0 i i (omega arith)) ∙ filter-append p (all_cells i n) (row_cells n i)

-- the test of a cell by rows
abbrev pub in_rows_test : List (List ℕ) → Cell → Bool
in_rows_test rows c = has_number (row_of rows c.agent) c.object

filter-row : (rows : List (List ℕ)) (i : ℕ) (xs : List ℕ) → filter (in_rows_test rows) (map (cell_of i) xs) ≡ map (cell_of i) (filter (has_number (row_of rows i)) xs)
filter-row rows i [] = refl
filter-row rows i (x ∷ xs) = elim (cases_Bool (has_number (row_of rows i) x)) [
  | inl here ↦ rw here (ap (λ cs. cell_of i x ∷ cs) (filter-row rows i xs))
  | inr not_here ↦ rw not_here (filter-row rows i xs)
]

-- the cells of one row
pub row-picked : (rows : List (List ℕ)) (i n : ℕ) → AreNumbersBelow n (row_of rows i) → filter (in_rows_test rows) (row_cells n i) ≡ map (cell_of i) (row_of rows i)
row-picked rows i n b = filter-row rows i (numbers_to n) ∙ ap (map (cell_of i)) (sym b)

-- the cells of the first rows are as many as these have
count_rows : (rows : List (List ℕ)) (n k : ℕ) → ((i : ℕ) → AreNumbersBelow n (row_of rows i)) → length (filter (in_rows_test rows) (all_cells k n)) ≡ sum_by length (take k rows)
count_rows rows n zero b = refl
count_rows rows n (suc k) b =
    let s : suc k ≡ k + 1 = omega arith in
    let one : length (filter (in_rows_test rows) (all_cells (k + 1) n)) ≡ length (filter (in_rows_test rows) (all_cells k n)) + length (row_of rows k) =
    ap length (one_row (in_rows_test rows) k n) ∙ length-append (filter (in_rows_test rows) (all_cells k n)) (filter (in_rows_test rows) (row_cells n k))
    ∙ ap (λ j. length (filter (in_rows_test rows) (all_cells k n)) + j) (ap length (row-picked rows k n (b k)) ∙ length-map (row_of rows k) (cell_of k)) in
    ap (λ j. length (filter (in_rows_test rows) (all_cells j n))) s
    ∙ (one ∙ ap (λ j. j + length (row_of rows k)) (count_rows rows n k b) ∙ more rows k)
    ∙ ap (λ j. sum_by length (take j rows)) (sym s)
  where
    more : (rows : List (List ℕ)) (k : ℕ) → sum_by length (take k rows) + length (row_of rows k) ≡ sum_by length (take (k + 1) rows)
    more rows k = elim (cases_lt k (length rows)) [
      | inl l ↦ rw (take_more rows k [] l) (sym (sum_by-append length (take k rows) (row_of rows k ∷ []) ∙ omega arith))
      | inr past ↦ (let a = take_all k rows past in let b = take_all (k + 1) rows (omega arith) in let e = get_or_past rows k [] past in rw (a, b, e) (omega arith))
    ]

-- the count of a set of cells
pub count_is : (m n : ℕ) (rows : List (List ℕ)) (count : ℕ) → AreRows m n rows count → count ≡ length (cells_in_rows m n rows)
unfolding cells_in_rows
count_is m n rows count s = s.counted ∙ ap (sum_by length) (sym (take_all m rows s.shape)) ∙ sym (count_rows rows n m s.below)

-- ---- one row grows

module _ (m n i : ℕ) (rows : List (List ℕ)) (columns row : List ℕ) (lt : i < length rows) (adds : AddsNumbers n columns (row_of rows i) row) where
  row_test : (c : Cell) → c.object < n → in_rows_test (set rows i row) c ≡ (in_rows_test rows c || covers (i ∷ []) columns c)
  row_test c l = elim (cases_eq c.agent i) [
    | inl same ↦
        let here : row_of (set rows i row) i ≡ row = get_or-set_same rows i row [] lt in
        let eq : i == i ≡ true = eq-eqb i i refl in
        let below = lt-ltb c.object n l in
        rw (same, here, eq, adds c.object, below) refl
    | inr other ↦
        let there : row_of (set rows i row) c.agent ≡ row_of rows c.agent = get_or-set_other rows i c.agent row [] other in
        let ne : i == c.agent ≡ false = ne_eqb i c.agent (λ e. other (sym e)) in
        rw (there, ne) (sym (or-false (in_rows_test rows c)))
  ]

  -- its new cells are those of a rectangle of one agent
  pub row_grown : cells_in_rows m n (set rows i row) ≡ with_rectangle m n (i ∷ []) columns (cells_in_rows m n rows)
  unfolding cells_in_rows
  row_grown =
      filter_same (in_rows_test (set rows i row)) (λ c. in_rows_test rows c || covers (i ∷ []) columns c) (all_cells m n) (λ c h. row_test c (member_is_within m n c h).1)
      ∙ sym (picked_with_rectangle (in_rows_test rows) m n (i ∷ []) columns)

  pub rows_grown : (count new : ℕ) → AreRows m n rows count → AreNumbersBelow n row → new + length (row_of rows i) ≡ count + length row → AreRows m n (set rows i row) new
  rows_grown count new s b e = record {
    below = λ k. below_at k s.below b;
    shape = omega (arith, length-set {A = List ℕ} rows i row, s.shape);
    counted = (let one = sum_by-set {X = List ℕ} length rows i row [] lt in omega (arith, one, e, s.counted));
  }
    where
      below_at : (k : ℕ) → ((j : ℕ) → AreNumbersBelow n (row_of rows j)) → AreNumbersBelow n row → AreNumbersBelow n (row_of (set rows i row) k)
      below_at k bs b = elim (cases_eq k i) [
        | inl same ↦ (let here : row_of (set rows i row) i ≡ row = get_or-set_same rows i row [] lt in rw (same, here) b)
        | inr other ↦ (let there : row_of (set rows i row) k ≡ row_of rows k = get_or-set_other rows i k row [] other in rw there (bs k))
      ]

-- an agent past the matrix adds nothing
pub rectangle-past : (m n i : ℕ) (rows : List (List ℕ)) (columns : List ℕ) → m ≤ i → with_rectangle m n (i ∷ []) columns (cells_in_rows m n rows) ≡ cells_in_rows m n rows
unfolding cells_in_rows
rectangle-past m n i rows columns l =
    picked_with_rectangle (in_rows_test rows) m n (i ∷ []) columns
    ∙ filter_same (λ c. in_rows_test rows c || covers (i ∷ []) columns c) (in_rows_test rows) (all_cells m n) (λ c h. past c (member_is_within m n c h).0)
  where
    past : (c : Cell) → c.agent < m → (in_rows_test rows c || covers (i ∷ []) columns c) ≡ in_rows_test rows c
    past c h = let ne : i == c.agent ≡ false = ne_eqb i c.agent (λ e. absurd (omega arith)) in rw ne (or-false (in_rows_test rows c))

-- ---- rows without numbers

pub no_rows : (m n : ℕ) → AreRows m n [] 0
no_rows m n = record { below = λ i. none_below n; shape = omega arith; counted = refl }

pub no_cells : (m n : ℕ) → cells_in_rows m n [] ≡ []
unfolding cells_in_rows
no_cells m n = filter_same (in_rows_test []) (λ _. false) (all_cells m n) (λ c h. refl) ∙ filter_none (λ _. false) (all_cells m n) (λ k d l. refl)

pub row_of-push : (rows : List (List ℕ)) (i : ℕ) → row_of (rows ++ [] ∷ []) i ≡ row_of rows i
row_of-push [] zero = refl
row_of-push [] (suc i) = refl
row_of-push (r ∷ rs) zero = refl
row_of-push (r ∷ rs) (suc i) = row_of-push rs i

-- the same cells with one more row
pub cells-push : (m n : ℕ) (rows : List (List ℕ)) → cells_in_rows m n (rows ++ [] ∷ []) ≡ cells_in_rows m n rows
unfolding cells_in_rows
cells-push m n rows = filter_same (in_rows_test (rows ++ [] ∷ [])) (in_rows_test rows) (all_cells m n) (λ c h. ap (λ row. has_number row c.object) (row_of-push rows c.agent))

pub rows-push : (m n : ℕ) (rows : List (List ℕ)) (count : ℕ) → length rows < m → AreRows m n rows count → AreRows m n (rows ++ [] ∷ []) count
rows-push m n rows count l s = record {
  below = λ i. rw (row_of-push rows i) (s.below i);
  shape = omega (arith, length-append rows ([] ∷ []));
  counted = s.counted ∙ sym (sum_by-append length rows ([] ∷ []) ∙ omega arith);
}
