-- The gives of a whole matrix give it back.
use Rattle.std.proofs.Common.{suc, zero, ◌≡◌, ℕ, ◌+◌, ◌*◌, ◌/◌, ◌%◌, ◌<◌, ◌≤◌, Bool, true, false, List, [], ◌∷◌, ◌++◌, length, map, take, drop, get_or, refl, sym, ◌∙◌, ap, arith, cond, All, inl, inr}
use Rattle.std.specs.Prelude.{◌==◌, if◌then◌else◌, flat_map, slice_index, AllPairs}
use Rattle.std.specs.List.{range_with_len}
use Rattle.std.proofs.Math.Seq.{drop-cons, take-add}
use Rattle.std.proofs.lemmas.List.{map-append, take_all, drop-drop}
use Rattle.std.proofs.lemmas.Bool.{cases_order}
use Rattle.std.proofs.lemmas.Nat.{mul-le, div_below}
use Rattle.std.proofs.lemmas.List.Sums.{sum_by-cons}
use Rattle.std.proofs.lemmas.List.Elements.{All-map, All-nil, All-cons}
use Rattle.std.proofs.lemmas.List.Kept.{AllPairs-cons}
use Rattle.definitions.specs.declared.Cell.{Cell}
use Rattle.definitions.specs.declared.Give.{Give}
use Rattle.definitions.specs.Sets.{cell_of, cell_index, same_cell, row_cells, IsBefore}
use Rattle.definitions.specs.Values.{PieceValue}
use Rattle.definitions.specs.Gives.{gives_along, gives_of, piece_of_matrix, pieces_of}
use Rattle.definitions.specs.Pieces.{piece_count, matrix_of, WeightedMatrix, weighted_pieces, AreGives}

-- the entry at index k of a list that begins at an index
abbrev spot : ℕ → ℕ → List ℕ → ℕ
spot k at [] = 0
spot k at (n ∷ ns) = cond (at == k) n 0 + spot k (suc at) ns

spot-past : (k at : ℕ) (ns : List ℕ) → k < at → spot k at ns ≡ 0
spot-past k at [] h = refl
spot-past k at (n ∷ ns) h =
    let off : (at == k) ≡ false = grind arith in
    rw off (omega (arith, spot-past k (suc at) ns (omega arith)))

spot-is : (k at : ℕ) (ns : List ℕ) (j : ℕ) → at + j ≡ k → spot k at ns ≡ get_or ns j 0
spot-is k at [] j e = refl
spot-is k at (n ∷ ns) zero e =
    let on : (at == k) ≡ true = grind arith in
    rw on (omega (arith, spot-past k (suc at) ns (omega arith)))
spot-is k at (n ∷ ns) (suc j) e =
    let off : (at == k) ≡ false = grind arith in
    rw off (omega (arith, spot-is k (suc at) ns j (omega arith)))

same_place : (columns at : ℕ) (c : Cell) → c.object < columns → same_cell (cell_of (at / columns) (at % columns)) c ≡ (at == cell_index columns c)
same_place columns at c h = grind arith

count_step : (columns at n : ℕ) (ns : List ℕ) (c : Cell) (b : Bool) → (n == 0) ≡ b → c.object < columns → piece_count (gives_along columns (suc at) ns) c ≡ spot (cell_index columns c) (suc at) ns → piece_count (gives_along columns at (n ∷ ns)) c ≡ spot (cell_index columns c) at (n ∷ ns)
unfolding gives_along
count_step columns at n ns c true e h ih =
    let none : n ≡ 0 = grind arith in
    let nothing : cond (at == cell_index columns c) n 0 ≡ 0 = grind arith in
    rw e (omega (arith, ih, nothing))
count_step columns at n ns c false e h ih = rw (e, sum_by-cons (λ (g : Give). if same_cell (cell_of g.agent g.object) c then g.count else 0), same_place columns at c h) (ap (λ r. cond (at == cell_index columns c) n 0 + r) ih)

counts_spot : (columns at : ℕ) (ns : List ℕ) (c : Cell) → c.object < columns → piece_count (gives_along columns at ns) c ≡ spot (cell_index columns c) at ns
unfolding gives_along
counts_spot columns at [] c h = refl
counts_spot columns at (n ∷ ns) c h = count_step columns at n ns c (n == 0) refl h (counts_spot columns (suc at) ns c h)

-- the count of the gives at a cell is the entry of the matrix
pub count_at : (columns : ℕ) (m : List ℕ) (i s : ℕ) → s < columns → piece_count (gives_of columns m) (cell_of i s) ≡ get_or m (i * columns + s) 0
count_at columns m i s h = counts_spot columns 0 m (cell_of i s) h ∙ spot-is (i * columns + s) 0 m (i * columns + s) (omega arith)

row_back : (columns : ℕ) (m : List ℕ) (i s n k : ℕ) → i * columns + s ≡ k → s + n ≤ columns → i * columns + columns ≤ length m → map (piece_count (gives_of columns m)) (map (cell_of i) (range_with_len s n)) ≡ take n (drop k m)
row_back columns m i s zero k e h l = refl
row_back columns m i s (suc n) k e h l =
    let here : drop k m ≡ get_or m k 0 ∷ drop (suc k) m = drop-cons m k 0 (omega arith) in
    let first : piece_count (gives_of columns m) (cell_of i s) ≡ get_or m k 0 = count_at columns m i s (omega arith) ∙ ap (λ j. get_or m j 0) e in
    let rest : map (piece_count (gives_of columns m)) (map (cell_of i) (range_with_len (s + 1) n)) ≡ take n (drop (suc k) m) = row_back columns m i (s + 1) n (suc k) (omega arith) (omega arith) l in
    ap (λ x. x ∷ map (piece_count (gives_of columns m)) (map (cell_of i) (range_with_len (s + 1) n))) first ∙ ap (λ xs. get_or m k 0 ∷ xs) rest ∙ sym (ap (take (suc n)) here)

rows_back : (columns : ℕ) (m : List ℕ) (a n : ℕ) → (a + n) * columns ≤ length m → map (piece_count (gives_of columns m)) (flat_map (row_cells columns) (range_with_len a n)) ≡ take (n * columns) (drop (a * columns) m)
rows_back columns m a zero h = let none : 0 ≡ 0 * columns = omega arith in ap (λ k. take k (drop (a * columns) m)) none
rows_back columns m a (suc n) h =
    let wide : (a + suc n) * columns ≡ a * columns + (columns + n * columns) = grind arith in
    let step : (a + 1) * columns ≡ a * columns + columns = grind arith in
    let more : suc n * columns ≡ columns + n * columns = grind arith in
    let bound : (a + 1 + n) * columns ≤ length m = (let one : a + 1 + n ≡ a + suc n = omega arith in let same : (a + 1 + n) * columns ≡ (a + suc n) * columns = ap (λ k. k * columns) one in omega (arith, same, h)) in
    let row : map (piece_count (gives_of columns m)) (row_cells columns a) ≡ take columns (drop (a * columns) m) = row_back columns m a 0 columns (a * columns) (omega arith) (omega arith) (omega (arith, wide, h)) in
    let rest : map (piece_count (gives_of columns m)) (flat_map (row_cells columns) (range_with_len (a + 1) n)) ≡ take (n * columns) (drop (a * columns + columns) m) = rows_back columns m (a + 1) n bound ∙ ap (λ k. take (n * columns) (drop k m)) step in
    map-append (piece_count (gives_of columns m)) (row_cells columns a) (flat_map (row_cells columns) (range_with_len (a + 1) n))
    ∙ ap (λ xs. xs ++ map (piece_count (gives_of columns m)) (flat_map (row_cells columns) (range_with_len (a + 1) n))) row
    ∙ ap (λ xs. take columns (drop (a * columns) m) ++ xs) (rest ∙ ap (take (n * columns)) (sym (drop-drop columns (a * columns) m)))
    ∙ sym (take-add columns (n * columns) (drop (a * columns) m))
    ∙ ap (λ k. take k (drop (a * columns) m)) (sym more)

-- the gives of a matrix make up the matrix
pub matrix_back : (agents columns : ℕ) (m : List ℕ) → length m ≡ agents * columns → matrix_of agents columns (gives_of columns m) ≡ m
matrix_back agents columns m h =
    let none : 0 * columns ≡ 0 = omega arith in
    let one : 0 + agents ≡ agents = omega arith in
    let all : (0 + agents) * columns ≡ agents * columns = ap (λ k. k * columns) one in
    let bound : (0 + agents) * columns ≤ length m = omega (arith, all, h) in
    rows_back columns m 0 agents bound ∙ ap (λ k. take (agents * columns) (drop k m)) none ∙ take_all (agents * columns) m (omega (arith, h))

-- a lawful give that stands at this index or after it
abbrev Stands : ℕ → ℕ → ℕ → Give → Type 0
Stands agents columns at g = (at ≤ g.agent * columns + g.object) × ((g.agent < agents) × (g.object < columns) × (1 ≤ g.count) × (g.count ≤ 1000))

here_stands : (agents columns at n : ℕ) → at < agents * columns → 1 ≤ n → n ≤ 1000 → Stands agents columns at (record { agent = at / columns; object = at % columns; count = n })
here_stands agents zero at n h low high = absurd (omega (arith, h))
here_stands agents (suc c) at n h low high =
    let whole : at ≡ at / suc c * suc c + at % suc c = grind arith in
    let within : at % suc c < suc c = grind arith in
    let row : at / suc c < agents = div_below at (suc c) agents (omega arith) h in
    (omega (arith, whole), (row, within, low, high))

stands_later : (agents columns at : ℕ) (g : Give) → Stands agents columns (suc at) g → Stands agents columns at g
stands_later agents columns at g h = (omega (arith, h.0), h.1)

-- what stands at an index comes before what stands later
comes_before : (columns at : ℕ) (i a j b : ℕ) → i * columns + a ≡ at → a < columns → b < columns → at < j * columns + b → IsBefore (cell_of i a) (cell_of j b)
comes_before columns at i a j b e l m h = elim (cases_order i j) [
  | inl same ↦ (let row : i * columns ≡ j * columns = ap (λ n. n * columns) same in inr (same, omega (arith, e, row, h)))
  | inr other ↦ elim other [
    | inl up ↦ inl up
    | inr down ↦ (let above : (j + 1) * columns ≤ i * columns = mul-le (j + 1) columns i columns (omega (arith, down)) (omega arith) in let row : (j + 1) * columns ≡ j * columns + columns = grind arith in absurd (omega (arith, e, above, row, h, m)))
  ]
]

along_step : (agents columns at n : ℕ) (ns : List ℕ) (b : Bool) → (n == 0) ≡ b → at < agents * columns → n ≤ 1000
    → All (Stands agents columns (suc at)) (gives_along columns (suc at) ns) → AllPairs (λ g h. IsBefore (cell_of g.agent g.object) (cell_of h.agent h.object)) (gives_along columns (suc at) ns)
    → All (Stands agents columns at) (gives_along columns at (n ∷ ns)) × AllPairs (λ g h. IsBefore (cell_of g.agent g.object) (cell_of h.agent h.object)) (gives_along columns at (n ∷ ns))
unfolding gives_along
along_step agents columns at n ns true e h high later rise = rw e ((λ k d l. stands_later agents columns at (get_or (gives_along columns (suc at) ns) k d) (later k d l)), rise)
along_step agents columns at n ns false e h high later rise =
    let some : 1 ≤ n = grind arith in
    let here = here_stands agents columns at n h some high in
    rw e (
      All-cons (Stands agents columns at) (record { agent = at / columns; object = at % columns; count = n }) (gives_along columns (suc at) ns) here (λ k d l. stands_later agents columns at (get_or (gives_along columns (suc at) ns) k d) (later k d l)),
      AllPairs-cons (λ g h. IsBefore (cell_of g.agent g.object) (cell_of h.agent h.object)) (record { agent = at / columns; object = at % columns; count = n }) (gives_along columns (suc at) ns)
          (λ k d l. let x : Give = get_or (gives_along columns (suc at) ns) k d in let s = later k d l in comes_before columns at (at / columns) (at % columns) x.agent x.object (index_of agents at columns h) here.1.1 s.1.1 (omega (arith, s.0))) rise,
    )
  where
    index_of : (agents at columns : ℕ) → at < agents * columns → at / columns * columns + at % columns ≡ at
    index_of agents at zero h = absurd (omega (arith, h))
    index_of agents at (suc c) h = grind arith

along_lawful : (agents columns at : ℕ) (ns : List ℕ) → at + length ns ≤ agents * columns → ((i : ℕ) → i < length ns → slice_index ns i ≤ 1000)
    → All (Stands agents columns at) (gives_along columns at ns) × AllPairs (λ g h. IsBefore (cell_of g.agent g.object) (cell_of h.agent h.object)) (gives_along columns at ns)
unfolding gives_along
along_lawful agents columns at [] h few = (All-nil _, λ i j d l m. absurd (omega (arith, m)))
along_lawful agents columns at (n ∷ ns) h few =
    let rest = along_lawful agents columns (suc at) ns (omega (arith, h)) (λ i l. few (suc i) (omega (arith, l))) in
    along_step agents columns at n ns (n == 0) refl (omega (arith, h)) (few 0 (omega arith)) rest.0 rest.1

-- the gives of a matrix with counts up to 1,000 are lawful
pub gives_lawful : (agents columns : ℕ) (m : List ℕ) → length m ≡ agents * columns → ((i : ℕ) → i < length m → slice_index m i ≤ 1000) → AreGives agents columns (gives_of columns m)
gives_lawful agents columns m h few =
    let all = along_lawful agents columns 0 m (omega (arith, h)) few in
    ((λ k d l. (all.0 k d l).1), all.1)

-- whole matrices of this shape, with counts up to 1,000
abbrev pub AreShaped : ℕ → ℕ → List WeightedMatrix → Type 0
AreShaped agents columns ps = All (λ p. (length p.matrix ≡ agents * columns) × ((i : ℕ) → i < length p.matrix → slice_index p.matrix i ≤ 1000)) ps

-- pieces made of matrices give the matrices back
pub weighted_back : (agents columns : ℕ) (ps : List WeightedMatrix) → AreShaped agents columns ps → weighted_pieces agents columns (pieces_of columns ps) ≡ ps
weighted_back agents columns [] h = refl
weighted_back agents columns (p ∷ ps) h =
    let first : matrix_of agents columns (gives_of columns p.matrix) ≡ p.matrix = matrix_back agents columns p.matrix (h 0 p (omega arith)).0 in
    let one : WeightedMatrix = record { weight = p.weight; matrix = matrix_of agents columns (gives_of columns p.matrix) } in
    let same : one ≡ p = ap (λ (m : List ℕ). let made : WeightedMatrix = record { weight = p.weight; matrix = m } in made) first in
    ap (λ (q : WeightedMatrix). q ∷ weighted_pieces agents columns (pieces_of columns ps)) same ∙ ap (λ (qs : List WeightedMatrix). p ∷ qs) (weighted_back agents columns ps (λ k d lt. h (suc k) d (omega (arith, lt))))

-- and their gives are lawful
pub all_gives_lawful : (agents columns : ℕ) (ps : List WeightedMatrix) → AreShaped agents columns ps → All (λ (p : PieceValue). AreGives agents columns p.gives) (pieces_of columns ps)
all_gives_lawful agents columns ps h = All-map (λ (p : PieceValue). AreGives agents columns p.gives) (piece_of_matrix columns) ps (λ k d lt. gives_lawful agents columns (get_or ps k d).matrix (h k d lt).0 (h k d lt).1)
