-- Lawful gives come back from their matrix, and so a lottery is written by its parts.
use Rattle.std.proofs.Common.{◌≡◌, ◌≢◌, ◌+◌, ◌*◌, ◌/◌, ◌%◌, ◌<◌, ◌≤◌, ◌∙◌, ◌∷◌, [], ℕ, suc, zero, List, true, false, cond, length, get_or, refl, sym, ap, subst, arith, inl, inr, All}
use Rattle.std.specs.Prelude.{◌==◌, AllPairs, if◌then◌else◌}
use Rattle.std.proofs.lemmas.Bool.{cases_lt}
use Rattle.std.proofs.lemmas.List.{length-map, get_or-map}
use Rattle.std.proofs.lemmas.List.Elements.{All-head, All-tail}
use Rattle.std.proofs.lemmas.List.Sums.{sum_by-cons}
use Rattle.std.proofs.lemmas.Nat.{mul-le, div_below, div-mul-add, mod-mul-add}
use Rattle.definitions.specs.declared.Cell.{Cell}
use Rattle.definitions.specs.declared.Give.{Give}
use Rattle.definitions.specs.Sets.{cell_of, same_cell, all_cells, IsBefore}
use Rattle.definitions.specs.Values.{PieceValue}
use Rattle.definitions.specs.Pieces.{piece_count, matrix_of, weighted_pieces, AreGives}
use Rattle.definitions.specs.Gives.{gives_along, gives_of, pieces_of}
use Rattle.definitions.proofs.Cells.{cell_in_place, cell_count}

-- where a give stands in a matrix of so many columns
abbrev place : ℕ → Give → ℕ
place columns g = g.agent * columns + g.object

-- the cell at a place
abbrev cell_at : ℕ → ℕ → Cell
cell_at columns k = cell_of (k / columns) (k % columns)

-- the gives stand at rising places from this one on and before the limit, each with a count
abbrev Placed : ℕ → ℕ → ℕ → List Give → Type 0
Placed columns limit at [] = Unit {0}
Placed columns limit at (g ∷ gs) =
    (at ≤ place columns g) × (place columns g < limit) × (g.object < columns) × (1 ≤ g.count) × Placed columns limit (suc (place columns g)) gs

same-place : (columns k : ℕ) (g : Give) → g.object < columns → same_cell (cell_of g.agent g.object) (cell_at columns k) ≡ (place columns g == k)
same-place columns k g h = grind arith

-- what the first give adds to a count
count-first : (columns k : ℕ) (g : Give) (gs : List Give) → g.object < columns
    → piece_count (g ∷ gs) (cell_at columns k) ≡ cond (place columns g == k) g.count 0 + piece_count gs (cell_at columns k)
count-first columns k g gs h =
    sum_by-cons (λ (g : Give). if same_cell (cell_of g.agent g.object) (cell_at columns k) then g.count else 0) g gs
    ∙ ap (λ t. cond t g.count 0 + piece_count gs (cell_at columns k)) (same-place columns k g h)

count-here : (columns k : ℕ) (g : Give) (gs : List Give) → g.object < columns → place columns g ≡ k
    → piece_count (g ∷ gs) (cell_at columns k) ≡ g.count + piece_count gs (cell_at columns k)
count-here columns k g gs h e =
    let on : (place columns g == k) ≡ true = grind arith in
    rw (count-first columns k g gs h, on) refl

count-other : (columns k : ℕ) (g : Give) (gs : List Give) → g.object < columns → place columns g ≢ k
    → piece_count (g ∷ gs) (cell_at columns k) ≡ piece_count gs (cell_at columns k)
count-other columns k g gs h n =
    let off : (place columns g == k) ≡ false = grind arith in
    rw (count-first columns k g gs h, off) (omega arith)

-- gives that stand later count nothing
count-later : (columns limit at k : ℕ) (gs : List Give) → Placed columns limit at gs → k < at → piece_count gs (cell_at columns k) ≡ 0
count-later columns limit at k [] h lt = refl
count-later columns limit at k (g ∷ gs) h lt =
    let other : place columns g ≢ k = omega (arith, h.0) in
    count-other columns k g gs h.2 other ∙ count-later columns limit (suc (place columns g)) k gs h.4 (omega (arith, h.0))

-- the entries of a matrix from this place on are the counts of the gives
abbrev AreCounts : ℕ → ℕ → List ℕ → List Give → Type 0
AreCounts columns at ns gs = (j : ℕ) → j < length ns → get_or ns j 0 ≡ piece_count gs (cell_at columns (at + j))

counts-tail : (columns at n : ℕ) (ns : List ℕ) (gs : List Give) → AreCounts columns at (n ∷ ns) gs → AreCounts columns (suc at) ns gs
counts-tail columns at n ns gs c j lt =
    let same : suc at + j ≡ at + suc j = omega arith in
    rw same (c (suc j) (omega (arith, lt)))

counts-drop : (columns at : ℕ) (ns : List ℕ) (g : Give) (gs : List Give) → g.object < columns → place columns g < at → AreCounts columns at ns (g ∷ gs) → AreCounts columns at ns gs
counts-drop columns at ns g gs h before c j lt =
    let other : place columns g ≢ at + j = omega (arith, before) in
    c j lt ∙ count-other columns (at + j) g gs h other

first-count : (columns at n : ℕ) (ns : List ℕ) (gs : List Give) → AreCounts columns at (n ∷ ns) gs → n ≡ piece_count gs (cell_at columns at)
first-count columns at n ns gs c =
    let same : at + 0 ≡ at = omega arith in
    rw same at (c 0 (omega arith))

give-as : (g : Give) (a o n : ℕ) → a ≡ g.agent → o ≡ g.object → n ≡ g.count → record { agent = a; object = o; count = n } ≡ g
give-as g a o n e f h = rw (e, f, h) refl

skip-step : (columns at n : ℕ) (ns : List ℕ) → n ≡ 0 → gives_along columns at (n ∷ ns) ≡ gives_along columns (suc at) ns
unfolding gives_along
skip-step columns at n ns e = rw e refl

give-step : (columns at n : ℕ) (ns : List ℕ) → 1 ≤ n → gives_along columns at (n ∷ ns) ≡ (record { agent = at / columns; object = at % columns; count = n }) ∷ gives_along columns (suc at) ns
unfolding gives_along
give-step columns at n ns some =
    let off : (n == 0) ≡ false = grind arith in
    rw off refl

along-back : (columns limit at : ℕ) (ns : List ℕ) (gs : List Give) → at + length ns ≡ limit → Placed columns limit at gs → AreCounts columns at ns gs → gives_along columns at ns ≡ gs
unfolding gives_along
along-back columns limit at [] [] e h c = refl
along-back columns limit at [] (g ∷ gs) e h c = absurd (omega (arith, h.0, h.1))
along-back columns limit at (n ∷ ns) [] e h c =
    skip-step columns at n ns (first-count columns at n ns [] c) ∙ along-back columns limit (suc at) ns [] (omega (arith, e)) tt (counts-tail columns at n ns [] c)
along-back columns limit at (n ∷ ns) (g ∷ gs) e h c = elim (cases_lt at (place columns g)) [
  | inl later ↦
      let none : piece_count (g ∷ gs) (cell_at columns at) ≡ 0 = count-later columns limit (suc at) at (g ∷ gs) (omega (arith, later), h.1, h.2, h.3, h.4) (omega arith) in
      skip-step columns at n ns (first-count columns at n ns (g ∷ gs) c ∙ none)
      ∙ along-back columns limit (suc at) ns (g ∷ gs) (omega (arith, e)) (omega (arith, later), h.1, h.2, h.3, h.4) (counts-tail columns at n ns (g ∷ gs) c)
  | inr now ↦
      let here : place columns g ≡ at = omega (arith, now, h.0) in
      let rest : piece_count gs (cell_at columns at) ≡ 0 = count-later columns limit (suc (place columns g)) at gs h.4 (omega (arith, here)) in
      let count : n ≡ g.count = first-count columns at n ns (g ∷ gs) c ∙ count-here columns at g gs h.2 here ∙ omega (arith, rest) in
      let row : at / columns ≡ g.agent = row-of columns at g h.2 here in
      let column : at % columns ≡ g.object = column-of columns at g h.2 here in
      let lists : gives_along columns (suc at) ns ≡ gs =
      along-back columns limit (suc at) ns gs (omega (arith, e)) (subst (λ k. Placed columns limit (suc k) gs) here h.4) (counts-drop columns (suc at) ns g gs h.2 (omega (arith, here)) (counts-tail columns at n ns (g ∷ gs) c)) in
      give-step columns at n ns (omega (arith, count, h.3))
      ∙ ap (λ (x : Give). x ∷ gives_along columns (suc at) ns) (give-as g (at / columns) (at % columns) n row column count)
      ∙ ap (λ (xs : List Give). g ∷ xs) lists
]
  where
    row-of : (columns at : ℕ) (g : Give) → g.object < columns → place columns g ≡ at → at / columns ≡ g.agent
    row-of columns at g h e = ap (λ n. n / columns) (sym e) ∙ div-mul-add g.agent columns g.object h

    column-of : (columns at : ℕ) (g : Give) → g.object < columns → place columns g ≡ at → at % columns ≡ g.object
    column-of columns at g h e = ap (λ n. n % columns) (sym e) ∙ mod-mul-add g.agent columns g.object h

-- a cell before another one has the lower place
lower-place : (columns i a j b : ℕ) → IsBefore (cell_of i a) (cell_of j b) → a < columns → suc (i * columns + a) ≤ j * columns + b
lower-place columns i a j b (inl up) h =
    let above : (i + 1) * columns ≤ j * columns = mul-le (i + 1) columns j columns (omega (arith, up)) (omega arith) in
    let row : (i + 1) * columns ≡ i * columns + columns = grind arith in
    omega (arith, above, row, h)
lower-place columns i a j b (inr same) h =
    let row : i * columns ≡ j * columns = ap (λ n. n * columns) same.0 in
    omega (arith, row, same.1)

-- a lawful give
abbrev IsGive : ℕ → ℕ → Give → Type 0
IsGive agents columns g = (g.agent < agents) × (g.object < columns) × (1 ≤ g.count) × (g.count ≤ 1000)

abbrev IsEarlier : Give → Give → Type 0
IsEarlier g h = IsBefore (cell_of g.agent g.object) (cell_of h.agent h.object)

place-within : (agents columns : ℕ) (g : Give) → g.agent < agents → g.object < columns → place columns g < agents * columns
place-within agents columns g row column =
    let below : (g.agent + 1) * columns ≤ agents * columns = mul-le (g.agent + 1) columns agents columns (omega (arith, row)) (omega arith) in
    let wide : (g.agent + 1) * columns ≡ g.agent * columns + columns = grind arith in
    omega (arith, below, wide, column)

placed : (agents columns at : ℕ) (gs : List Give) → All (IsGive agents columns) gs → AllPairs IsEarlier gs → All (λ g. at ≤ place columns g) gs → Placed columns (agents * columns) at gs
placed agents columns at [] lawful rise from = tt
placed agents columns at (g ∷ gs) lawful rise from =
    let is = All-head (IsGive agents columns) g gs lawful in
    let rest = All-tail (IsGive agents columns) g gs lawful in (
      All-head (λ (g : Give). at ≤ place columns g) g gs from,
      place-within agents columns g is.0 is.1,
      is.1,
      is.2,
      placed agents columns (suc (place columns g)) gs rest (λ i j d l m. rise (suc i) (suc j) d (omega (arith, l)) (omega (arith, m)))
          (λ k d lt. lower-place columns g.agent g.object (get_or gs k d).agent (get_or gs k d).object (rise 0 (suc k) d (omega arith) (omega (arith, lt))) is.1),
    )

matrix-counts : (agents columns : ℕ) (gs : List Give) → AreCounts columns 0 (matrix_of agents columns gs) gs
matrix-counts agents zero gs j lt =
    let none : agents * 0 ≡ 0 = omega arith in
    absurd (omega (arith, lt, none, length-map (all_cells agents 0) (piece_count gs), cell_count agents 0))
matrix-counts agents (suc c) gs j lt =
    let long : j < length (all_cells agents (suc c)) = omega (arith, lt, length-map (all_cells agents (suc c)) (piece_count gs)) in
    let below : j < agents * suc c = omega (arith, long, cell_count agents (suc c)) in
    let whole : j / suc c * suc c + j % suc c ≡ j = grind arith in
    let row : j / suc c < agents = div_below j (suc c) agents (omega arith) below in
    let column : j % suc c < suc c = grind arith in
    let at : get_or (all_cells agents (suc c)) j (cell_of 0 0) ≡ cell_at (suc c) j =
    ap (λ k. get_or (all_cells agents (suc c)) k (cell_of 0 0)) (sym whole) ∙ cell_in_place agents (suc c) (j / suc c) (j % suc c) (cell_of 0 0) row column in
    let same : 0 + j ≡ j = omega arith in
    rw same (get_or-map (piece_count gs) (all_cells agents (suc c)) j (cell_of 0 0) 0 long ∙ ap (piece_count gs) at)

-- lawful gives are those of their matrix
pub gives-back : (agents columns : ℕ) (gs : List Give) → AreGives agents columns gs → gives_of columns (matrix_of agents columns gs) ≡ gs
gives-back agents columns gs h =
    let long : 0 + length (matrix_of agents columns gs) ≡ agents * columns = omega (arith, length-map (all_cells agents columns) (piece_count gs), cell_count agents columns) in
    along-back columns (agents * columns) 0 (matrix_of agents columns gs) gs long (placed agents columns 0 gs h.0 h.1 (λ k d lt. omega arith)) (matrix-counts agents columns gs)

-- and so are pieces those of their matrices
pub pieces-back : (agents columns : ℕ) (ps : List PieceValue) → All (λ p. AreGives agents columns p.gives) ps → pieces_of columns (weighted_pieces agents columns ps) ≡ ps
pieces-back agents columns [] h = refl
pieces-back agents columns (p ∷ ps) h =
    let gives = gives-back agents columns p.gives (All-head (λ (p : PieceValue). AreGives agents columns p.gives) p ps h) in
    let made : List Give → PieceValue = λ (gs : List Give). record { weight = p.weight; gives = gs } in
    ap (λ (gs : List Give). made gs ∷ pieces_of columns (weighted_pieces agents columns ps)) gives
    ∙ ap (λ (qs : List PieceValue). p ∷ qs) (pieces-back agents columns ps (All-tail (λ (p : PieceValue). AreGives agents columns p.gives) p ps h))
