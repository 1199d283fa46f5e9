-- The agents' rows as sets.
use Rattle.std.proofs.Common.{◌≡◌, ℕ, suc, ◌+◌, ◌*◌, ◌<◌, ◌≤◌, ◌++◌, ◌∙◌, List, [], ◌∷◌, map, length, get_or, take, refl, ap, sym, inl, inr, arith}
use Rattle.std.specs.List.{enumerate_from}
use Rattle.std.proofs.lemmas.List.{append_assoc, length-map, length-append, length-take-le, map_push, take_more}
use Rattle.std.proofs.lemmas.List.FromFn.{length-map-range_with_len, get_or-map-range_with_len, length-enumerate_from}
use Rattle.std.proofs.lemmas.List.Sums.{sum_by-append, sum_by-cons}
use Rattle.std.proofs.Math.Nat.{mul-le-mul_right}
use Rattle.definitions.specs.declared.Cell.{Cell}
use Rattle.definitions.specs.Sets.{SetValue, FamilyValue, IsQuotaSet, IsInRange, cell_of, row_cells, cells_in}
use Rattle.definitions.specs.Values.{row_sets}

-- the row of an agent as a set
abbrev pub row_set : ℕ → ℕ → ℕ → SetValue
row_set columns agent demand = record { side = 1; floor = demand; ceiling = demand; cells = row_cells columns agent }

enumerate-push : (n : ℕ) (xs : List ℕ) (x : ℕ) → enumerate_from n (xs ++ x ∷ []) ≡ enumerate_from n xs ++ (n + length xs, x) ∷ []
enumerate-push n [] x = let e : n ≡ n + 0 = omega arith in ap {B = List (ℕ × ℕ)} (λ k. (k, x) ∷ []) e
enumerate-push n (y ∷ xs) x =
    let e : n + 1 + length xs ≡ n + suc (length xs) = omega arith in
    ap (λ l. (n, y) ∷ l) (enumerate-push (n + 1) xs x ∙ ap {B = List (ℕ × ℕ)} (λ k. enumerate_from (n + 1) xs ++ (k, x) ∷ []) e)

-- the rows of one more agent
pub row_sets-push : (columns : ℕ) (demands : List ℕ) (demand : ℕ) → row_sets columns (demands ++ demand ∷ []) ≡ row_sets columns demands ++ row_set columns (length demands) demand ∷ []
row_sets-push columns demands demand =
    let row : ℕ × ℕ → SetValue = λ (w : ℕ × ℕ). row_set columns w.0 w.1 in
    let none : 0 + length demands ≡ length demands = omega arith in
    ap (map row) (enumerate-push 0 demands demand)
    ∙ map_push row (enumerate_from 0 demands) (0 + length demands, demand)
    ∙ ap (λ k. row_sets columns demands ++ row_set columns k demand ∷ []) none

-- how many cells a row has
pub length-row_cells : (columns agent : ℕ) → length (row_cells columns agent) ≡ columns
length-row_cells columns agent = length-map-range_with_len (cell_of agent) 0 columns

row_cell : (columns agent k : ℕ) (d : Cell) → k < length (row_cells columns agent) → get_or (row_cells columns agent) k d ≡ cell_of agent k
row_cell columns agent k d l =
    get_or-map-range_with_len (cell_of agent) 0 columns k k d (omega (arith, length-row_cells columns agent)) (omega arith)

-- a row is a lawful set
pub row_is_lawful : (columns agent demand : ℕ) → demand ≤ 1000 → IsQuotaSet (row_set columns agent demand)
row_is_lawful columns agent demand few = record {
  side = inl refl;
  rise = λ i j d l m. rw (row_cell columns agent i d (omega arith), row_cell columns agent j d m) (inr (refl, l));
  quotas = omega arith;
  limit = few;
}

-- and in range
pub row_is_inside : (agents columns agent demand : ℕ) → agent < agents → IsInRange agents columns (row_set columns agent demand)
row_is_inside agents columns agent demand known k d l =
    rw (row_cell columns agent k d l) (known, omega (arith, length-row_cells columns agent))

-- how many rows there are, and how many cells they have in all
pub length-row_sets : (columns : ℕ) (demands : List ℕ) → length (row_sets columns demands) ≡ length demands
length-row_sets columns demands = length-map (enumerate_from 0 demands) (λ (w : ℕ × ℕ). row_set columns w.0 w.1) ∙ length-enumerate_from 0 demands

cells_in-from : (columns n : ℕ) (demands : List ℕ) → cells_in (map (λ w. row_set columns w.0 w.1) (enumerate_from n demands)) ≡ length demands * columns
cells_in-from columns n [] = omega arith
cells_in-from columns n (d ∷ demands) =
    let rows : List SetValue = map (λ w. row_set columns w.0 w.1) (enumerate_from (n + 1) demands) in
    let more : suc (length demands) * columns ≡ columns + length demands * columns = grind arith in
    omega (arith, sum_by-cons (λ (s : SetValue). length s.cells) (row_set columns n d) rows, length-row_cells columns n, cells_in-from columns (n + 1) demands, more)

pub cells_in-row_sets : (columns : ℕ) (demands : List ℕ) → cells_in (row_sets columns demands) ≡ length demands * columns
cells_in-row_sets columns demands = cells_in-from columns 0 demands

-- the rows of the first agents and one more
pub row_sets-next : (columns : ℕ) (demands : List ℕ) (agent : ℕ) → agent < length demands
    → row_sets columns (take (agent + 1) demands) ≡ row_sets columns (take agent demands) ++ row_set columns agent (get_or demands agent 0) ∷ []
row_sets-next columns demands agent known =
    let many : length (take agent demands) ≡ agent = length-take-le agent demands (omega arith) in
    ap (row_sets columns) (take_more demands agent 0 known)
    ∙ row_sets-push columns (take agent demands) (get_or demands agent 0)
    ∙ ap (λ k. row_sets columns (take agent demands) ++ row_set columns k (get_or demands agent 0) ∷ []) many

-- there is room for one more row
pub rows_fit : (columns : ℕ) (sets : List SetValue) (demands : List ℕ) (agent : ℕ) → agent < length demands
    → length sets + length demands ≤ 2000 → cells_in sets + length demands * columns ≤ 1201000
    → (length (sets ++ row_sets columns (take agent demands)) < 2000) × (cells_in (sets ++ row_sets columns (take agent demands)) + columns ≤ 1201000)
rows_fit columns sets demands agent known many cells =
    let rows = row_sets columns (take agent demands) in
    let size : length (take agent demands) ≡ agent = length-take-le agent demands (omega arith) in
    let before : length rows ≡ agent = length-row_sets columns (take agent demands) ∙ size in
    let cells_before : cells_in rows ≡ agent * columns = cells_in-row_sets columns (take agent demands) ∙ ap (λ k. k * columns) size in
    let more : suc agent * columns ≤ length demands * columns = mul-le-mul_right columns known in
    let step : suc agent * columns ≡ columns + agent * columns = grind arith in
    (omega (arith, length-append sets rows, before), omega (arith, sum_by-append (λ (s : SetValue). length s.cells) sets rows, cells_before, more, step))

-- the family after one more row
pub row_added : (start family : FamilyValue) (columns : ℕ) (demands : List ℕ) (agent : ℕ) (row : SetValue) → agent < length demands
    → family ≡ record start { sets = start.sets ++ row_sets columns (take agent demands) } → row ≡ row_set columns agent (get_or demands agent 0)
    → record family { sets = family.sets ++ row ∷ [] } ≡ record start { sets = start.sets ++ row_sets columns (take (agent + 1) demands) }
row_added start family columns demands agent row known before is =
    let rows = row_sets columns (take agent demands) in
    let last = row_set columns agent (get_or demands agent 0) in
    ap (λ (f : FamilyValue). record f { sets = f.sets ++ row ∷ [] }) before
    ∙ ap (λ (l : List SetValue). record start { sets = l })
    (ap (λ s. start.sets ++ rows ++ s ∷ []) is ∙ append_assoc start.sets rows (last ∷ []) ∙ ap (λ l. start.sets ++ l) (sym (row_sets-next columns demands agent known)))

-- so the family with the rows of the first agents has room for the next
pub room_left : (start family : FamilyValue) (columns : ℕ) (demands : List ℕ) (agent : ℕ) → agent < length demands
    → length start.sets + length demands ≤ 2000 → cells_in start.sets + length demands * columns ≤ 1201000
    → family ≡ record start { sets = start.sets ++ row_sets columns (take agent demands) }
    → (length family.sets < 2000) × (cells_in family.sets + columns ≤ 1201000)
room_left start family columns demands agent known many cells is = rw is (rows_fit columns start.sets demands agent known many cells)
