-- The cells of all lists of a lawful problem, and sums over the places of lists.
use Rattle.std.proofs.Common.{◌≡◌, ℕ, ◌+◌, ◌<◌, ◌≤◌, List, [], ◌∷◌, ◌++◌, map, length, get_or, refl, ap, sym, ◌∙◌, arith, Bool, true, false, cond, subst, inl, inr}
use Rattle.std.specs.Prelude.{sum_by, flat_map, slice_get, nat_eq, unwrap_or}
use Rattle.std.specs.List.{AllByRecursion, IsDistinct, range_with_len, enumerate_from}
use Rattle.std.specs.Set.{is_member}
use Rattle.std.proofs.lemmas.Bool.{or_cases, and_parts, both_ways, false_from_ne_true, eqb-true, or_left, or_right, and_from}
use Rattle.std.proofs.lemmas.Option.{unwrap_or-slice_get}
use Rattle.std.proofs.lemmas.List.Elements.{recursion_from_All}
use Rattle.std.proofs.lemmas.List.FromFn.{fill_by_all, length-enumerate_from, get_or-enumerate_from}
use Rattle.definitions.specs.declared.Cell.{Cell}
use Rattle.definitions.specs.Sets.{cell_of, same_cell, holds, row_sum}
use Rattle.definitions.specs.Values.{ProblemValue, IsProblem, column_count, list_at, listed_cells}
use Rattle.definitions.proofs.Members.{number_test, distinct_first, distinct_rest, distinct_none, cell_test, member_append, distinct_append}
use Rattle.definitions.proofs.Sums.{sum_same, sum_same_all, restrict, sum_mapped, sum_flat}
use Rattle.definitions.proofs.Ranges.{distinct_range, member_of_range}
use Rattle.definitions.proofs.Cells.{row_member, row_distinct}
use Rattle.definitions.proofs.Problems.{list_lawful, list_distinct}

-- the places of these agents, where l gives each agent's list
abbrev pub places_of : (ℕ → List ℕ) → List ℕ → List Cell
places_of l agents = flat_map (λ i. map (cell_of i) (l i)) agents

-- a cell among the places is one of an agent's list
pub place_listed : (l : ℕ → List ℕ) (agents : List ℕ) (c : Cell) → holds (places_of l agents) c ≡ true
    → (is_member nat_eq agents c.agent ≡ true) × (is_member nat_eq (l c.agent) c.object ≡ true)
place_listed l [] c h = absurd (cc)
place_listed l (i ∷ agents) c h =
    elim (or_cases (holds (map (cell_of i) (l i)) c) (holds (places_of l agents) c) (sym (member_append same_cell cell_test (map (cell_of i) (l i)) (places_of l agents) c) ∙ h)) [
      | inl here ↦
          let parts = and_parts (nat_eq c.agent i) (is_member nat_eq (l i) c.object) (sym (row_member i (l i) c) ∙ here) in
          let same : c.agent ≡ i = eqb-true c.agent i parts.0 in
          (or_left (nat_eq c.agent i) (is_member nat_eq agents c.agent) parts.0, subst (λ n. is_member nat_eq (l n) c.object ≡ true) (sym same) parts.1)
      | inr later ↦
          let (m, n) = place_listed l agents c later in
          (or_right (nat_eq c.agent i) (is_member nat_eq agents c.agent) m, n)
    ]

-- and a cell of an agent's list is among the places
place_of_list : (l : ℕ → List ℕ) (agents : List ℕ) (i a : ℕ) → is_member nat_eq agents i ≡ true → is_member nat_eq (l i) a ≡ true → holds (places_of l agents) (cell_of i a) ≡ true
place_of_list l [] i a m n = absurd (cc)
place_of_list l (j ∷ agents) i a m n =
    member_append same_cell cell_test (map (cell_of j) (l j)) (places_of l agents) (cell_of i a)
    ∙ elim (or_cases (nat_eq i j) (is_member nat_eq agents i) m) [
      | inl here ↦
          or_left (holds (map (cell_of j) (l j)) (cell_of i a)) (holds (places_of l agents) (cell_of i a))
          (row_member j (l j) (cell_of i a) ∙ and_from (nat_eq i j) (is_member nat_eq (l j) a) here (subst (λ k. is_member nat_eq (l k) a ≡ true) (eqb-true i j here) n))
      | inr later ↦ or_right (holds (map (cell_of j) (l j)) (cell_of i a)) (holds (places_of l agents) (cell_of i a)) (place_of_list l agents i a later n)
    ]

-- the places of agents without repeats have no repeats
places_distinct : (l : ℕ → List ℕ) (agents : List ℕ) → ((i : ℕ) → IsDistinct nat_eq (l i)) → IsDistinct nat_eq agents → IsDistinct same_cell (places_of l agents)
places_distinct l [] d h = distinct_none same_cell
places_distinct l (i ∷ agents) d h =
    distinct_append same_cell cell_test (map (cell_of i) (l i)) (places_of l agents) (row_distinct i (l i) (d i)) (places_distinct l agents d (distinct_rest nat_eq i agents h))
    (λ c here later.
    let parts = and_parts (nat_eq c.agent i) (is_member nat_eq (l i) c.object) (sym (row_member i (l i) c) ∙ here) in
    let member = subst (λ n. is_member nat_eq agents n ≡ true) (eqb-true c.agent i parts.0) (place_listed l agents c later).0 in
    both_ways (is_member nat_eq agents i) (distinct_first nat_eq i agents h) member)

enumerated : (lists : List (List ℕ)) → enumerate_from 0 lists ≡ map (λ i. (i, unwrap_or (slice_get lists i) [])) (range_with_len 0 (length lists))
enumerated lists =
    fill_by_all (λ i. (i, unwrap_or (slice_get lists i) [])) (enumerate_from 0 lists) (length lists) (0, []) (length-enumerate_from 0 lists)
    (λ k l. get_or-enumerate_from 0 lists k (0, []) l ∙ pair k (0 + k) (omega arith) (get_or lists k []) (unwrap_or (slice_get lists k) []) (sym (unwrap_or-slice_get lists k [])))
  where
    pair : (k n : ℕ) → n ≡ k → (a b : List ℕ) → a ≡ b → ◌≡◌ {A = ℕ × List ℕ} (n, a) (k, b)
    pair k n e a b f = cc

flat_mapped : {X Y Z : Type 0} (g : Y → List Z) (f : X → Y) (xs : List X) → flat_map g (map f xs) ≡ flat_map (λ x. g (f x)) xs
flat_mapped g f [] = refl
flat_mapped g f (x ∷ xs) = ap (λ zs. g (f x) ++ zs) (flat_mapped g f xs)

-- the cells of all lists are the places of all agents
pub listed_places : (p : ProblemValue) → listed_cells p ≡ places_of (list_at p) (range_with_len 0 (length p.lists))
listed_places p =
    ap (flat_map (λ (w : ℕ × List ℕ). map (cell_of w.0) w.1)) (enumerated p.lists)
    ∙ flat_mapped (λ (w : ℕ × List ℕ). map (cell_of w.0) w.1) (λ i. (i, list_at p i)) (range_with_len 0 (length p.lists))

-- a sum over the cells of all lists goes agent by agent
pub sum_listed : (p : ProblemValue) (f : Cell → ℕ) → sum_by f (listed_cells p) ≡ sum_by (λ i. sum_by (λ a. f (cell_of i a)) (list_at p i)) (range_with_len 0 (length p.lists))
sum_listed p f =
    ap (sum_by f) (listed_places p) ∙ sum_flat f (λ i. map (cell_of i) (list_at p i)) (range_with_len 0 (length p.lists))
    ∙ sum_same (λ i. sum_by f (map (cell_of i) (list_at p i))) (λ i. sum_by (λ a. f (cell_of i a)) (list_at p i)) (range_with_len 0 (length p.lists))
    (λ i. sum_mapped f (cell_of i) (list_at p i))

-- a listed cell's column is on its agent's list
pub listed_column : (p : ProblemValue) (c : Cell) → holds (listed_cells p) c ≡ true → is_member nat_eq (list_at p c.agent) c.object ≡ true
listed_column p c h = (place_listed (list_at p) (range_with_len 0 (length p.lists)) c (sym (ap (λ cells. holds cells c) (listed_places p)) ∙ h)).1

-- a cell of an agent's list is listed
pub column_listed : (p : ProblemValue) (i a : ℕ) → i < length p.lists → is_member nat_eq (list_at p i) a ≡ true → holds (listed_cells p) (cell_of i a) ≡ true
column_listed p i a l m =
    ap (λ cells. holds cells (cell_of i a)) (listed_places p)
    ∙ place_of_list (list_at p) (range_with_len 0 (length p.lists)) i a (member_of_range 0 (length p.lists) i (omega arith) (omega arith)) m

-- no cell is listed twice
pub listed_distinct : (p : ProblemValue) → IsProblem p → IsDistinct same_cell (listed_cells p)
listed_distinct p h =
    subst (IsDistinct same_cell) (sym (listed_places p)) (places_distinct (list_at p) (range_with_len 0 (length p.lists)) (λ i. list_distinct p i h) (distinct_range 0 (length p.lists)))

off_cases : (b : Bool) (n : ℕ) → (b ≡ false → n ≡ 0) → cond b n 0 ≡ n
off_cases true n h = refl
off_cases false n h = sym (h refl)

-- a matrix that is 0 off the lists, cell by cell
pub off_lists : (p : ProblemValue) (x : Cell → ℕ) → ((c : Cell) → holds (listed_cells p) c ≡ false → x c ≡ 0) → (c : Cell) → cond (holds (listed_cells p) c) (x c) 0 ≡ x c
off_lists p x h c = off_cases (holds (listed_cells p) c) (x c) (h c)

-- the row of such a matrix adds up to the places of the agent's list
pub row_on_list : (p : ProblemValue) (x : Cell → ℕ) (i : ℕ) → IsProblem p → i < length p.agents → ((c : Cell) → holds (listed_cells p) c ≡ false → x c ≡ 0)
    → row_sum x (column_count p) i ≡ sum_by (λ a. x (cell_of i a)) (list_at p i)
row_on_list p x i h l off =
    let list = list_at p i in
    let columns = range_with_len 0 (column_count p) in
    let known : AllByRecursion (λ a. a ≤ length p.objects) list = recursion_from_All (λ a. a ≤ length p.objects) list (list_lawful p i h l).known in
    sum_mapped x (cell_of i) columns
    ∙ restrict nat_eq number_test (λ a. x (cell_of i a)) columns list (distinct_range 0 (column_count p)) (list_lawful p i h l).apart
    (λ a. off_cases (is_member nat_eq list a) (x (cell_of i a)) (λ e. off (cell_of i a) (false_from_ne_true (holds (listed_cells p) (cell_of i a)) (λ t. both_ways (is_member nat_eq list a) e (listed_column p (cell_of i a) t)))))
    ∙ sum_same_all (λ a. a ≤ length p.objects) (λ a. cond (is_member nat_eq columns a) (x (cell_of i a)) 0) (λ a. x (cell_of i a)) list
    (λ a k. ap (λ b. cond b (x (cell_of i a)) 0) (member_of_range 0 (column_count p) a (omega arith) (omega (arith, k)))) known
