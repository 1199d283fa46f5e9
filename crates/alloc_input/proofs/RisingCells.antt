-- The cells of a matrix rise, and so do those that a test picks.
use Rattle.std.proofs.Common.{◌≡◌, ◌+◌, ◌<◌, ◌≤◌, ◌++◌, ◌∷◌, ◌⊎◌, [], ℕ, suc, zero, List, length, refl, sym, ap, map, inl, inr, arith, take, get_or, All, ◌∙◌}
use Rattle.std.specs.Prelude.{flat_map}
use Rattle.std.specs.List.{range_with_len}
use Rattle.std.proofs.lemmas.List.{take_more, map_push}
use Rattle.std.proofs.lemmas.List.Elements.{All-nil, All-cons, All-append, All-weaker, All-filter}
use Rattle.std.proofs.lemmas.List.Kept.{AllPairs-cons, AllPairs-filter}
use Rattle.definitions.specs.declared.Cell.{Cell}
use Rattle.definitions.specs.Sets.{SetValue, IsQuotaSet, IsInRange, IsCellWithin, IsRising, IsBefore, cell_of, row_cells, all_cells}
use Rattle.definitions.proofs.Members.{cell_test, member_at}
use Rattle.alloc_input.specs.Marked.{cells_in_rows, marked_cells}
use Rattle.alloc_input.specs.Reading.{set_value, values, IsOpen, AreQuotas}
use Rattle.alloc_input.specs.declared.quotas.marks.Marks.{Marks}
use Rattle.alloc_input.specs.declared.quotas.open_sets.OpenSet.{OpenSet}
use Rattle.definitions.specs.Sets.{same_cell}
use Rattle.definitions.proofs.Cells.{member_is_within}
use Rattle.alloc_input.proofs.CellFacts.{in_rows_test}

-- a cell at or after a place
From : ℕ → ℕ → Cell → Type 0
From i a c = (i < c.agent) ⊎ ((i ≡ c.agent) × (a ≤ c.object))

row_from : (i s n : ℕ) → All (From i s) (map (cell_of i) (range_with_len s n))
unfolding From
row_from i s zero = All-nil (From i s)
row_from i s (suc n) =
    All-cons (From i s) (cell_of i s) (map (cell_of i) (range_with_len (s + 1) n)) (inr (refl, omega arith))
    (All-weaker (From i (s + 1)) (From i s) (λ c h. lower i s c h) (map (cell_of i) (range_with_len (s + 1) n)) (row_from i (s + 1) n))
  where
    lower : (i s : ℕ) (c : Cell) → From i (s + 1) c → From i s c
    lower i s c (inl l) = inl l
    lower i s c (inr h) = inr (h.0, (let l = h.1 in omega arith))

rows_from : (n a k : ℕ) → All (λ (c : Cell). a ≤ c.agent) (flat_map (row_cells n) (range_with_len a k))
unfolding From
rows_from n a zero = All-nil (λ (c : Cell). a ≤ c.agent)
rows_from n a (suc k) =
    All-append (λ (c : Cell). a ≤ c.agent) (row_cells n a) (flat_map (row_cells n) (range_with_len (a + 1) k))
    (All-weaker (From a 0) (λ (c : Cell). a ≤ c.agent) (λ c h. first a c h) (row_cells n a) (row_from a 0 n))
    (All-weaker (λ (c : Cell). a + 1 ≤ c.agent) (λ (c : Cell). a ≤ c.agent) (λ c h. omega arith) (flat_map (row_cells n) (range_with_len (a + 1) k)) (rows_from n (a + 1) k))
  where
    first : (a : ℕ) (c : Cell) → From a 0 c → a ≤ c.agent
    first a c (inl l) = omega arith
    first a c (inr h) = (let e = h.0 in omega (arith, e))

-- the rest of a row before rows after it
row_rises : (i s n : ℕ) (later : List Cell) → All (λ (c : Cell). i + 1 ≤ c.agent) later → IsRising later → IsRising (map (cell_of i) (range_with_len s n) ++ later)
unfolding From
row_rises i s zero later h r = r
row_rises i s (suc n) later h r =
    AllPairs-cons IsBefore (cell_of i s) (map (cell_of i) (range_with_len (s + 1) n) ++ later)
    (All-append (IsBefore (cell_of i s)) (map (cell_of i) (range_with_len (s + 1) n)) later
    (All-weaker (From i (s + 1)) (IsBefore (cell_of i s)) (λ c f. here i s c f) (map (cell_of i) (range_with_len (s + 1) n)) (row_from i (s + 1) n))
    (All-weaker (λ (c : Cell). i + 1 ≤ c.agent) (IsBefore (cell_of i s)) (λ c l. inl (omega arith)) later h))
    (row_rises i (s + 1) n later h r)
  where
    here : (i s : ℕ) (c : Cell) → From i (s + 1) c → IsBefore (cell_of i s) c
    here i s c (inl l) = inl l
    here i s c (inr h) = inr (h.0, (let l = h.1 in omega arith))

rows_rise : (n a k : ℕ) → IsRising (flat_map (row_cells n) (range_with_len a k))
rows_rise n a zero = λ i j d l m. absurd (omega arith)
rows_rise n a (suc k) = row_rises a 0 n (flat_map (row_cells n) (range_with_len (a + 1) k)) (rows_from n (a + 1) k) (rows_rise n (a + 1) k)

-- the marked cells rise
pub marked-rise : (s : Marks) → IsRising (marked_cells s)
unfolding cells_in_rows
marked-rise s = AllPairs-filter IsBefore (in_rows_test s.rows.items) (all_cells s.agents s.columns) (rows_rise s.columns 0 s.agents)

-- and lie in the matrix
pub marked-within : (s : Marks) → All (IsCellWithin s.agents s.columns) (marked_cells s)
unfolding cells_in_rows
marked-within s =
    All-filter (in_rows_test s.rows.items) (IsCellWithin s.agents s.columns) (all_cells s.agents s.columns)
    (λ k d l. member_is_within s.agents s.columns _ (member_at same_cell cell_test (all_cells s.agents s.columns) k d l))

one_or_two : (side : ℕ) → 1 ≤ side → side ≤ 2 → (side ≡ 1) ⊎ (side ≡ 2)
one_or_two zero l m = absurd (omega arith)
one_or_two (suc zero) l m = inl refl
one_or_two (suc (suc n)) l m = inr (omega arith)

-- a set of marked cells is lawful
pub closed-lawful : (s : OpenSet) (cells : List Cell) → AreQuotas s.side s.floor s.ceiling → cells ≡ marked_cells s.marks → IsQuotaSet (record { side = s.side; floor = s.floor; ceiling = s.ceiling; cells = cells })
closed-lawful s cells q e = record {
  side = one_or_two s.side q.first q.last;
  rise = rw e (marked-rise s.marks);
  quotas = q.ordered;
  limit = q.limited;
}

-- it lies in a matrix with as many agents and no fewer columns
pub closed-within : (m n columns : ℕ) (s : OpenSet) (v : SetValue) → v ≡ set_value s → IsOpen m n s → n ≤ columns → IsInRange m columns v
closed-within m n columns s v e o l = rw e (All-weaker (IsCellWithin s.marks.agents s.marks.columns) (IsCellWithin m columns)
    (λ c h. (let a = o.agents in let b = o.columns in (omega (arith, h.0, a), omega (arith, h.1, b, l)))) (marked_cells s.marks) (marked-within s.marks))

-- one more set
pub values-more : (sets : List OpenSet) (i : ℕ) (s : OpenSet) → i < length sets → s ≡ get_or sets i s → values (take (i + 1) sets) ≡ values (take i sets) ++ set_value s ∷ []
values-more sets i s l e = ap values (take_more sets i s l) ∙ map_push set_value (take i sets) (get_or sets i s) ∙ ap (λ x. values (take i sets) ++ set_value x ∷ []) (sym e)
