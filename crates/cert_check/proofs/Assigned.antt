-- Rows, lists, ceilings and caps without a fault are a random assignment, and the other way round.
use Rattle.std.proofs.Common.{◌≡◌, ℕ, zero, suc, ◌+◌, ◌*◌, ◌<◌, ◌≤◌, [], ◌∷◌, length, refl, ap, ◌∙◌, arith, true, false, not, Some, None, inl, inr, All, get_or}
use Rattle.std.specs.Prelude.{slice_get, nat_eq, nat_lt}
use Rattle.std.specs.Set.{is_member}
use Rattle.std.proofs.lemmas.Bool.{cases_lt, not-true, ltb-false, and_parts, eqb-true, le-ltb, lt-ltb, ltb-true, both_ways, eq-eqb}
use Rattle.std.proofs.lemmas.Option.{slice_get-get_or}
use Rattle.std.proofs.lemmas.List.{get_or_past}
use Rattle.std.proofs.lemmas.List.Elements.{All-from_get_or}
use Rattle.std.proofs.lemmas.List.Sums.{sum_by-cons}
use Rattle.std.proofs.Math.Nat.{mul-le-mul_right}
use Rattle.definitions.specs.declared.Cell.{Cell}
use Rattle.definitions.specs.Sets.{cell_of, cell_index, holds, set_sum, row_sum, units_of, ScaledValue, IsScaledMatrix}
use Rattle.definitions.specs.Values.{ProblemValue, IsProblem, limits_of, stated_sets, list_at, demand_at, is_capped, column_count, listed_cells}
use Rattle.definitions.specs.Assignment.{IsRandomAssignment}
use Rattle.definitions.proofs.Sums.{unit_at_within, unit_at_past}
use Rattle.definitions.specs.Laws.{limit_of_set, limit_of_cell, capped_cells}
use Rattle.definitions.proofs.Capped.{each_limit, capped_below}
use Rattle.std.proofs.lemmas.List.Elements.{filter_passes}
use Rattle.definitions.proofs.Families.{stated_count}
use Rattle.definitions.proofs.Listed.{listed_column, column_listed}
use Rattle.certificate_laws.proofs.Limits.{IsKept, stated_kept, capped_kept}
use Rattle.cert_check.specs.PriceFaults.{IsMatrixOf, row_look, off_list_look, ceiling_look, cap_look, row_fault, off_list_fault, ceiling_fault, cap_fault, stated_at, stated_sum, stated_room, no_set}
use Rattle.cert_check.proofs.Quiet.{quiet, silent, either_false, not_false, false_by, quiet_at, silent_at, quiet_in, silent_in}

-- no units below the last row
pub off_rows : (x : ScaledValue) (c : Cell) → IsScaledMatrix x → c.object < x.columns → x.agents ≤ c.agent → units_of x c ≡ 0
off_rows x c h l m =
    let more : x.agents * x.columns ≤ c.agent * x.columns = mul-le-mul_right x.columns m in
    let past : length x.units ≤ cell_index x.columns c = omega (arith, more, h.shape) in
    unit_at_within x.columns x.units c l ∙ get_or_past x.units (cell_index x.columns c) 0 past

module _ (p : ProblemValue) (x : ScaledValue) (h : IsProblem p) (m : IsScaledMatrix x) (s : IsMatrixOf p x) where
  rows : row_fault p x ≡ None → (i : ℕ) → i < length p.agents → row_sum (units_of x) (column_count p) i ≡ demand_at p i * x.denominator
  rows e i l = eqb-true (row_sum (units_of x) (column_count p) i) (demand_at p i * x.denominator) (not_false _ (quiet _ _ (quiet_at (row_look p x) (length p.agents) e i l)))

  no_row : ((i : ℕ) → i < length p.agents → row_sum (units_of x) (column_count p) i ≡ demand_at p i * x.denominator) → row_fault p x ≡ None
  no_row g = silent_at (row_look p x) (length p.agents) (λ i l. silent _ _ (ap not (eq-eqb (row_sum (units_of x) (column_count p) i) (demand_at p i * x.denominator) (g i l))))

  -- a cell that isn't listed is off its agent's list
  unlisted : (c : Cell) → c.agent < length p.agents → holds (listed_cells p) c ≡ false → is_member nat_eq (list_at p c.agent) c.object ≡ false
  unlisted c l e = false_by (is_member nat_eq (list_at p c.agent) c.object)
      (λ t. both_ways (holds (listed_cells p) c) e (column_listed p c.agent c.object (omega (arith, h.lists_many)) t))

  zero_here : (n : ℕ) → nat_lt 0 n ≡ false → n ≡ 0
  zero_here zero e = refl
  zero_here (suc n) e = absurd (both_ways (nat_lt 0 (suc n)) e (lt-ltb 0 (suc n) (omega arith)))

  listed : off_list_fault p x ≡ None → (c : Cell) → holds (listed_cells p) c ≡ false → units_of x c ≡ 0
  listed e c off = elim (cases_lt c.object x.columns) [
    | inr past ↦ unit_at_past x.columns x.units c past
    | inl within ↦ elim (cases_lt c.agent x.agents) [
      | inr below ↦ off_rows x c m within below
      | inl inside ↦
          let i : c.agent < length p.agents = omega (arith, s.agents) in
          let a : c.object < column_count p = omega (arith, s.columns) in
          zero_here (units_of x c) (either_false _ _ (quiet _ _ (quiet_in (off_list_look p x) (λ _. column_count p) (length p.agents) e c.agent c.object i a)) (ap not (unlisted c i off)))
    ]
  ]

  -- a cell off its agent's list isn't listed
  off_list : (i a : ℕ) → is_member nat_eq (list_at p i) a ≡ false → holds (listed_cells p) (cell_of i a) ≡ false
  off_list i a e = false_by (holds (listed_cells p) (cell_of i a)) (λ t. both_ways (is_member nat_eq (list_at p i) a) e (listed_column p (cell_of i a) t))

  no_off_list : ((c : Cell) → holds (listed_cells p) c ≡ false → units_of x c ≡ 0) → off_list_fault p x ≡ None
  no_off_list g = silent_in (off_list_look p x) (λ _. column_count p) (length p.agents)
      (λ i a l k. silent _ _ (false_by _ (λ t.
      let parts = and_parts (not (is_member nat_eq (list_at p i) a)) (nat_lt 0 (units_of x (cell_of i a))) t in
      let some : 0 < units_of x (cell_of i a) = ltb-true 0 (units_of x (cell_of i a)) parts.1 in
      let none : units_of x (cell_of i a) ≡ 0 = g (cell_of i a) (off_list i a (not-true (is_member nat_eq (list_at p i) a) parts.0)) in
      omega (arith, some, none))))

  pub stated_found : (k : ℕ) → k < p.stated → slice_get (stated_sets p) k ≡ Some (stated_at p k)
  stated_found k l = slice_get-get_or (stated_sets p) k no_set (omega (arith, stated_count p h))

  ceilings : ceiling_fault p x ≡ None → (k : ℕ) → k < p.stated → stated_sum p x k ≤ stated_room p x k
  ceilings e k l = ltb-false (stated_room p x k) (stated_sum p x k) (quiet _ _ (quiet_at (ceiling_look p x) p.stated e k l))

  no_ceiling : ((k : ℕ) → k < p.stated → stated_sum p x k ≤ stated_room p x k) → ceiling_fault p x ≡ None
  no_ceiling g = silent_at (ceiling_look p x) p.stated (λ k l. silent _ _ (le-ltb (stated_room p x k) (stated_sum p x k) (g k l)))

  caps : cap_fault p x ≡ None → (i a : ℕ) → i < length p.agents → a < column_count p → is_capped p (cell_of i a) ≡ true → units_of x (cell_of i a) ≤ x.denominator
  caps e i a l k c = ltb-false x.denominator (units_of x (cell_of i a)) (either_false _ _ (quiet _ _ (quiet_in (cap_look p x) (λ _. column_count p) (length p.agents) e i a l k)) c)

  no_cap : ((i a : ℕ) → i < length p.agents → a < column_count p → is_capped p (cell_of i a) ≡ true → units_of x (cell_of i a) ≤ x.denominator) → cap_fault p x ≡ None
  no_cap g = silent_in (cap_look p x) (λ _. column_count p) (length p.agents)
      (λ i a l k. silent _ _ (false_by _ (λ t.
      let parts = and_parts (is_capped p (cell_of i a)) (nat_lt x.denominator (units_of x (cell_of i a))) t in
      let above : x.denominator < units_of x (cell_of i a) = ltb-true x.denominator (units_of x (cell_of i a)) parts.1 in
      omega (arith, above, g i a l k parts.0))))

module _ (p : ProblemValue) (x : ScaledValue) (h : IsProblem p) (m : IsScaledMatrix x) (s : IsMatrixOf p x) where
  -- what stated sets and capped cells keep, all limits keep
  kept : ((k : ℕ) → k < p.stated → stated_sum p x k ≤ stated_room p x k)
      → ((i a : ℕ) → i < length p.agents → a < column_count p → is_capped p (cell_of i a) ≡ true → units_of x (cell_of i a) ≤ x.denominator)
      → All (IsKept (units_of x) x.denominator) (limits_of p)
  kept f g =
      each_limit p h (IsKept (units_of x) x.denominator)
      (All-from_get_or (λ q. IsKept (units_of x) x.denominator (limit_of_set q)) (stated_sets p) no_set (λ k l. f k (omega (arith, stated_count p h))))
      (λ k d l. cell_kept (get_or (capped_cells p) k d) (filter_passes (is_capped p) (listed_cells p) k d l))
    where
      cell_kept : (c : Cell) → is_capped p c ≡ true → IsKept (units_of x) x.denominator (limit_of_cell c)
      cell_kept c e =
          let below : c.object < column_count p = omega (arith, capped_below p c e) in
          let one : set_sum (units_of x) (c ∷ []) ≡ units_of x c + 0 = sum_by-cons (units_of x) c [] in
          elim (cases_lt c.agent x.agents) [
            | inl inside ↦ omega (arith, one, g c.agent c.object (omega (arith, s.agents)) below e)
            | inr past ↦ omega (arith, one, off_rows x c m (omega (arith, s.columns)) past)
          ]

  -- the four checks are those of a random assignment
  pub assigned : row_fault p x ≡ None → off_list_fault p x ≡ None → ceiling_fault p x ≡ None → cap_fault p x ≡ None → IsRandomAssignment p x.denominator (units_of x)
  assigned a b c d = record {
    one = m.one;
    rows = rows p x h m s a;
    listed = listed p x h m s b;
    kept = kept (ceilings p x h m s c) (caps p x h m s d);
  }

  pub unassigned : IsRandomAssignment p x.denominator (units_of x) → (row_fault p x ≡ None) × (off_list_fault p x ≡ None) × (ceiling_fault p x ≡ None) × (cap_fault p x ≡ None)
  unassigned r = (
    no_row p x h m s r.rows,
    no_off_list p x h m s r.listed,
    no_ceiling p x h m s (λ k l. stated_kept p (units_of x) x.denominator k (stated_at p k) r.kept (stated_found p x h m s k l)),
    no_cap p x h m s (λ i a l k c. capped_kept p (units_of x) x.denominator (cell_of i a) h r.kept c),
  )
