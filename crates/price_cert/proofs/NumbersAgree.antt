-- The moments in order are the distinct moments of the table, so their numbers agree.
use Rattle.std.proofs.Common.{◌≡◌, ℕ, zero, suc, ◌+◌, ◌-◌, ◌*◌, ◌<◌, ◌≤◌, List, [], ◌∷◌, Bool, true, false, cond, ◌&&◌, length, map, get_or, take, drop, refl, ap, sym, ◌∙◌, subst, inl, inr, arith, length-take, length-drop}
use Rattle.std.specs.Prelude.{nat_eq, nat_le, nat_lt, filter, Contains}
use Rattle.std.specs.List.{IsDistinct}
use Rattle.std.specs.List.Sorted.{IsStrictlyIncreasing}
use Rattle.std.specs.Set.{is_member, unique_keys}
use Rattle.std.proofs.lemmas.Bool.{cases_lt, cases_order, leb-true, both_ways, or_cases, or_left, or_right, eqb-true, eq-eqb, ltb-true, and_parts, and_from, false_from_ne_true}
use Rattle.std.proofs.lemmas.List.{get_or-take, get_or-drop, get_or_past, length-map}
use Rattle.std.proofs.lemmas.List.Elements.{Contains-append_left, Contains-append_right, Contains-append_cases}
use Rattle.std.proofs.lemmas.List.Kept.{AllPairs-from_increasing}
use Rattle.std.proofs.lemmas.Map.Made.{IsDistinct-from_AllPairs, AllPairs-from_IsDistinct}
use Rattle.definitions.specs.declared.Cell.{Cell}
use Rattle.definitions.specs.Sets.{cell_of, same_cell, holds, unit_at, all_cells}
use Rattle.definitions.specs.Values.{Limit, ProblemValue, IsProblem, capped_limits, market_of, is_capped, list_at, demand_at, column_count}
use Rattle.definitions.specs.Eating.{full_at, moment_at}
use Rattle.definitions.specs.Certificate.{distinct_moments, moment_number}
use Rattle.definitions.proofs.Cells.{member_is_within, index_within}
use Rattle.definitions.proofs.Capped.{caps_listed, capped_distinct, capped_below, member_capped}
use Rattle.definitions.proofs.Members.{number_test, cell_test, cell_decides, member_of_filter, member_at, member_place, distinct_none, distinct_more, all_from_members, every_by_count}
use Rattle.definitions.specs.Laws.{limit_of_cell, capped_cells}
use Rattle.definitions.proofs.Sums.{all_units, unit_at_within}
use Rattle.side_laws.proofs.Members.{sum_of_members}
use Rattle.eating_laws.proofs.Full.{cells_at, full_each, full_below, full_from}
use Rattle.eating_laws.proofs.Moments.{moment_listed}
use Rattle.eating.specs.Answers.{IsEatenBy, cap_at}
use Rattle.eating.specs.Eaten.{EatenValue}
use Rattle.eating.proofs.Counts.{capped_length}
use Rattle.eating.proofs.Limits.{limits_many}
use Rattle.price_cert.specs.Moments.{IsNumbering, number_in}
use Rattle.price_cert.proofs.LeftOut.{one_cell}

-- an element is a member, and a member is an element
pub member_of : (xs : List ℕ) (x : ℕ) → Contains xs x → is_member nat_eq xs x ≡ true
member_of xs x (k, l, e) = subst (λ z. is_member nat_eq xs z ≡ true) e (member_at nat_eq number_test xs k x l)

pub contains_of : (xs : List ℕ) (x : ℕ) → is_member nat_eq xs x ≡ true → Contains xs x
contains_of xs x m = (let (i, l, e) = member_place nat_eq number_test x xs m in (i, l, e x))

-- distinct keys are elements, each once
key_is_member : (xs : List ℕ) (x : ℕ) → is_member nat_eq (unique_keys nat_eq xs) x ≡ true → is_member nat_eq xs x ≡ true
key_is_member [] x m = m
key_is_member (y ∷ xs) x m = pick (is_member nat_eq xs y) m (key_is_member xs x)
  where
    pick : (b : Bool) → is_member nat_eq (cond b (unique_keys nat_eq xs) (y ∷ unique_keys nat_eq xs)) x ≡ true → (is_member nat_eq (unique_keys nat_eq xs) x ≡ true → is_member nat_eq xs x ≡ true)
        → is_member nat_eq (y ∷ xs) x ≡ true
    pick true k go = or_right (nat_eq x y) (is_member nat_eq xs x) (go k)
    pick false k go = elim (or_cases (nat_eq x y) (is_member nat_eq (unique_keys nat_eq xs) x) k) [
      | inl here ↦ or_left (nat_eq x y) (is_member nat_eq xs x) here
      | inr later ↦ or_right (nat_eq x y) (is_member nat_eq xs x) (go later)
    ]

keys_distinct : (xs : List ℕ) → IsDistinct nat_eq (unique_keys nat_eq xs)
keys_distinct [] = distinct_none nat_eq
keys_distinct (y ∷ xs) = pick (is_member nat_eq xs y) refl (keys_distinct xs)
  where
    pick : (b : Bool) → is_member nat_eq xs y ≡ b → IsDistinct nat_eq (unique_keys nat_eq xs) → IsDistinct nat_eq (cond b (unique_keys nat_eq xs) (y ∷ unique_keys nat_eq xs))
    pick true e d = d
    pick false e d =
        distinct_more nat_eq y (unique_keys nat_eq xs) (false_from_ne_true (is_member nat_eq (unique_keys nat_eq xs) y) (λ m. both_ways (is_member nat_eq xs y) e (key_is_member xs y m))) d

rising_distinct : (xs : List ℕ) → IsStrictlyIncreasing xs → IsDistinct nat_eq xs
rising_distinct xs r =
    IsDistinct-from_AllPairs {eq = nat_eq} (λ x y. (eqb-true x y, eq-eqb x y)) xs (λ i j d l m e. (let less = AllPairs-from_increasing xs r i j d l m in absurd (omega (arith, less, e))))

-- a member of a list made by a function
mapped_member : (f : Cell → ℕ) (cells : List Cell) (m : ℕ) → is_member nat_eq (map f cells) m ≡ true → (c : Cell) × (holds cells c ≡ true) × (f c ≡ m)
mapped_member f [] m h = absurd (both_ways false refl h)
mapped_member f (c ∷ cells) m h = elim (or_cases (nat_eq m (f c)) (is_member nat_eq (map f cells) m) h) [
  | inl here ↦ (c, or_left (same_cell c c) (holds cells c) (cell_test.self c), sym (eqb-true m (f c) here))
  | inr later ↦ (let (k, held, e) = mapped_member f cells m later in (k, or_right (same_cell k c) (holds cells k) held, e))
]

-- the cells of the limit of a cell
own_cells : (cells : List Cell) (k : ℕ) (none : Cell) → k < length cells → cells_at (map limit_of_cell cells) k ≡ get_or cells k none ∷ []
own_cells [] k none l = absurd (omega arith)
own_cells (c ∷ cells) zero none l = refl
own_cells (c ∷ cells) (suc k) none l = own_cells cells k none (omega arith)

module _ (p : ProblemValue) (h : IsProblem p) (e : List ℕ) (v : EatenValue) (by : IsEatenBy p e v) where
  abbrev d : ℕ
  d = v.shares.denominator

  abbrev capped : List Limit
  capped = capped_limits 0 (market_of p).agents

  abbrev later : List ℕ
  later = drop p.stated e

  stated_room : p.stated + length capped ≡ length e
  stated_room = (let size = by.table.size in omega (arith, size, limits_many p h, capped_length 0 (market_of p).agents))

  later_at : (j : ℕ) → moment_at later j ≡ get_or e (p.stated + j) 0
  later_at j = get_or-drop p.stated e j 0

  -- a cap before the end is a moment of the table
  cap_member : (m : ℕ) → m < d → is_member nat_eq v.caps m ≡ true → is_member nat_eq e m ≡ true
  cap_member m early held =
      let shape : length v.caps ≡ length p.agents * column_count p = by.caps.many in
      let (c, inside, is) = mapped_member (unit_at (column_count p) v.caps) (all_cells (length p.agents) (column_count p)) m
      (subst (λ xs. is_member nat_eq xs m ≡ true) (sym (all_units (length p.agents) (column_count p) v.caps shape)) held) in
      let within = member_is_within (length p.agents) (column_count p) c inside in
      let at : unit_at (column_count p) v.caps c ≡ cap_at p d e c.agent c.object = by.caps.each c.agent c.object within.0 within.1 in
      let listed = full_each (λ x. x < d → is_member nat_eq e x ≡ true) d capped later c.agent c.object (λ l. absurd (omega (arith, l)))
      (λ j l k. subst (λ x. is_member nat_eq e x ≡ true) (sym (later_at j)) (member_at nat_eq number_test e (p.stated + j) 0 (inside_e j l))) in
      subst (λ x. is_member nat_eq e x ≡ true) (sym at ∙ is) (listed (let same = sym at ∙ is in omega (arith, same, early)))
    where
      inside_e : (j : ℕ) → j < length later → p.stated + j < length e
      inside_e j l = (let cut = length-drop p.stated e in omega (arith, l, cut))

  capped_many : length capped ≡ length (capped_cells p)
  capped_many = ap length (caps_listed p h) ∙ length-map (capped_cells p) limit_of_cell

  abbrev cap_cell : ℕ → Cell
  cap_cell x = get_or (capped_cells p) x (cell_of 0 0)

  cap_cells : (x : ℕ) → x < length (capped_cells p) → cells_at capped x ≡ cap_cell x ∷ []
  cap_cells x l = ap (λ limits. cells_at limits x) (caps_listed p h) ∙ own_cells (capped_cells p) x (cell_of 0 0) l

  -- a capped cell has one limit of its own
  one_cap : (x j : ℕ) → x < length (capped_cells p) → j < length (capped_cells p) → cap_cell x ≡ cap_cell j → x ≡ j
  one_cap x j l m e =
      let apart = AllPairs-from_IsDistinct cell_decides (capped_cells p) (capped_distinct p h) in
      elim (cases_order x j) [
        | inl same ↦ same
        | inr (inl less) ↦ absurd (apart x j (cell_of 0 0) less m e)
        | inr (inr more) ↦ absurd (apart j x (cell_of 0 0) more l (sym e))
      ]

  -- and a known agent
  cap_agent : (c : Cell) → is_capped p c ≡ true → c.agent < length p.agents
  cap_agent c is = elim (cases_lt c.agent (length p.demands)) [
    | inl less ↦ (let many = h.demands_many in omega (arith, less, many))
    | inr more ↦ (let two : 2 ≤ demand_at p c.agent = leb-true 2 (demand_at p c.agent)
        (and_parts (nat_le 2 (demand_at p c.agent)) (is_member nat_eq (list_at p c.agent) c.object && nat_lt c.object (length p.objects)) is).0 in
        absurd (omega (arith, two, get_or_past p.demands c.agent 0 more)))
  ]

  -- the moment of a capped cell's own limit stands among the caps
  cap_stands : (x : ℕ) → x < length capped → is_member nat_eq v.caps (moment_at later x) ≡ true
  cap_stands x l =
      let inside : x < length (capped_cells p) = omega (arith, l, capped_many) in
      let c : Cell = cap_cell x in
      let is : is_capped p c ≡ true = member_capped p h c (member_at same_cell cell_test (capped_cells p) x (cell_of 0 0) inside) in
      let known = cap_agent c is in
      let low : c.object < column_count p = (let below = capped_below p c is in omega (arith, below)) in
      let size = stated_room in
      let cut = length-drop p.stated e in
      let x_in : x < length later = omega (arith, l, size, cut) in
      let held : holds (cells_at capped x) c ≡ true = subst (λ cs. holds cs c ≡ true) (sym (cap_cells x inside)) (or_left (same_cell c c) false (cell_test.self c)) in
      let top : moment_at later x ≤ d = (let t = by.table.within (p.stated + x) (omega (arith, l, size)) in omega (arith, t, later_at x)) in
      let up : full_at d capped later c.agent c.object ≤ moment_at later x = full_below d capped later c.agent c.object x x_in held in
      let down : moment_at later x ≤ full_at d capped later c.agent c.object = full_from d capped later c.agent c.object (moment_at later x) top (λ j m other.
      (let other_in : j < length (capped_cells p) = omega (arith, m, size, cut, capped_many) in
      let own : c ≡ cap_cell j = one_cell (cap_cell j) c (subst (λ cs. holds cs c ≡ true) (cap_cells j other_in) other) in
      let moments = ap (moment_at later) (one_cap x j inside other_in own) in
      omega (arith, moments))) in
      let full : full_at d capped later c.agent c.object ≡ moment_at later x = omega (arith, up, down) in
      let at : unit_at (column_count p) v.caps c ≡ cap_at p d e c.agent c.object = by.caps.each c.agent c.object known low in
      let index = unit_at_within (column_count p) v.caps c low in
      let within : c.agent * column_count p + c.object < length v.caps = (let n = index_within (length p.agents) (column_count p) c.agent c.object known low in let many = by.caps.many in omega (arith, n, many)) in
      subst (λ m. is_member nat_eq v.caps m ≡ true) (sym index ∙ at ∙ full) (member_at nat_eq number_test v.caps (c.agent * column_count p + c.object) 0 within)

  module _ (order : List ℕ) (n : IsNumbering v.shares.denominator v.moments v.caps order) where
    filtered : (xs : List ℕ) (m : ℕ) → is_member nat_eq (filter (λ y. nat_lt y v.shares.denominator) xs) m ≡ true → (is_member nat_eq xs m ≡ true) × (nat_lt m v.shares.denominator ≡ true)
    filtered xs m k = and_parts (is_member nat_eq xs m) (nat_lt m v.shares.denominator) (sym (member_of_filter nat_eq number_test (λ y. nat_lt y v.shares.denominator) xs m) ∙ k)

    filters : (xs : List ℕ) (m : ℕ) → is_member nat_eq xs m ≡ true → nat_lt m v.shares.denominator ≡ true → is_member nat_eq (filter (λ y. nat_lt y v.shares.denominator) xs) m ≡ true
    filters xs m k l = member_of_filter nat_eq number_test (λ y. nat_lt y v.shares.denominator) xs m ∙ and_from (is_member nat_eq xs m) (nat_lt m v.shares.denominator) k l

    listed : (m : ℕ) → is_member nat_eq e m ≡ true → nat_lt m d ≡ true → is_member nat_eq (distinct_moments e d) m ≡ true
    listed m k l =
        let (j, inside, is) = member_place nat_eq number_test m e k in
        subst (λ x. is_member nat_eq (distinct_moments e d) x ≡ true) (is 0) (moment_listed d e j inside (let less = ltb-true m d l in let same = is 0 in omega (arith, less, same)))

    taken : (k : ℕ) (xs : List ℕ) (m : ℕ) → is_member nat_eq (take k xs) m ≡ true → is_member nat_eq xs m ≡ true
    taken zero xs m g = absurd (both_ways false refl g)
    taken (suc k) [] m g = g
    taken (suc k) (x ∷ xs) m g = elim (or_cases (nat_eq m x) (is_member nat_eq (take k xs) m) g) [
      | inl here ↦ or_left (nat_eq m x) (is_member nat_eq xs m) here
      | inr rest ↦ or_right (nat_eq m x) (is_member nat_eq xs m) (taken k xs m rest)
    ]

    -- a moment in order is before the end and one of the table
    order_member : (m : ℕ) → is_member nat_eq order m ≡ true → (is_member nat_eq e m ≡ true) × (nat_lt m d ≡ true)
    order_member m k = elim (Contains-append_cases (filter (λ y. nat_lt y d) v.moments) (filter (λ y. nat_lt y d) v.caps) m ((n.each m).0 (contains_of order m k))) [
      | inl first ↦
          let parts = filtered v.moments m (member_of (filter (λ y. nat_lt y d) v.moments) m first) in
          (taken p.stated e m (subst (λ xs. is_member nat_eq xs m ≡ true) by.moments parts.0), parts.1)
      | inr second ↦
          let parts = filtered v.caps m (member_of (filter (λ y. nat_lt y d) v.caps) m second) in
          (cap_member m (ltb-true m d parts.1) parts.0, parts.1)
    ]

    in_order : (m : ℕ) → is_member nat_eq order m ≡ true → is_member nat_eq (distinct_moments e d) m ≡ true
    in_order m k = (let q = order_member m k in listed m q.0 q.1)

    from_keys : (m : ℕ) → is_member nat_eq (distinct_moments e d) m ≡ true → is_member nat_eq order m ≡ true
    from_keys m k =
        let parts = filtered e m (key_is_member (filter (λ y. nat_lt y d) e) m k) in
        let (j, inside, is) = member_place nat_eq number_test m e parts.0 in
        let size = stated_room in
        member_of order m ((n.each m).1 (elim (cases_lt j p.stated) [
          | inl less ↦
              let at : get_or v.moments j 0 ≡ m = ap (λ xs. get_or xs j 0) by.moments ∙ get_or-take p.stated e j 0 less ∙ is 0 in
              let many : length v.moments ≡ length (take p.stated e) = ap length by.moments in
              let room : j < length v.moments = omega (arith, many, length-take p.stated e, less, inside) in
              Contains-append_left (filter (λ y. nat_lt y d) v.moments) (filter (λ y. nat_lt y d) v.caps) m
              (contains_of (filter (λ y. nat_lt y d) v.moments) m (filters v.moments m (subst (λ x. is_member nat_eq v.moments x ≡ true) at (member_at nat_eq number_test v.moments j 0 room)) parts.1))
          | inr more ↦
              let z : p.stated + (j - p.stated) ≡ j = omega arith in
              let at : moment_at later (j - p.stated) ≡ m = later_at (j - p.stated) ∙ ap (λ i. get_or e i 0) z ∙ is 0 in
              Contains-append_right (filter (λ y. nat_lt y d) v.moments) (filter (λ y. nat_lt y d) v.caps) m
              (contains_of (filter (λ y. nat_lt y d) v.caps) m (filters v.caps m (subst (λ x. is_member nat_eq v.caps x ≡ true) at (cap_stands (j - p.stated) (omega (arith, size, inside, more)))) parts.1))
        ]))

    -- the numbers agree
    pub numbers_agree : (m : ℕ) → number_in order m ≡ moment_number e d m
    numbers_agree m =
        let same = sum_of_members nat_eq number_test (λ y. cond (nat_lt y m) 1 0) order (distinct_moments e d) (rising_distinct order n.rise) (keys_distinct (filter (λ y. nat_lt y d) e)) in_order from_keys in
        omega (arith, same)

    -- and so does the number of the end
    pub top_agrees : length order + 1 ≡ moment_number e d d
    top_agrees =
        let all = every_by_count (λ y. nat_lt y d) order (all_from_members nat_eq number_test (λ y. nat_lt y d) order (λ x k. (order_member x k).1)) in
        let agree = numbers_agree d in
        omega (arith, all, agree)

  -- as many moments as stated sets
  pub moments_many : length v.moments ≡ p.stated
  moments_many = (let size = stated_room in omega (arith, ap length by.moments, length-take p.stated e, size))

  pub moments_at : (s : ℕ) → s < p.stated → get_or v.moments s 0 ≡ get_or e s 0
  moments_at s l = ap (λ xs. get_or xs s 0) by.moments ∙ get_or-take p.stated e s 0 l
