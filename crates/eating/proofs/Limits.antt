-- The limits that are noted at a place are those that hold its cell.
use Rattle.std.proofs.Common.{◌≡◌, ◌≢◌, ℕ, suc, zero, ◌+◌, ◌-◌, ◌<◌, ◌≤◌, ◌++◌, List, [], ◌∷◌, Bool, true, false, cond, length, map, take, get_or, refl, ap, sym, ◌∙◌, subst, arith, inl, inr, length-append}
use Rattle.std.specs.Prelude.{nat_eq, nat_le, nat_lt, slice_index, count_by, sum_by, ◌==◌, All}
use Rattle.std.specs.List.{AllByRecursion}
use Rattle.std.specs.Set.{is_member}
use Rattle.std.proofs.lemmas.Bool.{cases_lt, both_ways, or_right, eq-eqb, ne_eqb, cases_Bool, cases_order, false_from_ne_true, lt-ltb, le-ltb}
use Rattle.std.proofs.lemmas.List.{length-map, get_or-take}
use Rattle.std.proofs.lemmas.List.Elements.{All-append, All-from_recursion}
use Rattle.std.proofs.lemmas.List.Sums.{sum_by-cons, sum_by-append}
use Rattle.definitions.specs.Sets.{cell_of, holds, SetValue, IsSet, IsCellWithin, set_cells}
use Rattle.definitions.specs.Trees.{TreesValue, AreTreesOf}
use Rattle.definitions.specs.Values.{Limit, Agent, ProblemValue, IsProblem, capped_limits, market_of, limits_of, stated_sets, list_at, demand_at}
use Rattle.definitions.specs.Eating.{limit_cells}
use Rattle.definitions.proofs.Members.{number_test, member_at}
use Rattle.definitions.proofs.Families.{sets_of_problem, no_set, cells_of_set, stated_count}
use Rattle.definitions.proofs.Sums.{single}
use Rattle.eating_laws.proofs.Full.{cells_at}
use Rattle.eating_laws.proofs.Holders.{IsHolders}
use Rattle.definitions.proofs.Problems.{agent_of, list_lawful}
use Rattle.side_laws.proofs.Trees.{chain_holds, cell_chain_distinct}
use Rattle.side_laws.proofs.ChainSums.{passes}
use Rattle.side_laws.proofs.Rows.{stated_side, two_is_stated}
use Rattle.eating.specs.Caps.{capped_count, caps_before}
use Rattle.eating.specs.Holders.{chain_at}
use Rattle.eating.proofs.Capped.{one_place, cells_left, cells_right, cap_found, cap_holds}
use Rattle.eating.proofs.Counts.{capped_length, caps_room}

-- set s is limit s - 1
limits_counted : (j : ℕ) (chain : List ℕ) → AllByRecursion (λ s. 0 < s) chain → count_by (λ h. h == j) (map (λ s. s - 1) chain) ≡ sum_by (λ y. cond (nat_eq (j + 1) y) 1 0) chain
limits_counted j [] h = refl
limits_counted j (s ∷ chain) h =
    sum_by-cons (λ x. cond (x == j) 1 0) (s - 1) (map (λ s. s - 1) chain)
    ∙ (let p : 0 < s = h.0 in
    let bit : cond {A = ℕ} (s - 1 == j) 1 0 ≡ cond {A = ℕ} (nat_eq (j + 1) s) 1 0 = same s p in
    let rest = limits_counted j chain h.1 in
    omega (arith, bit, rest)) ∙ sym (sum_by-cons (λ y. cond (nat_eq (j + 1) y) 1 0) s chain)
  where
    same : (s : ℕ) → 0 < s → cond {A = ℕ} (s - 1 == j) 1 0 ≡ cond {A = ℕ} (nat_eq (j + 1) s) 1 0
    same s p = elim (cases_order (s - 1) j) [
      | inl e ↦ ap {B = ℕ} (λ b. cond b 1 0) (eq-eqb (s - 1) j e) ∙ sym (ap {B = ℕ} (λ b. cond b 1 0) (eq-eqb (j + 1) s (omega arith)))
      | inr (inl l) ↦ ap {B = ℕ} (λ b. cond b 1 0) (ne_eqb (s - 1) j (λ e. omega arith)) ∙ sym (ap {B = ℕ} (λ b. cond b 1 0) (ne_eqb (j + 1) s (λ e. omega arith)))
      | inr (inr l) ↦ ap {B = ℕ} (λ b. cond b 1 0) (ne_eqb (s - 1) j (λ e. omega arith)) ∙ sym (ap {B = ℕ} (λ b. cond b 1 0) (ne_eqb (j + 1) s (λ e. omega arith)))
    ]

stated_cells : (sets : List SetValue) (j : ℕ) → j < length sets → cells_at (map (λ s. record { ceiling = s.ceiling; cells = s.cells }) sets) j ≡ (get_or sets j no_set).cells
stated_cells [] j l = absurd (omega arith)
stated_cells (s ∷ sets) zero l = refl
stated_cells (s ∷ sets) (suc j) l = stated_cells sets j (omega arith)

module _ (p : ProblemValue) (h : IsProblem p) where
  abbrev stated_limits : List Limit
  stated_limits = map (λ (s : SetValue). record { ceiling = s.ceiling; cells = s.cells }) (stated_sets p)

  stated_many : length stated_limits ≡ p.stated
  stated_many = length-map (stated_sets p) (λ (s : SetValue). record { ceiling = s.ceiling; cells = s.cells }) ∙ stated_count p h

  -- the number of limits
  pub limits_many : length (limits_of p) ≡ p.stated + caps_before (market_of p).agents
  limits_many = length-append stated_limits (capped_limits 0 (market_of p).agents)
      ∙ ap (λ n. n + length (capped_limits 0 (market_of p).agents)) stated_many ∙ ap (λ n. p.stated + n) (capped_length 0 (market_of p).agents)

  -- the limit of a stated set has the set's cells
  stated_limit : (j : ℕ) → j < p.stated → limit_cells (market_of p) j ≡ set_cells p.family (j + 1)
  stated_limit j l =
      let many = sets_of_problem p h in
      let known : IsSet p.family (j + 1) = (omega arith, omega (arith, many)) in
      let place : j + 1 - 1 ≡ j = omega arith in
      cells_left stated_limits (capped_limits 0 (market_of p).agents) j (omega (arith, l, stated_many)) ∙ stated_cells (stated_sets p) j (omega (arith, l, stated_count p h))
      ∙ ap (λ (s : SetValue). s.cells) (get_or-take p.stated p.family.sets j no_set l)
      ∙ ap (λ n. (get_or p.family.sets n no_set).cells) (sym place)
      ∙ sym (cells_of_set p.family (j + 1) known no_set)

  -- and the later limits have the capped cells
  capped_limit : (j : ℕ) → p.stated ≤ j → limit_cells (market_of p) j ≡ cells_at (capped_limits 0 (market_of p).agents) (j - p.stated)
  capped_limit j l = cells_right stated_limits (capped_limits 0 (market_of p).agents) j (j - p.stated) (omega (arith, l, stated_many))

  module _ (t : TreesValue) (r : AreTreesOf p.family t) (i k : ℕ) (known_agent : i < length p.agents) (place : k < length (list_at p i)) where
    abbrev column : ℕ
    column = slice_index (list_at p i) k

    abbrev caps : ℕ
    caps = capped_count (demand_at p i) (list_at p i)

    abbrev start : ℕ
    start = caps_before (take i (market_of p).agents)

    abbrev agent : Agent
    agent = record { demand = demand_at p i; list = list_at p i }

    inside : IsCellWithin p.family.agents p.family.columns (cell_of i column)
    inside =
        let lawful = list_lawful p i h known_agent in
        let low = lawful.known k 0 place in
        (omega (arith, known_agent, h.family_agents), omega (arith, low, h.family_columns))

    abbrev chain : List ℕ
    chain = chain_at p t i k

    member_is : (s : ℕ) → is_member nat_eq chain s ≡ true → IsSet p.family s × (s ≤ p.stated)
    member_is s m =
        let x = (chain_holds p.family h.family.lawful t r 2 (cell_of i column) (inr refl) inside s).0 m in
        (x.0, two_is_stated p h s x.0 x.1)

    members : (xs : List ℕ) → ((s : ℕ) → is_member nat_eq xs s ≡ true → is_member nat_eq chain s ≡ true) → AllByRecursion (λ s. (0 < s) × (s ≤ p.stated)) xs
    members [] f = tt
    members (s ∷ xs) f =
        let m = member_is s (f s (or_first s xs)) in
        ((m.0.0, m.1), members xs (λ u g. f u (or_rest s xs u g)))
      where
        or_first : (s : ℕ) (xs : List ℕ) → is_member nat_eq (s ∷ xs) s ≡ true
        or_first s xs = member_at nat_eq number_test (s ∷ xs) 0 0 (omega arith)

        or_rest : (s : ℕ) (xs : List ℕ) (u : ℕ) → is_member nat_eq xs u ≡ true → is_member nat_eq (s ∷ xs) u ≡ true
        or_rest s xs u g = or_right (nat_eq u s) (is_member nat_eq xs u) g

    chain_positive : (xs : List ℕ) → AllByRecursion (λ s. (0 < s) × (s ≤ p.stated)) xs → AllByRecursion (λ s. 0 < s) xs
    chain_positive [] f = tt
    chain_positive (s ∷ xs) f = (f.0.0, chain_positive xs f.1)

    limits_inside : (xs : List ℕ) → AllByRecursion (λ s. (0 < s) × (s ≤ p.stated)) xs → AllByRecursion (λ x. x < length (limits_of p)) (map (λ s. s - 1) xs)
    limits_inside [] f = tt
    limits_inside (s ∷ xs) f = (let low = f.0.0 in let high = f.0.1 in omega (arith, low, high, limits_many), limits_inside xs f.1)

    abbrev own : List ℕ
    own = cond (nat_lt k caps) ((p.stated + start + k) ∷ []) []

    -- how often a limit is among the stated sets of a chain
    stated_part : (j : ℕ) → count_by (λ x. x == j) (map (λ s. s - 1) chain) ≡ cond (is_member nat_eq chain (j + 1)) 1 0
    stated_part j =
        limits_counted j chain (chain_positive chain (members chain (λ s m. m)))
        ∙ single nat_eq number_test (λ (y : ℕ). 1) (j + 1) chain (cell_chain_distinct p.family h.family.lawful t r 2 (cell_of i column) (inr refl) inside)

    own_part : (j : ℕ) → count_by (λ x. x == j) own ≡ cond (nat_lt k caps) (cond (p.stated + start + k == j) 1 0) 0
    own_part j = pick (nat_lt k caps)
      where
        pick : (b : Bool) → count_by (λ x. x == j) (cond b ((p.stated + start + k) ∷ []) []) ≡ cond b (cond (p.stated + start + k == j) 1 0) 0
        pick true = sum_by-cons (λ x. cond (x == j) 1 0) (p.stated + start + k) [] ∙ (let z : cond (p.stated + start + k == j) 1 0 + 0 ≡ cond {A = ℕ} (p.stated + start + k == j) 1 0 = omega arith in z)
        pick false = refl

    -- a capped limit holds the cell exactly where it is the cell's own
    own_holds : (j : ℕ) → p.stated ≤ j → cond (nat_lt k caps) (cond (p.stated + start + k == j) 1 0) 0 ≡ cond {A = ℕ} (holds (limit_cells (market_of p) j) (cell_of i column)) 1 0
    own_holds j low = elim (cases_Bool (holds (limit_cells (market_of p) j) (cell_of i column))) [
      | inl held ↦
          let at = cap_found 0 i (market_of p).agents agent (j - p.stated) column (agent_of p i h known_agent)
          (subst (λ n. holds (cells_at (capped_limits 0 (market_of p).agents) (j - p.stated)) (cell_of n column) ≡ true) (let z : i ≡ 0 + i = omega arith in z)
          (subst (λ c. holds c (cell_of i column) ≡ true) (capped_limit j low) held)) in
          let short : caps ≤ length (list_at p i) = caps_short (nat_le 2 (demand_at p i)) in
          let same : j - p.stated - start ≡ k = one_place (list_at p i) (list_lawful p i h known_agent).apart (j - p.stated - start) k (let l = at.inside in omega arith) place at.column in
          let few : k < caps = (let l = at.inside in omega arith) in
          let here : p.stated + start + k ≡ j = (let l = at.low in omega arith) in
          ap {B = ℕ} (λ b. cond b (cond (p.stated + start + k == j) 1 0) 0) (lt-ltb k caps few) ∙ ap {B = ℕ} (λ b. cond b 1 0) (eq-eqb (p.stated + start + k) j here) ∙ sym (ap {B = ℕ} (λ b. cond b 1 0) held)
      | inr free ↦ elim (cases_lt k caps) [
        | inl few ↦
            let apart : p.stated + start + k ≢ j = λ e.
            both_ways (holds (limit_cells (market_of p) j) (cell_of i column)) free
            (subst (λ c. holds c (cell_of i column) ≡ true) (sym (capped_limit j low))
            (subst (λ n. holds (cells_at (capped_limits 0 (market_of p).agents) n) (cell_of i column) ≡ true) (let z : start + k ≡ j - p.stated = omega arith in z)
            (subst (λ n. holds (cells_at (capped_limits 0 (market_of p).agents) (start + k)) (cell_of n column) ≡ true) (let z : 0 + i ≡ i = omega arith in z)
            (cap_holds 0 i (market_of p).agents agent k column (agent_of p i h known_agent) few refl)))) in
            ap {B = ℕ} (λ b. cond b (cond (p.stated + start + k == j) 1 0) 0) (lt-ltb k caps few) ∙ ap {B = ℕ} (λ b. cond b 1 0) (ne_eqb (p.stated + start + k) j apart) ∙ sym (ap {B = ℕ} (λ b. cond b 1 0) free)
        | inr none ↦ ap {B = ℕ} (λ b. cond b (cond (p.stated + start + k == j) 1 0) 0) (le-ltb k caps none) ∙ sym (ap {B = ℕ} (λ b. cond b 1 0) free)
      ]
    ]
      where
        caps_short : (b : Bool) → cond b (length (list_at p i) - 1) 0 ≤ length (list_at p i)
        caps_short true = omega arith
        caps_short false = omega arith

    -- the limits noted at a place are the holders of its cell
    pub limits_right : IsHolders (market_of p) i column (map (λ s. s - 1) chain ++ own)
    limits_right = record {
      inside = All-append (λ x. x < length (limits_of p)) (map (λ s. s - 1) chain) own
          (All-from_recursion (λ x. x < length (limits_of p)) (map (λ s. s - 1) chain) (limits_inside chain (members chain (λ s m. m)))) own_inside;
      once = λ j l. once j;
    }
      where
        room : k < caps → p.stated + start + k < length (limits_of p)
        room few = (let more = cap_room in omega (arith, more, limits_many))
          where
            cap_room : start + caps ≤ caps_before (market_of p).agents
            cap_room = caps_room p i h known_agent

        own_inside : All (λ x. x < length (limits_of p)) own
        own_inside = elim (cases_lt k caps) [
          | inl few ↦ subst (λ b. All (λ x. x < length (limits_of p)) (cond b ((p.stated + start + k) ∷ []) [])) (sym (lt-ltb k caps few))
              (All-from_recursion (λ x. x < length (limits_of p)) ((p.stated + start + k) ∷ []) (room few, tt))
          | inr none ↦ subst (λ b. All (λ x. x < length (limits_of p)) (cond b ((p.stated + start + k) ∷ []) [])) (sym (le-ltb k caps none)) (All-from_recursion (λ x. x < length (limits_of p)) [] tt)
        ]

        once : (j : ℕ) → count_by (λ x. x == j) (map (λ s. s - 1) chain ++ own) ≡ cond (holds (limit_cells (market_of p) j) (cell_of i column)) 1 0
        once j = sum_by-append (λ x. cond (x == j) 1 0) (map (λ s. s - 1) chain) own ∙ elim (cases_lt j p.stated) [
          | inl less ↦
              let many = sets_of_problem p h in
              let known : IsSet p.family (j + 1) = (omega arith, omega (arith, many)) in
              let pass = passes p.family h.family t r 2 (inr refl) (cell_of i column) inside (j + 1) known (stated_side p h (j + 1) known (omega arith)) in
              let apart : p.stated + start + k ≢ j = λ e. omega arith in
              let own_none : cond (nat_lt k caps) (cond (p.stated + start + k == j) 1 0) 0 ≡ 0 = none (nat_lt k caps) (ap {B = ℕ} (λ b. cond b 1 0) (ne_eqb (p.stated + start + k) j apart)) in
              let held = ap {B = ℕ} (λ b. cond b 1 0) (sym pass ∙ ap (λ c. holds c (cell_of i column)) (sym (stated_limit j less))) in
              omega (arith, stated_part j, own_part j, own_none, held)
          | inr more ↦
              let off : is_member nat_eq chain (j + 1) ≡ false = false_from_ne_true (is_member nat_eq chain (j + 1)) (λ m. (let x = (member_is (j + 1) m).1 in omega arith)) in
              omega (arith, stated_part j, own_part j, ap {B = ℕ} (λ b. cond b 1 0) off, own_holds j more)
        ]
          where
            none : (b : Bool) {n : ℕ} → n ≡ 0 → cond b n 0 ≡ 0
            none true e = e
            none false e = refl
