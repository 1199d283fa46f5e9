-- The demands that records of quotas say.
use Rattle.std.proofs.Common.{◌≡◌, ◌∙◌, ◌≤◌, ◌++◌, ◌+◌, ◌-◌, ◌≢◌, ◌∷◌, [], ℕ, zero, suc, List, Option, Some, None, Bool, true, false, cond, refl, sym, ap, subst, length, map, get_or, set, arith, inl, inr}
use Rattle.std.specs.Prelude.{codes, option_map, replicate, slice_set, unwrap_or}
use Rattle.std.specs.List.{find, range_with_len}
use Rattle.std.specs.Option.{option_or}
use Rattle.std.specs.Str.{bytes_eq}
use Rattle.std.proofs.lemmas.Bool.{both_ways, cases_eq, eq-eqb, ne_eqb, or_parts}
use Rattle.std.proofs.lemmas.List.{append-nil, set_past}
use Rattle.std.proofs.lemmas.List.Folds.{find-append}
use Rattle.std.proofs.lemmas.List.Quantifiers.{position-Some}
use Rattle.definitions.proofs.Members.{name_test}
use Rattle.definitions.proofs.Passed.{fault-keeps}
use Rattle.definitions.specs.Texts.{Row, field, has_name, name_index}
use Rattle.table_text.specs.Records.{records_of}
use Rattle.alloc_input.specs.Cells.{numbers_to}
use Rattle.alloc_input.specs.Quotas.{check_record, quotas_fault}
use Rattle.alloc_input.specs.SaidQuotas.{demand_of, is_name_at, is_number}
use Rattle.alloc_input.specs.Stated.{Setting, Stated, add_bundle, add_cells, add_demand, add_group, add_kind, add_object, add_row, add_set, floor_at, number_or_0, stated_by, stated_from, word_of}
use Rattle.alloc_input.specs.declared.quotas.words.Word.{Word}
use Rattle.alloc_input.specs.declared.quotas.words.Word.TheVariants as word
use Rattle.alloc_input.proofs.SaidFields.{rows-said}
use Rattle.alloc_input.proofs.SaidPlaces.{rows-grow, stated-more}
use Rattle.alloc_input.proofs.SaidChecks.{IsPassed, demand-passed, next-passed}
use Rattle.alloc_input.proofs.SaidWords.{is_kind, records-push}
use Rattle.alloc_input.proofs.StatedChecks.{some-value}

demands-step : (g : Setting) (s : Bool) (o : Option Word) (r : Row) (st : Stated) → g.solve ≡ s → (add_kind o g st r).demands ≡ cond s (cond (is_kind word.Agent o) (slice_set st.demands (number_or_0 (name_index g.agents (field r 1))) (floor_at r 2)) st.demands) st.demands
unfolding add_kind add_object add_row add_demand add_group add_bundle add_set add_cells
demands-step g true None r st e = refl
demands-step g false None r st e = refl
demands-step g true (Some word.Agent) r st e = rw e refl
demands-step g false (Some word.Agent) r st e = rw e refl
demands-step g true (Some w) r st e = refl
demands-step g false (Some w) r st e = refl

pub no-demands : (g : Setting) (rows : List Row) → g.solve ≡ false → (stated_by g rows).demands ≡ replicate (length g.agents) 1
unfolding stated_from
no-demands g rows e =
    rows-grow (λ rows. (stated_by g rows).demands ≡ replicate (length g.agents) 1) refl
    (λ before r h. ap (λ (st : Stated). st.demands) (stated-more g before r) ∙ demands-step g false (word_of (field r 0)) r (stated_by g before) e ∙ h) rows

-- ---- demands for `solve`

-- a number of a range that is changed
set-number : (f h : ℕ → ℕ) (v s n a : ℕ) → ((i : ℕ) → i ≢ a → f i ≡ h i) → v ≡ h a → s ≤ a → set (map f (range_with_len s n)) (a - s) v ≡ map h (range_with_len s n)
set-number f h v s zero a other here l = set_past [] (a - s) v (omega arith)
set-number f h v s (suc n) a other here l = elim (cases_eq a s) [
  | inl same ↦
      let first : a - s ≡ 0 = omega arith in
      let rest = map-other f h (s + 1) n (λ i low. other i (λ e. absurd (omega arith))) in
      rw (first, rest) (ap (λ k. k ∷ map h (range_with_len (s + 1) n)) (here ∙ ap h same))
  | inr apart ↦
      let later : a - s ≡ suc (a - (s + 1)) = omega arith in
      rw (later, other s (λ e. apart (sym e))) (ap (λ ks. h s ∷ ks) (set-number f h v (s + 1) n a other here (omega arith)))
]
  where
    map-other : (f h : ℕ → ℕ) (s n : ℕ) → ((i : ℕ) → s ≤ i → f i ≡ h i) → map f (range_with_len s n) ≡ map h (range_with_len s n)
    map-other f h s zero same = refl
    map-other f h s (suc n) same = rw (same s (omega arith), map-other f h (s + 1) n (λ i l. same i (omega arith))) refl

-- two names at one place are the same
same-place : (names : List (List ℕ)) (x y : List ℕ) (a : ℕ) → name_index names x ≡ Some a → name_index names y ≡ Some a → bytes_eq x y ≡ true
same-place names x y a e f =
    let first = name_test.sound x (get_or names a []) (position-Some (bytes_eq x) names a [] e).1 in
    let second = name_test.sound y (get_or names a []) (position-Some (bytes_eq y) names a [] f).1 in
    let same : x ≡ y = first ∙ sym second in
    subst (λ z. bytes_eq x z ≡ true) same (name_test.self x)

-- among records of other names none names the agent
none-named : (names : List (List ℕ)) (x : List ℕ) (a : ℕ) (rows : List Row) → name_index names x ≡ Some a → has_name (map (λ r. field r 1) rows) x ≡ false
    → find (λ r. is_name_at names a (field r 1)) rows ≡ None
none-named names x a [] e new = refl
none-named names x a (q ∷ rows) e new =
    let parts = or_parts (bytes_eq x (field q 1)) (has_name (map (λ r. field r 1) rows) x) new in
    let other : is_name_at names a (field q 1) ≡ false = by (name_index names (field q 1)) refl parts.0 in
    rw other (none-named names x a rows e parts.1)
  where
    by : (o : Option ℕ) → name_index names (field q 1) ≡ o → bytes_eq x (field q 1) ≡ false → is_number a o ≡ false
    by None f apart = refl
    by (Some k) f apart = ne_eqb k a (λ same. absurd (both_ways (bytes_eq x (field q 1)) apart (same-place names x (field q 1) a e (f ∙ ap (λ j. Some j) same))))

module _ (g : Setting) (solve : g.solve ≡ true) where
  -- the demand of agent i by these `agent` records
  abbrev demand_from : List Row → ℕ → ℕ
  demand_from rs i = unwrap_or (option_map (λ r. floor_at r 2) (find (λ r. is_name_at g.agents i (field r 1)) rs)) 1

  -- a record of another kind changes no demand
  other-record : (before : List Row) (r : Row) → is_kind word.Agent (word_of (field r 0)) ≡ false → (stated_by g before).demands ≡ map (demand_of g before) (numbers_to (length g.agents))
      → (stated_by g (before ++ r ∷ [])).demands ≡ map (demand_of g (before ++ r ∷ [])) (numbers_to (length g.agents))
  other-record before r other h =
      let same : records_of (codes "agent") (before ++ r ∷ []) ≡ records_of (codes "agent") before = records-push word.Agent before r ∙ rw other (append-nil (records_of (codes "agent") before)) in
      ap (λ (st : Stated). st.demands) (stated-more g before r) ∙ demands-step g true (word_of (field r 0)) r (stated_by g before) solve ∙ rw other (h ∙ ap (λ (rs : List Row). map (demand_from rs) (numbers_to (length g.agents))) (sym same))

  -- a record of an agent is its demand
  agent-record : (before : List Row) (r : Row) (a : ℕ) → word_of (field r 0) ≡ Some word.Agent → name_index g.agents (field r 1) ≡ Some a → has_name (stated_by g before).rows (field r 1) ≡ false
      → (stated_by g before).demands ≡ map (demand_of g before) (numbers_to (length g.agents))
      → (stated_by g (before ++ r ∷ [])).demands ≡ map (demand_of g (before ++ r ∷ [])) (numbers_to (length g.agents))
  agent-record before r a e is new h =
      let rs = records_of (codes "agent") before in
      let same : records_of (codes "agent") (before ++ r ∷ []) ≡ rs ++ r ∷ [] = records-push word.Agent before r ∙ rw e refl in
      let none = none-named g.agents (field r 1) a rs is (ap (λ names. has_name names (field r 1)) (sym (rows-said g before)) ∙ new) in
      let at : a ≡ a - 0 = omega arith in
      ap (λ (st : Stated). st.demands) (stated-more g before r) ∙ demands-step g true (word_of (field r 0)) r (stated_by g before) solve
      ∙ rw (e, h, is) (ap (λ k. set (map (demand_from rs) (numbers_to (length g.agents))) k (floor_at r 2)) at
      ∙ set-number (demand_from rs) (demand_from (rs ++ r ∷ [])) (floor_at r 2) 0 (length g.agents) a (other rs) (here rs none) (omega arith)
      ∙ ap (λ (qs : List Row). map (demand_from qs) (numbers_to (length g.agents))) (sym same))
    where
      or-none : (o : Option Row) → option_or o None ≡ o
      or-none None = refl
      or-none (Some x) = refl

      other : (rs : List Row) (i : ℕ) → i ≢ a → demand_from rs i ≡ demand_from (rs ++ r ∷ []) i
      other rs i apart =
          let last : is_name_at g.agents i (field r 1) ≡ false = ap (is_number i) is ∙ ne_eqb a i (λ e. apart (sym e)) in
          let found : find (λ r. is_name_at g.agents i (field r 1)) (rs ++ r ∷ []) ≡ find (λ r. is_name_at g.agents i (field r 1)) rs =
          find-append (λ r. is_name_at g.agents i (field r 1)) rs (r ∷ []) ∙ rw last (or-none (find (λ r. is_name_at g.agents i (field r 1)) rs)) in
          ap (λ (o : Option Row). unwrap_or (option_map (λ r. floor_at r 2) o) 1) (sym found)

      here : (rs : List Row) → find (λ r. is_name_at g.agents a (field r 1)) rs ≡ None → floor_at r 2 ≡ demand_from (rs ++ r ∷ []) a
      here rs none =
          let last : is_name_at g.agents a (field r 1) ≡ true = ap (is_number a) is ∙ eq-eqb a a refl in
          let found : find (λ r. is_name_at g.agents a (field r 1)) (rs ++ r ∷ []) ≡ Some r = find-append (λ r. is_name_at g.agents a (field r 1)) rs (r ∷ []) ∙ rw (none, last) refl in
          ap (λ (o : Option Row). unwrap_or (option_map (λ r. floor_at r 2) o) 1) (sym found)

  demands-more : (before : List Row) (r : Row) → check_record g before r ≡ None → (stated_by g before).demands ≡ map (demand_of g before) (numbers_to (length g.agents))
      → (stated_by g (before ++ r ∷ [])).demands ≡ map (demand_of g (before ++ r ∷ [])) (numbers_to (length g.agents))
  unfolding check_record
  demands-more before r c h = by (word_of (field r 0)) refl (next-passed g (stated_by g before) r c)
    where
      by : (o : Option Word) → word_of (field r 0) ≡ o → IsPassed o g (stated_by g before) r → (stated_by g (before ++ r ∷ [])).demands ≡ map (demand_of g (before ++ r ∷ [])) (numbers_to (length g.agents))
      by None e p = other-record before r (rw e refl) h
      by (Some word.Agent) e p =
          let passed = demand-passed g (stated_by g before) r solve p.1 in
          let (a, is) = some-value (name_index g.agents (field r 1)) passed.known in
          agent-record before r a e is passed.new h
      by (Some w) e p = other-record before r (rw e refl) h

pub demands-said : (g : Setting) (rows : List Row) → quotas_fault g rows ≡ None → g.solve ≡ true → (stated_by g rows).demands ≡ map (demand_of g rows) (numbers_to (length g.agents))
unfolding stated_from
demands-said g rows e solve =
    fault-keeps (check_record g) (λ _. None) (λ rows. (stated_by g rows).demands ≡ map (demand_of g rows) (numbers_to (length g.agents)))
    (demands-more g solve) [] rows e (ones 0 (length g.agents))
  where
    ones : (s n : ℕ) → replicate n 1 ≡ map (demand_of g []) (range_with_len s n)
    ones s zero = refl
    ones s (suc n) = ap (λ ks. 1 ∷ ks) (ones (s + 1) n)
