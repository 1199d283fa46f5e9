-- The lists that lawful preferences state are lawful.
use Rattle.std.proofs.Common.{◌≡◌, ◌≢◌, ◌==◌, ◌∙◌, ◌-◌, ◌<◌, ◌≤◌, ◌++◌, ◌∷◌, [], ℕ, List, Option, Some, None, Bool, true, false, cond, All, nat_eq, refl, sym, ap, subst, length, drop, map, get_or, arith, inl, inr, ◌⊎◌}
use Rattle.std.specs.Prelude.{not, slice_get}
use Rattle.std.specs.Cmp.{nat_eq_equiv}
use Rattle.std.specs.List.{IsDistinct, list_any, filter_map}
use Rattle.std.specs.Str.{bytes_eq}
use Rattle.std.proofs.lemmas.Bool.{cases_Bool, ltb-true, ne_eqb}
use Rattle.std.proofs.lemmas.List.{append-nil, length-map, length_push, map-append}
use Rattle.std.proofs.lemmas.List.Elements.{All-nil, All-push, filter_map-append}
use Rattle.std.proofs.lemmas.List.Folds.{list_any_none}
use Rattle.std.proofs.lemmas.List.Quantifiers.{position-Some}
use Rattle.std.proofs.lemmas.Map.Keys.{IsDistinct-push}
use Rattle.definitions.specs.Texts.{Row, first_field, name_index, null_name}
use Rattle.definitions.specs.Values.{IsListUpTo}
use Rattle.definitions.proofs.Passed.{passed, among-keeps, fault-keeps, fault-ends}
use Rattle.alloc_input.specs.Prefs.{filled_rows, has_header, agent_rows, agents_of, lists_of, list_of, column_of, columns_of, check_column, check_choice, check_choices, check_agent, check_record, check_end, fault_of}
use Rattle.alloc_input.specs.PrefsReading.{ArePreferences}
use Rattle.alloc_input.proofs.AfterRecords.{filled_rows-blank, filled_rows-more, drop-more, header-first}

-- ---- the columns of one list

-- distinct columns below n
abbrev AreColumns : ℕ → List ℕ → Type 0
AreColumns n columns = IsDistinct nat_eq columns × All (λ a. a < n) columns

any-turned : (k : ℕ) (columns : List ℕ) → list_any (nat_eq k) columns ≡ list_any (λ j. j == k) columns
any-turned k [] = refl
any-turned k (j ∷ columns) = rw (nat_eq_equiv.symm k j, any-turned k columns) refl

pub column-passed : (o : Option ℕ) (columns : List ℕ) → check_column o columns ≡ None → (k : ℕ) × (o ≡ Some k) × (list_any (λ j. j == k) columns ≡ false)
column-passed None columns e = absurd (cc)
column-passed (Some k) columns e = elim (cases_Bool (list_any (λ j. j == k) columns)) [
  | inl on ↦ absurd (cc (rw on at e))
  | inr off ↦ (k, refl, off)
]

choice-checked : {K : Type 0} (blank first null named : Bool) (a b : K) (last : Option K) → blank ≡ false → null ≡ false
    → cond blank None (cond first (cond null None (cond named last (Some b))) (Some a)) ≡ None → last ≡ None
choice-checked blank first null named a b last e f h =
    let open_list = passed first a (cond null None (cond named last (Some b))) (rw e at h) in
    (passed named b last (rw f at open_list.1)).1

column-found : (objects : List (List ℕ)) (x : List ℕ) (k : ℕ) → (length x == 0) ≡ false → bytes_eq x null_name ≡ false → name_index objects x ≡ Some k → column_of objects x ≡ Some k
unfolding column_of
column-found objects x k some other is = rw (some, other) is

-- a choice that passes names no column, or a known and new one
choice-passed : (objects earlier : List (List ℕ)) (x : List ℕ) → check_choice objects earlier x ≡ None
    → (column_of objects x ≡ None) ⊎ ((k : ℕ) × (column_of objects x ≡ Some k) × (k < length objects) × (list_any (λ j. j == k) (columns_of objects earlier) ≡ false))
unfolding check_choice column_of
choice-passed objects earlier x c = elim (cases_Bool (length x == 0)) [
  | inl blank ↦ inl (rw blank refl)
  | inr some ↦ elim (cases_Bool (bytes_eq x null_name)) [
    | inl null ↦ inl (rw (some, null) refl)
    | inr other ↦
        let named = choice-checked _ _ _ _ _ _ (check_column (name_index objects x) (columns_of objects earlier)) some other c in
        let (k, is, new) = column-passed (name_index objects x) (columns_of objects earlier) named in
        inr (k, column-found objects x k some other is, (position-Some (bytes_eq x) objects k [] is).0, new)
  ]
]

columns-more : (objects earlier : List (List ℕ)) (x : List ℕ)
    → (column_of objects x ≡ None) ⊎ ((k : ℕ) × (column_of objects x ≡ Some k) × (k < length objects) × (list_any (λ j. j == k) (columns_of objects earlier) ≡ false))
    → AreColumns (length objects) (columns_of objects earlier) → AreColumns (length objects) (columns_of objects (earlier ++ x ∷ []))
unfolding columns_of
columns-more objects earlier x (inl none) h = rw (filter_map-append (column_of objects) earlier (x ∷ []), none, append-nil (filter_map (column_of objects) earlier)) h
columns-more objects earlier x (inr (k, is, known, new)) h =
    let columns = filter_map (column_of objects) earlier in
    rw (filter_map-append (column_of objects) earlier (x ∷ []), is)
    (IsDistinct-push nat_eq_equiv columns k h.0 (any-turned k columns ∙ new), All-push (λ a. a < length objects) columns k h.1 known)

no-columns : (objects : List (List ℕ)) → AreColumns (length objects) (columns_of objects [])
unfolding columns_of IsDistinct
no-columns objects = (tt, All-nil (λ a. a < length objects))

choices-lawful : (objects : List (List ℕ)) (row : Row) → check_choices objects row ≡ None → AreColumns (length objects) (columns_of objects (drop 1 row))
unfolding check_choices
choices-lawful objects row e =
    among-keeps (check_choice objects) (λ choices. AreColumns (length objects) (columns_of objects choices))
    (λ before x c h. columns-more objects before x (choice-passed objects before x c) h)
    (drop 1 row) e (no-columns objects)

last-pushed : (columns : List ℕ) (n : ℕ) → slice_get (columns ++ n ∷ []) (length (columns ++ n ∷ []) - 1) ≡ Some n
last-pushed columns n = let at : length (columns ++ n ∷ []) - 1 ≡ length columns = omega (arith, length_push columns n) in rw at (here columns)
  where
    here : (columns : List ℕ) → slice_get (columns ++ n ∷ []) (length columns) ≡ Some n
    here [] = refl
    here (a ∷ columns) = here columns

closed-lawful : (n : ℕ) (columns : List ℕ) → AreColumns n columns → IsListUpTo n (columns ++ n ∷ [])
closed-lawful n columns h = record {
  apart = IsDistinct-push nat_eq_equiv columns n h.0 (list_any_none (nat_eq n) columns (λ k d l. ne_eqb n (get_or columns k d) (λ e. apart (get_or columns k d) (h.1 k d l) e)));
  known = All-push (λ a. a ≤ n) columns n (λ k d l. let below = h.1 k d l in omega (arith, below)) (omega arith);
  last = last-pushed columns n;
}
  where
    apart : (a : ℕ) → a < n → n ≡ a → ⊥
    apart a l e = absurd (omega (arith, l, e))

-- ---- records

agent-passed : (objects agents : List (List ℕ)) (row : Row) → check_agent objects agents row ≡ None → (length agents < 1000) × (check_choices objects row ≡ None)
unfolding check_agent
agent-passed objects agents row e =
    let named = passed _ _ _ e in
    let new = passed _ _ _ named.1 in
    let few = passed _ _ _ new.1 in
    (ltb-true _ _ few.0, few.1)

record-checked : {K : Type 0} (blank text header : Bool) (a : K) (agent word : Option K) → blank ≡ false → header ≡ true
    → cond blank None (cond text (cond header agent word) (Some a)) ≡ None → agent ≡ None
record-checked blank text header a agent word e f h = rw f at (passed text a (cond header agent word) (rw e at h)).1

-- a record that passes is no agent's, or is one more
record-passed : (objects : List (List ℕ)) (earlier : List Row) (row : Row) → check_record objects earlier row ≡ None
    → (agent_rows (earlier ++ row ∷ []) ≡ agent_rows earlier) ⊎ ((agent_rows (earlier ++ row ∷ []) ≡ agent_rows earlier ++ row ∷ []) × (check_agent objects (agents_of earlier) row ≡ None))
unfolding check_record
record-passed objects earlier row c = elim (cases_Bool (length row == 0)) [
  | inl blank ↦ inl (ap (drop 1) (filled_rows-blank earlier row (sym blank)))
  | inr some ↦
      let rows = filled_rows-more earlier row (sym some) in
      elim (cases_Bool (has_header earlier)) [
        | inl header ↦ inr (ap (drop 1) rows ∙ drop-more (filled_rows earlier) row header, record-checked _ _ _ _ (check_agent objects (agents_of earlier) row) _ some header c)
        | inr none ↦ inl (ap (drop 1) rows ∙ (header-first (filled_rows earlier) row none).0)
      ]
]

-- the agents' records so far: at most 1,000, with lawful lists
abbrev AreAgents : List (List ℕ) → List Row → Type 0
AreAgents objects rows = (length rows ≤ 1000) × All (IsListUpTo (length objects)) (map (list_of objects) rows)

agents-more : (objects : List (List ℕ)) (before rows : List Row) (row : Row)
    → (rows ≡ before) ⊎ ((rows ≡ before ++ row ∷ []) × (check_agent objects (map first_field before) row ≡ None))
    → AreAgents objects before → AreAgents objects rows
agents-more objects before rows row (inl same) h = subst (AreAgents objects) (sym same) h
agents-more objects before rows row (inr (more, c)) h =
    let p = agent-passed objects (map first_field before) row c in
    let few : length before < 1000 = omega (arith, p.0, length-map before first_field) in
    let list = closed-lawful (length objects) (columns_of objects (drop 1 row)) (choices-lawful objects row p.1) in
    subst (AreAgents objects) (sym more) (
      omega (arith, few, length_push before row),
      rw (map-append (list_of objects) before (row ∷ [])) (All-push (IsListUpTo (length objects)) (map (list_of objects) before) (list_of objects row) h.1 list),
    )

no-agents : (objects : List (List ℕ)) → AreAgents objects (agent_rows [])
unfolding filled_rows
no-agents objects = (omega arith, All-nil (IsListUpTo (length objects)))

agents-lawful : (objects : List (List ℕ)) (rows : List Row) → fault_of objects rows ≡ None → AreAgents objects (agent_rows rows)
agents-lawful objects rows e =
    fault-keeps (check_record objects) check_end (λ rows. AreAgents objects (agent_rows rows))
    (λ before row c h. agents-more objects (agent_rows before) (agent_rows (before ++ row ∷ [])) row (record-passed objects before row c) h)
    [] rows e (no-agents objects)

none-left : (n : ℕ) → n ≡ 0 → not (n == 0) ≡ true → ⊥
none-left n z e = cc (rw z at e)

-- a text that ends as it may has an agent
pub some-agents : (rows : List Row) → check_end rows ≡ None → length (agents_of rows) ≢ 0
unfolding check_end
some-agents rows e z =
    none-left (length (agents_of rows)) z (passed _ _ _ (passed _ _ _ e).1).0

-- lawful preferences have agents, at most 1,000, and a lawful list for each
pub preferences-lawful : (objects : List (List ℕ)) (rows : List Row) → fault_of objects rows ≡ None → ArePreferences (length objects) (agents_of rows) (lists_of objects rows)
preferences-lawful objects rows e =
    let h = agents-lawful objects rows e in
    let some = some-agents rows (fault-ends (check_record objects) check_end [] rows e) in
    record {
      some = omega arith;
      many = omega (arith, h.0, length-map (agent_rows rows) first_field);
      lists_many = length-map (agent_rows rows) (list_of objects) ∙ sym (length-map (agent_rows rows) first_field);
      lists_lawful = h.1;
    }
