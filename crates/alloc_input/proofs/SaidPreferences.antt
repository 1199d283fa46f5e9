-- What the records of lawful preferences say.
use Rattle.std.proofs.Common.{◌≡◌, ◌==◌, ◌∙◌, ◌++◌, ◌||◌, ◌&&◌, ◌∷◌, [], ℕ, suc, List, Option, Some, None, Bool, true, false, All, cond, refl, sym, ap, subst, length, map, filter, get_or, take, drop, arith, inl, inr}
use Rattle.std.specs.Prelude.{codes, is_none, is_some, not, nat_le, nat_lt, slice_get, unwrap_or}
use Rattle.std.specs.List.{cons_option, filter_map, list_all, list_any}
use Rattle.std.specs.Str.{bytes_eq, is_utf8}
use Rattle.std.specs.Option.{option_or}
use Rattle.std.proofs.Math.Bool.{or-false}
use Rattle.std.proofs.lemmas.Bool.{and_parts, both_ways, cases_Bool, ne_eqb, not-true}
use Rattle.std.proofs.lemmas.List.{append-nil, map-append}
use Rattle.std.proofs.lemmas.List.Elements.{All-nil, All-push, filter-append, filter_map-append}
use Rattle.std.proofs.lemmas.List.Folds.{list_any-append}
use Rattle.std.proofs.lemmas.Option.{slice_get-get_or, slice_get_within}
use Rattle.std.proofs.lemmas.Slice.Eq.{bytes_eq-Decides}
use Rattle.definitions.specs.Firsts.{AreLawful}
use Rattle.definitions.specs.Texts.{Row, field, first_field, has_name, is_name, name_index, null_name}
use Rattle.definitions.specs.Values.{ProblemValue}
use Rattle.definitions.proofs.Members.{name_test}
use Rattle.definitions.proofs.Passed.{among-keeps, fault-ends, fault-keeps, passed}
use Rattle.alloc_input.specs.Matrices.{header_of}
use Rattle.alloc_input.specs.Prefs.{agent_rows, check_agent, check_choice, check_choices, check_column, check_end, check_record, column_of, columns_of, fault_of, filled_rows, list_of}
use Rattle.table_text.proofs.KnownNames.{is_some-name_index}
use Rattle.table_text.specs.Records.{place_of, records_of}
use Rattle.alloc_input.specs.Problems.{RowsReadAs, in_file, problem_fault, solve_setting}
use Rattle.alloc_input.specs.Objects.{declared, declared_name, with_name}
use Rattle.alloc_input.specs.Quotas as quotas
use Rattle.alloc_input.specs.Quotas.{fields_fit, quotas_fault}
use Rattle.alloc_input.specs.Stated.{Setting, Stated, nothing, stated_by, stated_from, word_of}
use Rattle.alloc_input.specs.SaidPreferences.{list_on, names_on, with_none}
use Rattle.alloc_input.specs.declared.faults.InputKind.{InputKind}
use Rattle.alloc_input.specs.declared.faults.InputKind.TheVariants as kind
use Rattle.alloc_input.specs.declared.quotas.words.Word.{Word}
use Rattle.alloc_input.specs.declared.quotas.words.Word.TheVariants as word
use Rattle.alloc_input.proofs.FilledRecords.{filled-lawful, some-passed}
use Rattle.alloc_input.proofs.LawfulLists.{column-passed, some-agents}
use Rattle.alloc_input.proofs.MatrixSuits.{other-name}
use Rattle.alloc_input.proofs.NamePlaces.{index-new, index-stays}
use Rattle.alloc_input.proofs.OnceEach.{declared-push, has-each_once}
use Rattle.alloc_input.proofs.Reading.{stated_more}
use Rattle.alloc_input.proofs.SaidChecks.{IsObjectPassed, IsPassed, next-passed, object-passed}
use Rattle.alloc_input.proofs.SaidFields.{columns-said, columns-step, record-adds}
use Rattle.alloc_input.proofs.SaidWords.{is_kind, kind-test}

-- ---- the records with fields are lawful

-- the first failed check of a record with fields, after those before it
abbrev check_filled : List (List ℕ) → List Row → Row → Option InputKind
check_filled objects filled row =
    cond (not (length filled == 0)) (check_agent objects (map first_field (drop 1 filled)) row)
    (cond (bytes_eq (first_field row) (codes "agent")) None (Some kind.NoHeader))

passes-filled : (objects : List (List ℕ)) (before : List Row) (row : Row) → (length row == 0) ≡ false → check_record objects before row ≡ None → check_filled objects (filled_rows before) row ≡ None
unfolding check_record
passes-filled objects before row some c = some-passed (length row == 0) (list_all is_utf8 row) _ (check_filled objects (filled_rows before) row) some c

-- the header begins with `agent`, and each agent's choices pass
passed-list : (objects : List (List ℕ)) (xs : List Row) → AreLawful (check_filled objects) xs (length xs) → (length (map first_field (drop 1 xs)) ≡ 0 → ⊥)
    → (first_field (get_or xs 0 []) ≡ codes "agent") × ((i : ℕ) (row : Row) → slice_get (drop 1 xs) i ≡ Some row → check_choices objects row ≡ None)
unfolding check_agent
passed-list objects [] lawful some = absurd (some refl)
passed-list objects (x ∷ xs) lawful some = ((bytes_eq-Decides (first_field x) (codes "agent")).0 (passed _ kind.NoHeader None (lawful 0 x (omega arith) refl)).0, later)
  where
    later : (i : ℕ) (row : Row) → slice_get xs i ≡ Some row → check_choices objects row ≡ None
    later i row e =
        let c = rw (ne_eqb (suc (length (take i xs))) 0 (λ z. cc z)) at (lawful (suc i) row (omega (arith, slice_get_within xs i row e)) e) in
        let named = passed (is_name (first_field row)) kind.BadName _ c in
        let new = passed (is_none (name_index (map first_field (take i xs)) (first_field row))) kind.RepeatedAgent _ named.1 in
        (passed (nat_lt (length (map first_field (take i xs))) 1000) kind.OverLimit (check_choices objects row) new.1).1

passed-records : (objects : List (List ℕ)) (rows : List Row) → fault_of objects rows ≡ None
    → (first_field (header_of rows) ≡ codes "agent") × ((i : ℕ) (row : Row) → slice_get (agent_rows rows) i ≡ Some row → check_choices objects row ≡ None)
passed-records objects rows e =
    passed-list objects (filled_rows rows) (filled-lawful (check_filled objects) (check_record objects) check_end (passes-filled objects) rows e) (some-agents rows (fault-ends (check_record objects) check_end [] rows e))

-- ---- the choices of one record

module _ (objects : List (List ℕ)) (apart : has_name objects null_name ≡ false) where
  -- the choices that are not empty
  abbrev names_in : List (List ℕ) → List (List ℕ)
  names_in choices = filter (λ f. not (length f == 0)) choices

  -- the choices so far say these columns, and that of `none` where they name it
  record AreSaid (choices : List (List ℕ)) : Type 0 where
    none : has_name (names_in choices) null_name ≡ list_any (λ f. bytes_eq f null_name) choices
    columns : map (place_of (with_none objects)) (names_in choices) ≡ columns_of objects choices ++ cond (list_any (λ f. bytes_eq f null_name) choices) (length objects ∷ []) []
    known : All (λ name. has_name (with_none objects) name ≡ true) (names_in choices)

  no-choices : AreSaid []
  unfolding columns_of
  no-choices = record { none = refl; columns = refl; known = All-nil (λ name. has_name (with_none objects) name ≡ true) }

  none-place : place_of (with_none objects) null_name ≡ length objects
  none-place = ap (λ (o : Option ℕ). unwrap_or o 0) (index-new objects null_name apart)

  known-place : (name : List ℕ) (k : ℕ) → name_index objects name ≡ Some k → place_of (with_none objects) name ≡ k
  known-place name k e = ap (λ (o : Option ℕ). unwrap_or o 0) (index-stays objects (null_name ∷ []) name k e)

  -- whether `none` is among the choices
  abbrev is_closed : List (List ℕ) → Bool
  is_closed choices = list_any (λ f. bytes_eq f null_name) choices

  -- an empty choice says nothing
  blank-more : (choices : List (List ℕ)) → AreSaid choices → AreSaid (choices ++ [] ∷ [])
  unfolding columns_of column_of
  blank-more choices h =
      let names : names_in (choices ++ [] ∷ []) ≡ names_in choices = filter-append (λ f. not (length f == 0)) choices ([] ∷ []) ∙ append-nil (names_in choices) in
      let columns : columns_of objects (choices ++ [] ∷ []) ≡ columns_of objects choices = filter_map-append (column_of objects) choices ([] ∷ []) ∙ append-nil (columns_of objects choices) in
      let closed : is_closed (choices ++ [] ∷ []) ≡ is_closed choices = list_any-append (λ f. bytes_eq f null_name) choices ([] ∷ []) ∙ or-false (is_closed choices) in
      record { none = rw (names, closed) h.none; columns = rw (names, columns, closed) h.columns; known = rw names h.known }

  module _ (choices : List (List ℕ)) (c : ℕ) (cs : List ℕ) (h : AreSaid choices) (open_list : is_closed choices ≡ false) where
    filled : (suc (length cs) == 0) ≡ false
    filled = ne_eqb (suc (length cs)) 0 (λ z. cc z)

    names-more : names_in (choices ++ (c ∷ cs) ∷ []) ≡ names_in choices ++ (c ∷ cs) ∷ []
    names-more = filter-append (λ f. not (length f == 0)) choices ((c ∷ cs) ∷ []) ∙ rw filled refl

    closed-more : (b : Bool) → bytes_eq (c ∷ cs) null_name ≡ b → is_closed (choices ++ (c ∷ cs) ∷ []) ≡ b
    closed-more b e = list_any-append (λ f. bytes_eq f null_name) choices ((c ∷ cs) ∷ []) ∙ rw (open_list, e) (or-false b)

    none-more : (b : Bool) → bytes_eq (c ∷ cs) null_name ≡ b → has_name (names_in choices ++ (c ∷ cs) ∷ []) null_name ≡ b
    none-more b e = list_any-append (bytes_eq null_name) (names_in choices) ((c ∷ cs) ∷ []) ∙ rw (h.none, open_list, name_test.turned null_name (c ∷ cs), e) (or-false b)

    columns-before : map (place_of (with_none objects)) (names_in choices) ≡ columns_of objects choices
    columns-before = h.columns ∙ rw open_list (append-nil (columns_of objects choices))

    columns-more : (k : ℕ) → place_of (with_none objects) (c ∷ cs) ≡ k → map (place_of (with_none objects)) (names_in choices ++ (c ∷ cs) ∷ []) ≡ columns_of objects choices ++ k ∷ []
    columns-more k e = map-append (place_of (with_none objects)) (names_in choices) ((c ∷ cs) ∷ []) ∙ rw (columns-before, e) refl

    -- `none` closes the list
    null-more : bytes_eq (c ∷ cs) null_name ≡ true → AreSaid (choices ++ (c ∷ cs) ∷ [])
    unfolding columns_of column_of
    null-more e =
        let same = name_test.sound (c ∷ cs) null_name e in
        let place : place_of (with_none objects) (c ∷ cs) ≡ length objects = ap (place_of (with_none objects)) same ∙ none-place in
        let columns : columns_of objects (choices ++ (c ∷ cs) ∷ []) ≡ columns_of objects choices =
        filter_map-append (column_of objects) choices ((c ∷ cs) ∷ []) ∙ rw (filled, e) (append-nil (columns_of objects choices)) in
        record {
          none = rw (names-more, closed-more true e) (none-more true e);
          columns = rw (names-more, columns, closed-more true e) (columns-more (length objects) place);
          known = rw names-more (All-push (λ name. has_name (with_none objects) name ≡ true) (names_in choices) (c ∷ cs) h.known (list_any-append (bytes_eq (c ∷ cs)) objects (null_name ∷ []) ∙ rw e (or-true (has_name objects (c ∷ cs)))));
        }
      where
        or-true : (b : Bool) → (b || true) ≡ true
        or-true true = refl
        or-true false = refl

    -- the name of an object
    name-more : (k : ℕ) → bytes_eq (c ∷ cs) null_name ≡ false → name_index objects (c ∷ cs) ≡ Some k → AreSaid (choices ++ (c ∷ cs) ∷ [])
    unfolding columns_of column_of
    name-more k e is =
        let columns : columns_of objects (choices ++ (c ∷ cs) ∷ []) ≡ columns_of objects choices ++ k ∷ [] =
        filter_map-append (column_of objects) choices ((c ∷ cs) ∷ []) ∙ rw (filled, e, is) refl in
        let among : has_name objects (c ∷ cs) ≡ true = sym (is_some-name_index objects (c ∷ cs)) ∙ ap is_some is in
        record {
          none = rw (names-more, closed-more false e) (none-more false e);
          columns = rw (names-more, columns, closed-more false e, append-nil (columns_of objects choices ++ k ∷ [])) (columns-more k (known-place (c ∷ cs) k is));
          known = rw names-more (All-push (λ name. has_name (with_none objects) name ≡ true) (names_in choices) (c ∷ cs) h.known (list_any-append (bytes_eq (c ∷ cs)) objects (null_name ∷ []) ∙ rw among refl));
        }

    -- a choice that is not empty
    filled-more : check_choice objects choices (c ∷ cs) ≡ None → AreSaid (choices ++ (c ∷ cs) ∷ [])
    unfolding check_choice
    filled-more e = elim (cases_Bool (bytes_eq (c ∷ cs) null_name)) [
      | inl null ↦ null-more null
      | inr other ↦
          let after = (passed (not (is_closed choices)) kind.NullNotLast _ (rw filled at e)).1 in
          let named = (passed (is_name (c ∷ cs)) kind.BadName (check_column (name_index objects (c ∷ cs)) (columns_of objects choices)) (rw other at after)).1 in
          let (k, is, new) = column-passed (name_index objects (c ∷ cs)) (columns_of objects choices) named in
          name-more k other is
    ]

  one-more : (choices : List (List ℕ)) (x : List ℕ) → check_choice objects choices x ≡ None → AreSaid choices → AreSaid (choices ++ x ∷ [])
  unfolding check_choice
  one-more choices [] c h = blank-more choices h
  one-more choices (x ∷ xs) c h =
      let first = (passed (not (is_closed choices)) kind.NullNotLast _ (rw (ne_eqb (suc (length xs)) 0 (λ z. cc z)) at c)).0 in
      filled-more choices x xs h (not-true (is_closed choices) first) c

  choices-said : (row : Row) → check_choices objects row ≡ None → AreSaid (drop 1 row)
  unfolding check_choices
  choices-said row e = among-keeps (check_choice objects) AreSaid one-more (drop 1 row) e no-choices

  list-said : (row : Row) → check_choices objects row ≡ None → list_of objects row ≡ list_on objects row
  list-said row e = by (list_any (λ f. bytes_eq f null_name) (drop 1 row)) refl (choices-said row e)
    where
      by : (b : Bool) → list_any (λ f. bytes_eq f null_name) (drop 1 row) ≡ b → AreSaid (drop 1 row) → list_of objects row ≡ list_on objects row
      by true is h = rw (h.none ∙ is) (sym (h.columns ∙ rw is refl))
      by false is h =
          rw (h.none ∙ is)
          (sym (map-append (place_of (with_none objects)) (names_on row) (null_name ∷ [])
          ∙ rw (none-place, h.columns, is, append-nil (columns_of objects (drop 1 row))) refl))

-- ---- a problem

-- what lawful texts of both files keep to
both-lawful : (rows quota_rows : List Row) → problem_fault rows quota_rows ≡ None → (fault_of (declared quota_rows) rows ≡ None) × (quotas_fault (solve_setting rows quota_rows) quota_rows ≡ None)
both-lawful rows quota_rows e = by (fault_of (declared quota_rows) rows) (quotas_fault (solve_setting rows quota_rows) quota_rows) e
  where
    by : (a b : Option (ℕ × InputKind)) → option_or (in_file 1 a) (in_file 2 b) ≡ None → (a ≡ None) × (b ≡ None)
    by None None e = (refl, refl)
    by None (Some y) e = absurd (cc e)
    by (Some x) b e = absurd (cc e)

pub header-said : (rows quota_rows : List Row) (p : ProblemValue) → RowsReadAs rows quota_rows p → first_field (header_of rows) ≡ codes "agent"
header-said rows quota_rows p h = (passed-records (declared quota_rows) rows (both-lawful rows quota_rows h.0).0).0

-- ---- the objects

last-false : (a b c : Bool) → c ≡ false → (a && (b && c)) ≡ false
last-false true true c e = e
last-false true false c e = refl
last-false false b c e = refl

-- a record of another kind declares nothing
declares-nothing : (row : Row) → is_kind word.Object (word_of (field row 0)) ≡ false → declared_name row ≡ None
unfolding declared_name
declares-nothing row e =
    let object : bytes_eq (field row 0) (codes "object") ≡ false = kind-test word.Object (field row 0) ∙ e in
    rw (last-false (nat_le 2 (length row)) (nat_le (length row) 4) (bytes_eq (field row 0) (codes "object") && (not (bytes_eq (field row 1) null_name) && is_name (field row 1))) (rw object refl)) refl

-- a lawful `object` record declares its name
declares-object : (g : Setting) (st : Stated) (row : Row) → word_of (field row 0) ≡ Some word.Object → fields_fit word.Object row ≡ true → IsObjectPassed g st row → declared_name row ≡ Some (field row 1)
unfolding declared_name fields_fit
declares-object g st row e fit h =
    let object : bytes_eq (field row 0) (codes "object") ≡ true = kind-test word.Object (field row 0) ∙ rw e refl in
    let parts = and_parts (nat_le 2 (length row)) (nat_le (length row) 4) fit in
    rw (parts.0, parts.1, object, h.other, h.lawful) refl

object-same : (g : Setting) (before : List Row) (row : Row) → quotas.check_record g before row ≡ None → declared before ≡ (stated_by g before).columns → declared (before ++ row ∷ []) ≡ (stated_by g (before ++ row ∷ [])).columns
unfolding quotas.check_record
object-same g before row c h = by (word_of (field row 0)) refl (next-passed g (stated_by g before) row c)
  where
    after : (stated_by g (before ++ row ∷ [])).columns ≡ (stated_by g before).columns ++ cond (is_kind word.Object (word_of (field row 0))) (field row 1 ∷ []) []
    after = ap (λ (st : Stated). st.columns) (stated_more g (nothing g) before row ∙ record-adds g (stated_by g before) row) ∙ columns-step g (word_of (field row 0)) row (stated_by g before)

    none : is_kind word.Object (word_of (field row 0)) ≡ false → declared (before ++ row ∷ []) ≡ (stated_by g (before ++ row ∷ [])).columns
    none f =
        let same : with_name (declared before) (declared_name row) ≡ (stated_by g before).columns = rw (declares-nothing row f) h in
        let still : (stated_by g (before ++ row ∷ [])).columns ≡ (stated_by g before).columns = after ∙ rw f (append-nil (stated_by g before).columns) in
        sym (declared-push before row) ∙ same ∙ sym still

    object : word_of (field row 0) ≡ Some word.Object → fields_fit word.Object row ≡ true → IsObjectPassed g (stated_by g before) row → declared (before ++ row ∷ []) ≡ (stated_by g (before ++ row ∷ [])).columns
    object e fit p =
        let more : with_name (declared before) (declared_name row) ≡ (stated_by g before).columns ++ field row 1 ∷ [] = rw (declares-object g (stated_by g before) row e fit p, h, p.new) refl in
        let added : (stated_by g (before ++ row ∷ [])).columns ≡ (stated_by g before).columns ++ field row 1 ∷ [] = after ∙ rw e refl in
        sym (declared-push before row) ∙ more ∙ sym added

    by : (o : Option Word) → word_of (field row 0) ≡ o → IsPassed o g (stated_by g before) row → declared (before ++ row ∷ []) ≡ (stated_by g (before ++ row ∷ [])).columns
    by None e p = none (rw e refl)
    by (Some word.Object) e p = object e p.0 (object-passed g (stated_by g before) row p.1)
    by (Some w) e p = none (rw e refl)

pub objects-are : (g : Setting) (rows : List Row) → quotas_fault g rows ≡ None → declared rows ≡ (stated_by g rows).columns
unfolding declared stated_from
objects-are g rows e = fault-keeps (quotas.check_record g) (λ _. None) (λ rows. declared rows ≡ (stated_by g rows).columns) (object-same g) [] rows e refl

pub objects-said : (rows quota_rows : List Row) (p : ProblemValue) → RowsReadAs rows quota_rows p → p.objects ≡ map (λ r. field r 1) (records_of (codes "object") quota_rows)
objects-said rows quota_rows p h =
    let g = solve_setting rows quota_rows in
    ap (λ (q : ProblemValue). q.objects) h.1 ∙ objects-are g quota_rows (both-lawful rows quota_rows h.0).1 ∙ columns-said g quota_rows

-- `none` is not declared
one-apart : (b : Bool) (name : List ℕ) (rest : List (List ℕ)) → (b ≡ true → bytes_eq name null_name ≡ false) → has_name rest null_name ≡ false → has_name (cons_option (cond b (Some name) None) rest) null_name ≡ false
one-apart true name rest h e = rw (other-name name (h refl)) e
one-apart false name rest h e = e

is-other : (a b c d e : Bool) → (a && (b && (c && (not d && e)))) ≡ true → d ≡ false
is-other a b c true e h = absurd (both_ways (a && (b && (c && false))) (last-false a b (c && false) (false-last c)) h)
  where
    false-last : (c : Bool) → (c && false) ≡ false
    false-last true = refl
    false-last false = refl
is-other a b c false e h = refl

none-apart : (rows : List Row) → has_name (filter_map declared_name rows) null_name ≡ false
unfolding declared_name
none-apart [] = refl
none-apart (r ∷ rows) =
    one-apart _ (field r 1) (filter_map declared_name rows)
    (is-other (nat_le 2 (length r)) (nat_le (length r) 4) (bytes_eq (field r 0) (codes "object")) (bytes_eq (field r 1) null_name) (is_name (field r 1))) (none-apart rows)

pub declared-apart : (rows : List Row) → has_name (declared rows) null_name ≡ false
unfolding declared
declared-apart rows = has-each_once (filter_map declared_name rows) null_name ∙ none-apart rows

-- ---- the lists

map-same : {X Y : Type 0} (f g : X → Y) (xs : List X) → ((i : ℕ) (x : X) → slice_get xs i ≡ Some x → f x ≡ g x) → map f xs ≡ map g xs
map-same f g [] h = refl
map-same f g (x ∷ xs) h = rw (h 0 x refl, map-same f g xs (λ i y e. h (suc i) y e)) refl

pub lists-said : (rows quota_rows : List Row) (p : ProblemValue) → RowsReadAs rows quota_rows p → p.lists ≡ map (list_on p.objects) (agent_rows rows)
lists-said rows quota_rows p h =
    let objects = declared quota_rows in
    let each = (passed-records objects rows (both-lawful rows quota_rows h.0).0).1 in
    ap (λ (q : ProblemValue). q.lists) h.1
    ∙ map-same (list_of objects) (list_on objects) (agent_rows rows) (λ i row e. list-said objects (declared-apart quota_rows) row (each i row e))
    ∙ ap (λ (q : ProblemValue). map (list_on q.objects) (agent_rows rows)) (sym h.1)

pub known-said : (rows quota_rows : List Row) (p : ProblemValue) → RowsReadAs rows quota_rows p → All (λ r. All (λ name. has_name (with_none p.objects) name ≡ true) (names_on r)) (agent_rows rows)
known-said rows quota_rows p h =
    let objects = declared quota_rows in
    let each = (passed-records objects rows (both-lawful rows quota_rows h.0).0).1 in
    subst (λ (q : ProblemValue). All (λ r. All (λ name. has_name (with_none q.objects) name ≡ true) (names_on r)) (agent_rows rows)) (sym h.1)
    (λ k d l. (choices-said objects (declared-apart quota_rows) (get_or (agent_rows rows) k d) (each k (get_or (agent_rows rows) k d) (slice_get-get_or (agent_rows rows) k d l))).known)
