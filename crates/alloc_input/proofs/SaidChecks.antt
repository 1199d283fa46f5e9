-- What a lawful record of quotas says of its names.
use Rattle.std.proofs.Common.{◌≡◌, ◌==◌, ◌||◌, ◌∷◌, [], ℕ, suc, List, Option, Some, None, Bool, true, false, cond, length}
use Rattle.std.specs.Prelude.{is_some, nat_le, not}
use Rattle.std.specs.List.{list_all}
use Rattle.std.specs.Str.{bytes_eq, is_utf8}
use Rattle.std.proofs.lemmas.Bool.{ne_eqb, not-true}
use Rattle.definitions.specs.Texts.{Row, field, has_name, is_name, name_index, null_name}
use Rattle.definitions.proofs.Passed.{both-pass}
use Rattle.table_text.proofs.KnownNames.{name-absent}
use Rattle.alloc_input.specs.Checks.{need}
use Rattle.alloc_input.specs.Quotas.{check_bundle, check_demand, check_group, check_in, check_kind, check_limits, check_members, check_next, check_object, check_quotas, check_row, check_set, check_word, demand_words, fields_fit, in_words, is_below, object_words, row_words, set_words}
use Rattle.alloc_input.specs.Stated.{Setting, Stated, add_cells, add_object, add_set, agents_named, ceiling_at, columns_named, floor_at, place_named, side_of, word_of}
use Rattle.alloc_input.specs.declared.faults.InputKind.{InputKind}
use Rattle.alloc_input.specs.declared.faults.InputKind.TheVariants as kind
use Rattle.alloc_input.specs.declared.quotas.words.Word.{Word}
use Rattle.alloc_input.specs.declared.quotas.words.Word.TheVariants as word
use Rattle.alloc_input.proofs.StatedChecks.{each-passed}
use Rattle.alloc_input.proofs.Stops.{passed}

-- ---- the kind

-- what a record that passes keeps to, by its kind
abbrev pub IsPassed : Option Word → Setting → Stated → Row → Type 0
IsPassed None g st row = Unit {0}
IsPassed (Some w) g st row = (fields_fit w row ≡ true) × (check_word w g st row ≡ None)

kind-passed : (o : Option Word) (g : Setting) (st : Stated) (row : Row) → check_kind o g st row ≡ None → IsPassed o g st row
unfolding check_kind
kind-passed None g st row e = tt
kind-passed (Some w) g st row e =
    let both = both-pass (need (fields_fit w row) kind.WrongLength) (check_word w g st row) e in
    (passed (fields_fit w row) kind.WrongLength both.0, both.1)

text-passed : {K : Type 0} (text : Bool) (k : K) (rest : Option K) → cond (not text) (Some k) rest ≡ None → rest ≡ None
text-passed true k rest e = e
text-passed false k rest e = absurd (cc e)

pub next-passed : (g : Setting) (st : Stated) (row : Row) → check_next g st row ≡ None → IsPassed (word_of (field row 0)) g st row
unfolding check_next word_of
next-passed g st [] e = tt
next-passed g st (f ∷ fs) e =
    kind-passed (word_of f) g st (f ∷ fs) (text-passed (list_all is_utf8 (f ∷ fs)) kind.NotUtf8 (check_kind (word_of f) g st (f ∷ fs)) (rw (ne_eqb (suc (length fs)) 0 (λ z. cc z)) at e))

-- ---- names

-- a name that passes as new is none of these
is-new : (names : List (List ℕ)) (name : List ℕ) → need (not (is_some (name_index names name))) kind.RepeatedName ≡ None → has_name names name ≡ false
is-new names name e = name-absent names name (not-true (is_some (name_index names name)) (passed _ kind.RepeatedName e))

module _ (g : Setting) (st : Stated) (row : Row) where
  abbrev object_list : List (Option InputKind)
  object_list =
      need (is_name (field row 1)) kind.BadName
      ∷ need (not (bytes_eq (field row 1) null_name)) kind.NoneInSet
      ∷ need (not g.solve || is_below (name_index g.objects (field row 1)) 200) kind.OverLimit
      ∷ need (is_some (name_index g.objects (field row 1))) kind.UnknownName
      ∷ need (not (is_some (name_index st.columns (field row 1)))) kind.RepeatedName
      ∷ check_quotas row 2
      ∷ need (not g.solve || floor_at row 2 == 0) kind.FloorInSolve
      ∷ need (nat_le (floor_at row 2) (ceiling_at row 3)) kind.FloorAboveCeiling
      ∷ []

  -- an `object` record: a lawful name other than `none`, of an object, that none before it has
  pub record IsObjectPassed : Type 0 where
    pub lawful : is_name (field row 1) ≡ true
    pub other : bytes_eq (field row 1) null_name ≡ false
    pub known : is_some (name_index g.objects (field row 1)) ≡ true
    pub new : has_name st.columns (field row 1) ≡ false

  pub object-passed : check_word word.Object g st row ≡ None → IsObjectPassed
  unfolding check_word check_object object_words
  object-passed e =
      let each = each-passed object_list (both-pass (object_words g st row) (check_limits (add_object g st row).sets) e).0 in
      record {
        lawful = passed _ kind.BadName (each 0);
        other = not-true (bytes_eq (field row 1) null_name) (passed _ kind.NoneInSet (each 1));
        known = passed _ kind.UnknownName (each 3);
        new = is-new st.columns (field row 1) (each 4);
      }

  abbrev demand_list : List (Option InputKind)
  demand_list =
      need (is_name (field row 1)) kind.BadName
      ∷ need (is_some (name_index g.agents (field row 1))) kind.UnknownName
      ∷ need (not (is_some (name_index st.rows (field row 1)))) kind.RepeatedName
      ∷ check_quotas row 2
      ∷ need (floor_at row 2 == ceiling_at row 3) kind.RowInSolve
      ∷ need (nat_le 1 (floor_at row 2)) kind.RowInSolve
      ∷ []

  -- an `agent` record: a known agent that has none before it
  pub record IsAgentPassed : Type 0 where
    pub known : is_some (name_index g.agents (field row 1)) ≡ true
    pub new : has_name st.rows (field row 1) ≡ false

  pub demand-passed : g.solve ≡ true → check_word word.Agent g st row ≡ None → IsAgentPassed
  unfolding check_word check_demand demand_words
  demand-passed s e =
      let each = each-passed demand_list (both-pass (demand_words g st row) _ (rw s at e)).0 in
      record { known = passed _ kind.UnknownName (each 1); new = is-new st.rows (field row 1) (each 2) }

  abbrev group_list : List (Option InputKind)
  group_list =
      need (is_name (field row 1)) kind.BadName
      ∷ need (not (is_some (name_index g.agents (field row 1)))) kind.RepeatedName
      ∷ need (not (is_some (name_index st.groups (field row 1)))) kind.RepeatedName
      ∷ check_members false g.agents row
      ∷ []

  abbrev bundle_list : List (Option InputKind)
  bundle_list =
      need (is_name (field row 1)) kind.BadName
      ∷ need (not (bytes_eq (field row 1) null_name)) kind.NoneInSet
      ∷ need (not (is_some (name_index g.objects (field row 1)))) kind.RepeatedName
      ∷ need (not (is_some (name_index st.bundles (field row 1)))) kind.RepeatedName
      ∷ check_members true g.objects row
      ∷ []

  abbrev set_list : List (Option InputKind)
  set_list =
      need (is_name (field row 1)) kind.BadName
      ∷ need (not (is_some (name_index st.names (field row 1)))) kind.RepeatedName
      ∷ need (not (side_of (field row 2) == 0)) kind.BadNumber
      ∷ need (not g.solve || side_of (field row 2) == 2) kind.SideInSolve
      ∷ check_quotas row 3
      ∷ need (not g.solve || floor_at row 3 == 0) kind.FloorInSolve
      ∷ need (nat_le (floor_at row 3) (ceiling_at row 4)) kind.FloorAboveCeiling
      ∷ []

  abbrev in_list : List (Option InputKind)
  in_list =
      need (is_some (place_named st row)) kind.UnknownName
      ∷ need (is_some (agents_named g st row)) kind.UnknownName
      ∷ need (not (bytes_eq (field row 3) null_name)) kind.NoneInSet
      ∷ need (is_some (columns_named g st row)) kind.UnknownName
      ∷ []

  abbrev row_list : List (Option InputKind)
  row_list =
      need (is_name (field row 1)) kind.BadName
      ∷ need (is_some (name_index g.agents (field row 1))) kind.UnknownName
      ∷ need (not (is_some (name_index st.rows (field row 1)))) kind.RepeatedName
      ∷ check_quotas row 2
      ∷ need (nat_le (floor_at row 2) (ceiling_at row 3)) kind.FloorAboveCeiling
      ∷ []

  pub row-passed : g.solve ≡ false → check_word word.Agent g st row ≡ None → IsAgentPassed
  unfolding check_word check_row row_words
  row-passed s e =
      let each = each-passed row_list (both-pass (row_words g st row) _ (rw s at e)).0 in
      record { known = passed _ kind.UnknownName (each 1); new = is-new st.rows (field row 1) (each 2) }

  -- a label: a lawful name that is none of these names, nor of these labels
  pub record IsLabelPassed (names labels : List (List ℕ)) : Type 0 where
    pub lawful : is_name (field row 1) ≡ true
    pub apart : has_name names (field row 1) ≡ false
    pub new : has_name labels (field row 1) ≡ false

  pub group-passed : check_word word.Group g st row ≡ None → IsLabelPassed g.agents st.groups
  unfolding check_word check_group
  group-passed e =
      let each = each-passed group_list e in
      record { lawful = passed _ kind.BadName (each 0); apart = is-new g.agents (field row 1) (each 1); new = is-new st.groups (field row 1) (each 2) }

  pub bundle-passed : check_word word.Bundle g st row ≡ None → IsLabelPassed g.objects st.bundles
  unfolding check_word check_bundle
  bundle-passed e =
      let each = each-passed bundle_list e in
      record { lawful = passed _ kind.BadName (each 0); apart = is-new g.objects (field row 1) (each 2); new = is-new st.bundles (field row 1) (each 3) }

  pub set-passed : check_word word.Set g st row ≡ None → has_name st.names (field row 1) ≡ false
  unfolding check_word check_set set_words
  set-passed e = is-new st.names (field row 1) (each-passed set_list (both-pass (set_words g st row) (check_limits (add_set g st row).sets) e).0 1)

  -- an `in` record: a known set, known agents and known columns
  pub record IsInPassed : Type 0 where
    pub place : is_some (place_named st row) ≡ true
    pub agents : is_some (agents_named g st row) ≡ true
    pub columns : is_some (columns_named g st row) ≡ true

  pub in-passed : check_word word.In g st row ≡ None → IsInPassed
  unfolding check_word check_in in_words
  in-passed e =
      let each = each-passed in_list (both-pass (in_words g st row) (check_limits (add_cells g st row).sets) e).0 in
      record { place = passed _ kind.UnknownName (each 0); agents = passed _ kind.UnknownName (each 1); columns = passed _ kind.UnknownName (each 3) }
