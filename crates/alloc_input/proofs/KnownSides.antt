-- The sets that lawful quotas state are of side 1 or 2.
use Rattle.std.proofs.Common.{◌≡◌, ◌⊎◌, ◌∷◌, [], ℕ, List, Option, Some, None, Bool, true, false, cond, All, refl, sym, subst, length, get_or, inl, inr}
use Rattle.std.specs.Prelude.{◌==◌, ◌||◌, is_some, nat_le, not}
use Rattle.std.specs.List.{list_all}
use Rattle.std.specs.Str.{is_utf8}
use Rattle.std.proofs.lemmas.Bool.{cases_lt}
use Rattle.std.proofs.lemmas.List.{set_past}
use Rattle.std.proofs.lemmas.List.Elements.{All-nil, All-push, All-set}
use Rattle.definitions.specs.Sets.{SetValue}
use Rattle.definitions.specs.Texts.{Row, field, is_name, name_index}
use Rattle.definitions.proofs.Passed.{both-pass, fault-keeps}
use Rattle.alloc_input.specs.Checks.{need}
use Rattle.alloc_input.specs.Quotas.{check_kind, check_limits, check_next, check_quotas, check_record, check_set, check_word, fields_fit, quotas_fault, set_words}
use Rattle.alloc_input.specs.Stated.{Setting, Stated, add_bundle, add_cells, add_demand, add_group, add_kind, add_object, add_record, add_row, add_set, ceiling_at, empty_set, floor_at, grown_at, nothing, side_of, stated_by, stated_from, with_rectangle_in, word_of}
use Rattle.alloc_input.specs.declared.faults.InputKind.{InputKind}
use Rattle.alloc_input.specs.declared.faults.InputKind.TheVariants as kind
use Rattle.alloc_input.specs.declared.quotas.words.Word.{Word}
use Rattle.alloc_input.specs.declared.quotas.words.Word.TheVariants as word
use Rattle.alloc_input.proofs.Reading.{stated_more}
use Rattle.alloc_input.proofs.StatedChecks.{each-passed}
use Rattle.alloc_input.proofs.Stops.{passed}

abbrev pub IsKnownSide : SetValue → Type 0
IsKnownSide s = (s.side ≡ 1) ⊎ (s.side ≡ 2)

abbrev number-of : Bool → Bool → ℕ
number-of first second = cond first 1 (cond second 2 0)

-- a text that names a side names 1 or 2
one-or-two : (first second : Bool) → not (number-of first second == 0) ≡ true → (number-of first second ≡ 1) ⊎ (number-of first second ≡ 2)
one-or-two true second e = inl refl
one-or-two false true e = inr refl
one-or-two false false e = cc e

side-named : (g : Setting) (st : Stated) (row : Row) → check_set g st row ≡ None → (side_of (field row 2) ≡ 1) ⊎ (side_of (field row 2) ≡ 2)
unfolding check_set set_words
side-named g st row e =
    one-or-two _ _ (passed _ _ (each-passed (need (is_name (field row 1)) kind.BadName ∷ need (not (is_some (name_index st.names (field row 1)))) kind.RepeatedName ∷ need (not (side_of (field row 2) == 0)) kind.BadNumber ∷ need (not g.solve || side_of (field row 2) == 2) kind.SideInSolve ∷ check_quotas row 3 ∷ need (not g.solve || floor_at row 3 == 0) kind.FloorInSolve ∷ need (nat_le (floor_at row 3) (ceiling_at row 4)) kind.FloorAboveCeiling ∷ [])
    (both-pass (set_words g st row) (check_limits (add_set g st row).sets) e).0 2))

-- cells that are added leave the side
grown-known : (m n : ℕ) (sets : List SetValue) (place : ℕ) (rows cols : List ℕ) → All IsKnownSide sets → All IsKnownSide (grown_at m n sets place rows cols)
unfolding grown_at
grown-known m n sets place rows cols h = elim (cases_lt place (length sets)) [
  | inl there ↦ All-set IsKnownSide sets place (with_rectangle_in m n rows cols (get_or sets place (empty_set 0 0 0))) (h place (empty_set 0 0 0) there) h
  | inr past ↦ subst (λ (xs : List SetValue). All IsKnownSide xs) (sym (set_past sets place (with_rectangle_in m n rows cols (get_or sets place (empty_set 0 0 0))) past)) h
]

-- ---- one more record

module _ (g : Setting) (st : Stated) (row : Row) (h : All IsKnownSide st.sets) where
  object-known : All IsKnownSide (add_object g st row).sets
  unfolding add_object
  object-known = All-push IsKnownSide st.sets _ h (inr refl)

  agent-known : (solve : Bool) → All IsKnownSide (cond solve (add_demand g st row) (add_row g st row)).sets
  unfolding add_demand add_row
  agent-known true = h
  agent-known false = All-push IsKnownSide st.sets _ h (inl refl)

  group-known : All IsKnownSide (add_group g st row).sets
  unfolding add_group
  group-known = h

  bundle-known : All IsKnownSide (add_bundle g st row).sets
  unfolding add_bundle
  bundle-known = h

  set-known : check_set g st row ≡ None → All IsKnownSide (add_set g st row).sets
  unfolding add_set
  set-known e = All-push IsKnownSide st.sets _ h (side-named g st row e)

  cells-known : All IsKnownSide (add_cells g st row).sets
  unfolding add_cells
  cells-known = grown-known _ _ st.sets _ _ _ h

  word-known : (w : Word) → check_word w g st row ≡ None → All IsKnownSide (add_kind (Some w) g st row).sets
  unfolding check_word add_kind
  word-known word.Object e = object-known
  word-known word.Agent e = agent-known g.solve
  word-known word.Group e = group-known
  word-known word.Bundle e = bundle-known
  word-known word.Set e = set-known e
  word-known word.In e = cells-known

  kind-known : (w : Option Word) → check_kind w g st row ≡ None → All IsKnownSide (add_kind w g st row).sets
  unfolding check_kind
  kind-known None e = absurd (cc)
  kind-known (Some w) e = word-known w (both-pass (need (fields_fit w row) kind.WrongLength) (check_word w g st row) e).1

  filled-known : (w : Option Word) (blank text : Bool) (k : InputKind) → cond blank None (cond (not text) (Some k) (check_kind w g st row)) ≡ None → All IsKnownSide (cond blank st (add_kind w g st row)).sets
  filled-known w true text k e = h
  filled-known w false true k e = kind-known w e
  filled-known w false false k e = absurd (cc)

  next-known : check_next g st row ≡ None → All IsKnownSide (add_record g st row).sets
  unfolding check_next add_record
  next-known e = filled-known (word_of (field row 0)) (length row == 0) (list_all is_utf8 row) kind.NotUtf8 e

-- ---- all records

none-known : (g : Setting) → All IsKnownSide (stated_by g []).sets
unfolding stated_from
none-known g = All-nil IsKnownSide

pub sides-known : (g : Setting) (rows : List Row) → quotas_fault g rows ≡ None → All IsKnownSide (stated_by g rows).sets
unfolding check_record
sides-known g rows e =
    fault-keeps (check_record g) (λ _. None) (λ rows. All IsKnownSide (stated_by g rows).sets)
    (λ before row c h. subst (λ (st : Stated). All IsKnownSide st.sets) (sym (stated_more g (nothing g) before row)) (next-known g (stated_by g before) row h c))
    [] rows e (none-known g)
