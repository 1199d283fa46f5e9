-- The records with fields, each checked against those before it.
use Rattle.std.proofs.Common.{◌≡◌, ◌∙◌, ◌==◌, ◌<◌, ◌++◌, ◌∷◌, [], ℕ, List, Option, Some, None, Bool, false, cond, sym, ap, length, get_or, arith, inl, inr, ◌⊎◌}
use Rattle.std.specs.Prelude.{slice_get}
use Rattle.std.proofs.Math.Seq.{get_or-append_seam, take-append_seam}
use Rattle.std.proofs.lemmas.Bool.{cases_Bool, cases_lt}
use Rattle.std.proofs.lemmas.List.{get_or_append_left, length_push, take-append-le}
use Rattle.std.proofs.lemmas.Option.{get_or_from_slice_get, slice_get-get_or, slice_get_within}
use Rattle.definitions.specs.Firsts.{AreLawful, fault_after}
use Rattle.definitions.specs.Texts.{Row}
use Rattle.definitions.proofs.Passed.{fault-keeps, passed}
use Rattle.alloc_input.specs.Prefs.{filled_rows}
use Rattle.alloc_input.proofs.AfterRecords.{filled_rows-blank, filled_rows-more}

-- a record with fields that passes its own checks passes the rest
pub some-passed : {K : Type 0} (blank text : Bool) (k : K) (rest : Option K) → blank ≡ false → cond blank None (cond text rest (Some k)) ≡ None → rest ≡ None
some-passed blank text k rest e h = (passed text k rest (rw e at h)).1

-- a place in a list with one more at its end is one before, or the last
pub push-place : {X : Type 0} (xs : List X) (x y : X) (k : ℕ) → slice_get (xs ++ x ∷ []) k ≡ Some y → ((k < length xs) × (slice_get xs k ≡ Some y)) ⊎ ((k ≡ length xs) × (x ≡ y))
push-place xs x y k e =
    let within = slice_get_within (xs ++ x ∷ []) k y e in
    let at = get_or_from_slice_get (xs ++ x ∷ []) k y y e in
    elim (cases_lt k (length xs)) [
      | inl before ↦ inl (before, slice_get-get_or xs k y before ∙ ap (λ z. Some z) (sym (get_or_append_left xs (x ∷ []) y k before) ∙ at))
      | inr from ↦
          let last : k ≡ length xs = omega (arith, within, from, length_push xs x) in
          inr (last, sym (get_or-append_seam xs x [] y) ∙ ap (λ j. get_or (xs ++ x ∷ []) j y) (sym last) ∙ at)
    ]

module _ {K : Type 0} (check : List Row → Row → Option K) where
  -- one more lawful record
  lawful-push : (xs : List Row) (x : Row) → AreLawful check xs (length xs) → check xs x ≡ None → AreLawful check (xs ++ x ∷ []) (length (xs ++ x ∷ []))
  lawful-push xs x h c j q l e = elim (push-place xs x q j e) [
    | inl before ↦ rw (take-append-le j xs (x ∷ []) (omega (arith, before.0))) (h j q before.0 before.1)
    | inr last ↦ rw (last.0, take-append_seam xs (x ∷ []), ← last.1) c
  ]

  -- what is checked of the records with fields alone
  module _ (whole : List Row → Row → Option K) (at_end : List Row → Option K)
      (passes : (before : List Row) (row : Row) → (length row == 0) ≡ false → whole before row ≡ None → check (filled_rows before) row ≡ None) where
    next-lawful : (before : List Row) (row : Row) → whole before row ≡ None → AreLawful check (filled_rows before) (length (filled_rows before))
        → AreLawful check (filled_rows (before ++ row ∷ [])) (length (filled_rows (before ++ row ∷ [])))
    next-lawful before row c h = elim (cases_Bool (length row == 0)) [
      | inl blank ↦ rw (filled_rows-blank before row (sym blank)) h
      | inr some ↦ rw (filled_rows-more before row (sym some)) (lawful-push (filled_rows before) row h (passes before row some c))
    ]

    pub filled-lawful : (rows : List Row) → fault_after whole at_end [] rows ≡ None → AreLawful check (filled_rows rows) (length (filled_rows rows))
    unfolding filled_rows
    filled-lawful rows e =
        fault-keeps whole at_end (λ rows. AreLawful check (filled_rows rows) (length (filled_rows rows))) next-lawful [] rows e (λ j q l s. absurd (omega arith))
