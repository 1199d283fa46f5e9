-- One more record of preferences, and their end.
use Rattle.std.proofs.Common.{◌≡◌, ◌==◌, ◌∙◌, ◌++◌, ◌∷◌, [], ℕ, suc, List, None, true, false, refl, sym, length, drop}
use Rattle.std.specs.Prelude.{not, codes}
use Rattle.std.specs.List.{list_all}
use Rattle.std.specs.Str.{bytes_eq, is_utf8}
use Rattle.std.proofs.lemmas.Bool.{ne_eqb}
use Rattle.std.proofs.lemmas.List.{append-nil, map-append}
use Rattle.std.proofs.lemmas.List.Elements.{filter-append}
use Rattle.definitions.specs.Texts.{Row, first_field}
use Rattle.alloc_input.specs.Prefs.{is_blank, filled_rows, agent_rows, list_of, check_record, check_agent}
use Rattle.alloc_input.specs.PrefsReading.{IsAfter, column_lists}
use Rattle.alloc_input.specs.declared.prefs.State.{State}

pub filled_rows-blank : (e : List Row) (row : Row) → true ≡ (length row == 0) → filled_rows (e ++ row ∷ []) ≡ filled_rows e
unfolding filled_rows
filled_rows-blank e row h = filter-append (λ r. not (is_blank r)) e (row ∷ []) ∙ rw (← h) (append-nil _)

pub filled_rows-more : (e : List Row) (row : Row) → false ≡ (length row == 0) → filled_rows (e ++ row ∷ []) ≡ filled_rows e ++ row ∷ []
unfolding filled_rows
filled_rows-more e row h = filter-append (λ r. not (is_blank r)) e (row ∷ []) ∙ rw (← h) refl

pub drop-more : (xs : List Row) (row : Row) → not (length xs == 0) ≡ true → drop 1 (xs ++ row ∷ []) ≡ drop 1 xs ++ row ∷ []
drop-more [] row h = cc h
drop-more (x ∷ xs) row h = refl

pub header-first : (xs : List Row) (row : Row) → not (length xs == 0) ≡ false → (drop 1 (xs ++ row ∷ []) ≡ drop 1 xs) × (true ≡ not (length (xs ++ row ∷ []) == 0))
header-first [] row h = (refl, refl)
header-first (x ∷ xs) row h = let t = rw (ne_eqb (suc (length xs)) 0 (λ z. cc z)) at h in cc t

-- after a record that is not skipped there is a header
pub header-kept : (xs : List Row) (row : Row) → true ≡ not (length (xs ++ row ∷ []) == 0)
header-kept [] row = refl
header-kept (x ∷ xs) row = rw (ne_eqb (suc (length (xs ++ row ∷ []))) 0 (λ z. cc z)) refl

pub after-blank : (o : List (List ℕ)) (e : List Row) (row : Row) (s : State) → true ≡ (length row == 0) → IsAfter o e s
    → (check_record o e row ≡ None) × IsAfter o (e ++ row ∷ []) s
unfolding check_record
after-blank o e row s h a = (rw (← h) refl, (rw (filled_rows-blank e row h) a.0, rw (filled_rows-blank e row h) a.1, rw (filled_rows-blank e row h) a.2))

pub after-header : (o : List (List ℕ)) (e : List Row) (row : Row) (s : State) → false ≡ (length row == 0) → true ≡ list_all is_utf8 row → s.header ≡ false
    → true ≡ bytes_eq (first_field row) (codes "agent") → IsAfter o e s
    → (check_record o e row ≡ None) × IsAfter o (e ++ row ∷ []) (record s { header = true })
unfolding check_record
after-header o e row s h t n w a =
    let none = sym a.0 ∙ n in
    let f = header-first (filled_rows e) row none in
    (rw (← h, ← t, none, ← w) refl, (rw (filled_rows-more e row h) f.1, rw (filled_rows-more e row h, f.0) a.1, rw (filled_rows-more e row h, f.0) a.2))

pub after-agent : (o : List (List ℕ)) (e : List Row) (row : Row) (s s2 : State) → false ≡ (length row == 0) → s.header ≡ true → s2.header ≡ s.header
    → s2.agents ≡ s.agents ++ first_field row ∷ [] → column_lists s2.lists ≡ column_lists s.lists ++ list_of o row ∷ [] → IsAfter o e s
    → IsAfter o (e ++ row ∷ []) s2
after-agent o e row s s2 h n k p q a =
    let more = drop-more (filled_rows e) row (sym a.0 ∙ n) in
    let rows = filled_rows-more e row h in (
      k ∙ n ∙ rw rows (header-kept (filled_rows e) row),
      p ∙ rw (rows, more, a.1) (sym (map-append first_field (agent_rows e) (row ∷ []))),
      q ∙ rw (rows, more, a.2) (sym (map-append (list_of o) (agent_rows e) (row ∷ []))),
    )

pub agent-check : (o : List (List ℕ)) (e : List Row) (row : Row) (s : State) → false ≡ (length row == 0) → true ≡ list_all is_utf8 row → s.header ≡ true → IsAfter o e s
    → check_agent o s.agents row ≡ check_record o e row
unfolding check_record
agent-check o e row s h t n a = rw (← h, ← t, sym a.0 ∙ n, a.1) refl
