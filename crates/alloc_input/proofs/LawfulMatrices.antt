-- What a lawful text of a matrix gives: names within the limits.
use Rattle.std.proofs.Common.{◌≡◌, ◌==◌, ◌∙◌, ◌*◌, ◌<◌, ◌≤◌, ◌++◌, ◌∷◌, [], ℕ, List, Option, Some, None, Bool, true, false, cond, All, refl, sym, ap, subst, length, map, get_or, drop, inl, inr, arith}
use Rattle.std.specs.Prelude.{not}
use Rattle.std.specs.List.{list_all}
use Rattle.std.specs.Str.{bytes_eq, is_utf8}
use Rattle.std.proofs.lemmas.Bool.{and_parts, cases_Bool, ltb-true}
use Rattle.std.proofs.lemmas.List.{length_push, map-append, length-map}
use Rattle.std.proofs.lemmas.List.Elements.{All-map, All-nil, All-push}
use Rattle.std.proofs.lemmas.List.Folds.{list_any-append}
use Rattle.frac128.specs.declared.fractions.Fraction.{Fraction}
use Rattle.definitions.specs.Texts.{Row, first_field, has_name, is_name, null_name}
use Rattle.definitions.proofs.Passed.{passed, among-keeps, fault-keeps, fault-ends}
use Rattle.quota_sets.specs.NameList.{AreNames}
use Rattle.scaled_matrix.specs.Entries.{IsShare, IsShares, ratio_of, shares_from}
use Rattle.alloc_input.specs.Matrices.{IsMatrix, check_header, check_heading, check_matrix, check_shares, matrix_fault, objects_of}
use Rattle.alloc_input.specs.MatrixReading.{AreLimited, IsMatrixAfter}
use Rattle.alloc_input.specs.Prefs.{agents_of, check_end, filled_rows, has_header}
use Rattle.alloc_input.specs.declared.matrix.State.{State}
use Rattle.alloc_input.proofs.AfterRecords.{filled_rows-blank, filled_rows-more}
use Rattle.alloc_input.proofs.LawfulLists.{some-agents}
use Rattle.alloc_input.proofs.MatrixRecords.{length-entries, none-filled}
use Rattle.alloc_input.proofs.MatrixSuits.{other-name}

-- ---- the header

-- objects within the limits, none of them `none`
pub record AreHeadings (names : List (List ℕ)) : Type 0 where
  pub limit : length names ≤ 200
  pub lawful : All (λ name. is_name name ≡ true) names
  pub apart : has_name names null_name ≡ false

no-headings : AreHeadings []
no-headings = record { limit = omega arith; lawful = All-nil (λ name. is_name name ≡ true); apart = refl }

not-true : (b : Bool) → not b ≡ true → b ≡ false
not-true true e = cc e
not-true false e = refl

heading-passed : (earlier : List (List ℕ)) (name : List ℕ) → check_heading earlier name ≡ None → (is_name name ≡ true) × (bytes_eq name null_name ≡ false) × (length earlier < 200)
unfolding check_heading
heading-passed earlier name e =
    let named = passed _ _ _ e in
    let new = passed _ _ _ named.1 in
    let few = passed _ _ _ new.1 in
    let parts = and_parts (is_name name) (not (bytes_eq name null_name)) named.0 in
    (parts.0, not-true (bytes_eq name null_name) parts.1, ltb-true (length earlier) 200 few.0)

heading-more : (earlier : List (List ℕ)) (name : List ℕ) → check_heading earlier name ≡ None → AreHeadings earlier → AreHeadings (earlier ++ name ∷ [])
heading-more earlier name e h =
    let p = heading-passed earlier name e in
    record {
      limit = omega (arith, p.2, length_push earlier name);
      lawful = All-push (λ name. is_name name ≡ true) earlier name h.lawful p.0;
      apart = list_any-append (bytes_eq null_name) earlier (name ∷ []) ∙ rw (h.apart, other-name name p.1) refl;
    }

header-lawful : (row : Row) → check_header row ≡ None → AreHeadings (drop 1 row)
unfolding check_header
header-lawful row e = among-keeps check_heading AreHeadings heading-more (drop 1 row) (passed _ _ _ e).1 no-headings

-- ---- records

-- objects and agents that some records have named, within the limits
record AreNamed (filled : List Row) : Type 0 where
  objects : AreHeadings (drop 1 (get_or filled 0 []))
  limit : length (drop 1 filled) ≤ 1000
  agents : All (λ name. is_name name ≡ true) (map first_field (drop 1 filled))

shares-passed : (objects agents : List (List ℕ)) (row : Row) → check_shares objects agents row ≡ None → (is_name (first_field row) ≡ true) × (length agents < 1000)
unfolding check_shares
shares-passed objects agents row e =
    let named = passed _ _ _ e in
    let new = passed _ _ _ named.1 in
    let few = passed _ _ _ new.1 in
    (named.0, ltb-true (length agents) 1000 few.0)

record-checked : {K : Type 0} (blank text header : Bool) (a : K) (agent word : Option K) → blank ≡ false → cond blank None (cond text (cond header agent word) (Some a)) ≡ None → cond header agent word ≡ None
record-checked blank text header a agent word e h = (passed text a (cond header agent word) (rw e at h)).1

named-more : (filled : List Row) (row : Row) → not (length filled == 0) ≡ true → check_shares (drop 1 (get_or filled 0 [])) (map first_field (drop 1 filled)) row ≡ None → AreNamed filled → AreNamed (filled ++ row ∷ [])
named-more [] row n c h = cc n
named-more (x ∷ xs) row n c h =
    let p = shares-passed (drop 1 x) (map first_field xs) row c in
    record {
      objects = h.objects;
      limit = omega (arith, p.1, length-map xs first_field, length_push xs row);
      agents = rw (map-append first_field xs (row ∷ [])) (All-push (λ name. is_name name ≡ true) (map first_field xs) (first_field row) h.agents p.0);
    }

record-named : (before : List Row) (row : Row) → check_matrix before row ≡ None → AreNamed (filled_rows before) → AreNamed (filled_rows (before ++ row ∷ []))
unfolding check_matrix
record-named before row c h = elim (cases_Bool (length row == 0)) [
  | inl blank ↦ subst AreNamed (sym (filled_rows-blank before row (sym blank))) h
  | inr some ↦
      let more = filled_rows-more before row (sym some) in
      let checked = record-checked (length row == 0) (list_all is_utf8 row) (has_header before) _ (check_shares (objects_of before) (agents_of before) row) (check_header row) some c in
      elim (cases_Bool (has_header before)) [
        | inl header ↦ subst AreNamed (sym more) (named-more (filled_rows before) row header (rw header at checked) h)
        | inr none ↦
            let only = more ∙ ap (λ rows. rows ++ row ∷ []) (none-filled (filled_rows before) none) in
            subst AreNamed (sym only) (record {
              objects = header-lawful row (rw none at checked);
              limit = omega arith;
              agents = All-nil (λ name. is_name name ≡ true);
            })
      ]
]

no-records : AreNamed (filled_rows [])
unfolding filled_rows
no-records = record { objects = no-headings; limit = omega arith; agents = All-nil (λ name. is_name name ≡ true) }

-- the names of a lawful matrix: 1 to 1,000 agents, and at most 200 objects besides `none`
pub record AreMatrixNames (agents objects : List (List ℕ)) : Type 0 where
  pub headings : AreHeadings objects
  pub some : 1 ≤ length agents
  pub limit : length agents ≤ 1000
  pub lawful : All (λ name. is_name name ≡ true) agents

pub matrix-lawful : (rows : List Row) → matrix_fault rows ≡ None → AreMatrixNames (agents_of rows) (objects_of rows)
matrix-lawful rows e =
    let h = fault-keeps check_matrix check_end (λ rows. AreNamed (filled_rows rows)) record-named [] rows e no-records in
    let some = some-agents rows (fault-ends check_matrix check_end [] rows e) in
    record {
      headings = h.objects;
      some = omega arith;
      limit = omega (arith, h.limit, length-map (drop 1 (filled_rows rows)) first_field);
      lawful = h.agents;
    }

-- fractions that are at most 1,000, one for each cell, are lawful shares
shares-lawful : (agents objects : List (List ℕ)) (entries : List Fraction) → length entries ≡ length agents * length objects → AreLimited entries → IsShares (shares_from agents objects entries)
shares-lawful agents objects entries shape limited = record {
  shape = length-map entries ratio_of ∙ shape;
  lawful = All-map IsShare ratio_of entries (λ k d l. record { positive = (get_or entries k d).positive; lowest = (get_or entries k d).lowest; limit = limited k d l });
}

-- what lawful records state is a lawful matrix
pub matrix-is-lawful : (rows : List Row) (s : State) → matrix_fault rows ≡ None → IsMatrixAfter rows s → AreLimited s.entries.items → AreNames s.agents → AreNames s.objects
    → IsMatrix (shares_from s.agents s.objects s.entries.items)
matrix-is-lawful rows s none after limited agents objects =
    let P : List (List ℕ) → Type 0 = λ names. AreMatrixNames names (objects_of rows) in
    let Q : List (List ℕ) → Type 0 = λ names. AreMatrixNames s.agents names in
    let names = subst Q (sym after.objects) (subst P (sym after.agents) (matrix-lawful rows none)) in
    record {
      agents_some = names.some;
      agents_limit = names.limit;
      agents_named = record { lawful = names.lawful; distinct = agents.distinct };
      objects_limit = names.headings.limit;
      objects_named = record { lawful = names.headings.lawful; distinct = objects.distinct };
      objects_apart = names.headings.apart;
      shares = shares-lawful s.agents s.objects s.entries.items (length-entries rows s after) limited;
    }
