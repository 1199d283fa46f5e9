-- One more record of a matrix.
use Rattle.std.proofs.Common.{◌≡◌, ◌==◌, ◌∙◌, ◌+◌, ◌*◌, ◌++◌, ◌∷◌, [], ℕ, suc, List, None, Bool, true, false, refl, sym, ap, subst, length, map, get_or, drop, length-append, arith}
use Rattle.std.specs.Prelude.{not, flat_map}
use Rattle.std.specs.List.{list_all}
use Rattle.std.specs.Str.{is_utf8}
use Rattle.std.proofs.lemmas.Bool.{ne_eqb}
use Rattle.std.proofs.lemmas.Grind.{flat_map-append}
use Rattle.std.proofs.lemmas.List.{append-nil, map-append, length-map}
use Rattle.std.proofs.lemmas.List.Elements.{length_all_zip}
use Rattle.frac128.specs.declared.fractions.Fraction.{Fraction}
use Rattle.definitions.specs.Texts.{Row, first_field}
use Rattle.definitions.specs.Values.{Ratio}
use Rattle.scaled_matrix.specs.Entries.{ratio_of, ratios_of}
use Rattle.alloc_input.specs.Matrices.{IsSameShare, all_shares, check_header, check_matrix, check_shares, objects_of, shares_of}
use Rattle.alloc_input.specs.MatrixReading.{AddsShares, AreShares, IsMatrixAfter}
use Rattle.alloc_input.specs.Prefs.{agent_rows, filled_rows}
use Rattle.alloc_input.specs.declared.matrix.State.{State}
use Rattle.alloc_input.proofs.AfterRecords.{filled_rows-blank, filled_rows-more, header-kept}
use Rattle.alloc_input.proofs.EntryFacts.{length-shares}

pub none-filled : (xs : List Row) → not (length xs == 0) ≡ false → xs ≡ []
none-filled [] e = refl
none-filled (x ∷ xs) e = let some : (suc (length xs) == 0) ≡ false = ne_eqb (suc (length xs)) 0 (λ z. cc z) in cc (rw some at e)

pub first-kept : (xs : List Row) (row : Row) → not (length xs == 0) ≡ true → get_or (xs ++ row ∷ []) 0 [] ≡ get_or xs 0 []
first-kept [] row e = cc e
first-kept (x ∷ xs) row e = refl

-- what the records that are not skipped state
record IsFilled (filled : List Row) (header : Bool) (objects agents : List (List ℕ)) (entries : List Fraction) : Type 0 where
  header_is : header ≡ not (length filled == 0)
  objects_are : objects ≡ drop 1 (get_or filled 0 [])
  agents_are : agents ≡ map first_field (drop 1 filled)
  entries_are : AreShares entries (flat_map (shares_of (length (drop 1 (get_or filled 0 [])))) (drop 1 filled))

to-filled : (rows : List Row) (s : State) → IsMatrixAfter rows s → IsFilled (filled_rows rows) s.header s.objects s.agents s.entries.items
unfolding all_shares
to-filled rows s a = record { header_is = a.header; objects_are = a.objects; agents_are = a.agents; entries_are = a.entries }

from-filled : (rows : List Row) (s : State) → IsFilled (filled_rows rows) s.header s.objects s.agents s.entries.items → IsMatrixAfter rows s
unfolding all_shares
from-filled rows s a = record { header = a.header_is; objects = a.objects_are; agents = a.agents_are; entries = a.entries_are }

filled-shares : (xs : List Row) (row : Row) (objects agents agents2 : List (List ℕ)) (entries entries2 : List Fraction) → not (length xs == 0) ≡ true → IsFilled xs true objects agents entries
    → agents2 ≡ agents ++ first_field row ∷ [] → AddsShares entries entries2 (shares_of (length objects) row) → IsFilled (xs ++ row ∷ []) true objects agents2 entries2
filled-shares [] row objects agents agents2 entries entries2 n a p h = cc n
filled-shares (x ∷ xs) row objects agents agents2 entries entries2 n a p h = record {
  header_is = header-kept (x ∷ xs) row;
  objects_are = a.objects_are;
  agents_are = p ∙ ap (λ names. names ++ first_field row ∷ []) a.agents_are ∙ sym (map-append first_field xs (row ∷ []));
  entries_are =
      (let columns = ap length a.objects_are in
      let more = h (flat_map (shares_of (length (drop 1 x))) xs) a.entries_are in
      let P : List Ratio → Type 0 = λ rs. AreShares entries2 rs in
      let one : flat_map (shares_of (length (drop 1 x))) (row ∷ []) ≡ shares_of (length objects) row = append-nil (shares_of (length (drop 1 x)) row) ∙ ap (λ n. shares_of n row) (sym columns) in
      subst P (sym (flat_map-append (shares_of (length (drop 1 x))) xs (row ∷ []) ∙ ap (λ rs. flat_map (shares_of (length (drop 1 x))) xs ++ rs) one)) more);
}

-- before any record
pub nothing-stated : (s : State) → s.header ≡ false → s.objects ≡ [] → s.agents ≡ [] → s.entries.items ≡ [] → IsMatrixAfter [] s
unfolding filled_rows all_shares
nothing-stated s h o a e = record { header = h; objects = o; agents = a; entries = rw e tt }

-- a record without fields
pub matrix-blank : (e : List Row) (row : Row) (s : State) → true ≡ (length row == 0) → IsMatrixAfter e s → (check_matrix e row ≡ None) × IsMatrixAfter (e ++ row ∷ []) s
unfolding check_matrix
matrix-blank e row s h a =
    let P : List Row → Type 0 = λ filled. IsFilled filled s.header s.objects s.agents s.entries.items in
    (rw (← h) refl, from-filled (e ++ row ∷ []) s (subst P (sym (filled_rows-blank e row h)) (to-filled e s a)))

-- the header
pub header-check : (e : List Row) (row : Row) (s : State) → false ≡ (length row == 0) → true ≡ list_all is_utf8 row → s.header ≡ false → IsMatrixAfter e s → check_header row ≡ check_matrix e row
unfolding check_matrix
header-check e row s h t n a = rw (← h, ← t, sym a.header ∙ n) refl

pub after-header-row : (e : List Row) (row : Row) (s s2 : State) → false ≡ (length row == 0) → s.header ≡ false → s2.header ≡ true → s2.objects ≡ drop 1 row → s2.agents ≡ s.agents → s2.entries ≡ s.entries
    → IsMatrixAfter e s → IsMatrixAfter (e ++ row ∷ []) s2
after-header-row e row s s2 h n p q r t a =
    let none = none-filled (filled_rows e) (sym a.header ∙ n) in
    let only : filled_rows (e ++ row ∷ []) ≡ row ∷ [] = filled_rows-more e row h ∙ ap (λ rows. rows ++ row ∷ []) none in
    let F : List Row → Type 0 = λ filled. IsFilled filled s.header s.objects s.agents s.entries.items in
    let before = subst F none (to-filled e s a) in
    let P : List Row → Type 0 = λ filled. IsFilled filled s2.header s2.objects s2.agents s2.entries.items in
    let E : List Fraction → Type 0 = λ entries. AreShares entries [] in
    from-filled (e ++ row ∷ []) s2 (subst P (sym only) (record {
      header_is = p;
      objects_are = q;
      agents_are = r ∙ before.agents_are;
      entries_are = subst E (ap (λ v. v.items) (sym t)) before.entries_are;
    }))

-- the record of an agent
pub shares-check : (e : List Row) (row : Row) (s : State) → false ≡ (length row == 0) → true ≡ list_all is_utf8 row → s.header ≡ true → IsMatrixAfter e s → check_shares s.objects s.agents row ≡ check_matrix e row
unfolding check_matrix
shares-check e row s h t n a = rw (← h, ← t, sym a.header ∙ n, a.objects, a.agents) refl

pub after-shares : (e : List Row) (row : Row) (s s2 : State) → false ≡ (length row == 0) → s.header ≡ true → s2.header ≡ s.header → s2.objects ≡ s.objects → s2.agents ≡ s.agents ++ first_field row ∷ []
    → AddsShares s.entries.items s2.entries.items (shares_of (length s.objects) row) → IsMatrixAfter e s → IsMatrixAfter (e ++ row ∷ []) s2
after-shares e row s s2 h n p q r t a =
    let H : Bool → Type 0 = λ header. IsFilled (filled_rows e) header s.objects s.agents s.entries.items in
    let before = subst H n (to-filled e s a) in
    let after = filled-shares (filled_rows e) row s.objects s.agents s2.agents s.entries.items s2.entries.items (sym a.header ∙ n) before r t in
    let P : List Row → Type 0 = λ filled. IsFilled filled s2.header s2.objects s2.agents s2.entries.items in
    let Q : Bool → Type 0 = λ header. IsFilled (filled_rows e ++ row ∷ []) header s2.objects s2.agents s2.entries.items in
    let R : List (List ℕ) → Type 0 = λ objects. IsFilled (filled_rows e ++ row ∷ []) true objects s2.agents s2.entries.items in
    from-filled (e ++ row ∷ []) s2 (subst P (sym (filled_rows-more e row h)) (subst Q (sym (p ∙ n)) (subst R (sym q) after)))

-- ---- one entry for each cell

length-all : (columns : ℕ) (rows : List Row) → length (flat_map (shares_of columns) rows) ≡ length rows * columns
length-all columns [] = omega arith
length-all columns (r ∷ rows) =
    let wide : suc (length rows) * columns ≡ columns + length rows * columns = grind arith in
    omega (arith, length-append (shares_of columns r) (flat_map (shares_of columns) rows), length-shares columns r, length-all columns rows, wide)

pub length-entries : (rows : List Row) (s : State) → IsMatrixAfter rows s → length s.entries.items ≡ length s.agents * length s.objects
unfolding all_shares
length-entries rows s a =
    let zip = length_all_zip IsSameShare (ratios_of s.entries.items) (all_shares rows) a.entries in
    let many = length-all (length (objects_of rows)) (agent_rows rows) in
    let agents : length s.agents ≡ length (agent_rows rows) = ap length a.agents ∙ length-map (agent_rows rows) first_field in
    rw (agents, a.objects) (sym (length-map s.entries.items ratio_of) ∙ zip ∙ many)
