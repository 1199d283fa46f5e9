-- A text has one list of records, and the text of some records has those.
use Rattle.std.proofs.Common.{◌≡◌, ◌++◌, ◌∷◌, [], ◌∙◌, ℕ, List, Some, None, refl, sym, ap, map, ◌<◌, ◌==◌, ◌&&◌, Bool, true, false, suc, length, arith}
use Rattle.std.specs.Prelude.{All}
use Rattle.std.proofs.lemmas.Bool.{ne_eqb}
use Rattle.std.proofs.lemmas.List.{take_all}
use Rattle.std.proofs.lemmas.List.Elements.{All-head, All-tail}
use Rattle.csv.specs.Machine.{Read, next_record}
use Rattle.csv.specs.Reading.{Reached, AreRecords, default_config, strip_bom}
use Rattle.csv.specs.Writing.{default_writer, row_text, read_back}
use Rattle.csv.specs.declared.parser.Config.{Config}
use Rattle.csv.specs.declared.parser.State.{State}
use Rattle.csv.specs.declared.parser.State.TheVariants as st
use Rattle.csv.proofs.RoundTrip.{read-write}
use Rattle.std.proofs.lemmas.List.Concat.{flat_map-append}
use Rattle.table_text.specs.Rows.{IsTextOf, kept_count, kept_fields, rows_text}

-- two reads from one place agree on whether there is a record
none-some : (cfg : Config) (s s2 : State) (xs ys : List ℕ) (p : Read) → s ≡ s2 → xs ≡ ys → next_record cfg s2 [] [] ys ≡ None → next_record cfg s [] [] xs ≡ Some p → ⊥
none-some cfg s s2 xs ys p a b n e = cc (sym (rw (a, b) at e) ∙ n)

-- by induction on both lists
one-list : (cfg : Config) (a b : List (List (List ℕ))) (s : State) (xs : List ℕ) (s2 t2 : State) (ys zs : List ℕ)
    → Reached cfg s xs a s2 ys → next_record cfg s2 [] [] ys ≡ None → Reached cfg s xs b t2 zs → next_record cfg t2 [] [] zs ≡ None → a ≡ b
unfolding Reached
one-list cfg [] [] s xs s2 t2 ys zs ra na rb nb = refl
one-list cfg [] (q ∷ qs) s xs s2 t2 ys zs ra na rb nb = absurd (none-some cfg s s2 xs ys rb.0 ra.0 ra.1 na rb.1)
one-list cfg (r ∷ rs) [] s xs s2 t2 ys zs ra na rb nb = absurd (none-some cfg s t2 xs zs ra.0 rb.0 rb.1 nb ra.1)
one-list cfg (r ∷ rs) (q ∷ qs) s xs s2 t2 ys zs ra na rb nb =
    let same : ra.0 ≡ rb.0 = cc (sym ra.1 ∙ rb.1) in
    let rest = one-list cfg rs qs ra.0.1 ra.0.2 s2 t2 ys zs ra.3 na (rw (← same) at rb.3) nb in
    let head : r ≡ q = ra.2 ∙ ap (λ (p : Read). p.0) same ∙ sym rb.2 in
    rw (head, rest) refl

-- a text has one list of records
pub AreRecords-unique : (cfg : Config) (s : State) (xs : List ℕ) (a b : List (List (List ℕ))) → AreRecords cfg s xs a → AreRecords cfg s xs b → a ≡ b
AreRecords-unique cfg s xs a b ha hb = one-list cfg a b s xs ha.0 hb.0 ha.1 hb.1 ha.2 ha.3 hb.2 hb.3

-- the reads of a text that was written
reached-text : (rows : List (List (List ℕ))) → Reached default_config st.StartRecord (rows_text rows) (map read_back rows) st.StartRecord []
unfolding Reached
reached-text [] = (refl, refl)
reached-text (row ∷ rows) = ((read_back row, st.StartRecord, rows_text rows), read-write row (rows_text rows), refl, reached-text rows)

-- what the writer wrote has just these records
pub AreRecords-rows_text : (rows : List (List (List ℕ))) → AreRecords default_config st.StartRecord (rows_text rows) (map read_back rows)
unfolding next_record
AreRecords-rows_text rows = (st.StartRecord, [], reached-text rows, refl)

-- a text has one list of rows
pub IsTextOf-unique : (bytes : List ℕ) (first second : List (List (List ℕ))) → IsTextOf bytes first → IsTextOf bytes second → first ≡ second
IsTextOf-unique bytes first second a b =
    a.2 ∙ ap (λ (all : List (List (List ℕ))). map kept_fields all) (AreRecords-unique default_config st.StartRecord (strip_bom (strip_bom bytes)) a.0 b.0 a.1 b.1) ∙ sym b.2

-- a text without a byte order mark has the rows that it was made of
pub IsTextOf-rows_text : (rows : List (List (List ℕ))) → strip_bom (rows_text rows) ≡ rows_text rows → IsTextOf (rows_text rows) (map kept_fields (map read_back rows))
IsTextOf-rows_text rows plain = (map read_back rows, rw (plain, plain) (AreRecords-rows_text rows), refl)

-- a text without a byte order mark reads as the rows that it was made of
pub read-text : (rows v : List (List (List ℕ))) → strip_bom (rows_text rows) ≡ rows_text rows → IsTextOf (rows_text rows) v → v ≡ map kept_fields (map read_back rows)
read-text rows v plain h = IsTextOf-unique (rows_text rows) v (map kept_fields (map read_back rows)) h (IsTextOf-rows_text rows plain)

-- the text of rows, and then of more
pub rows_text-append : (rows more : List (List (List ℕ))) → rows_text (rows ++ more) ≡ rows_text rows ++ rows_text more
rows_text-append rows more = flat_map-append (row_text default_writer) rows more

-- a row of which no field is empty
abbrev pub IsFilled : List (List ℕ) → Type 0
IsFilled fields = (0 < length fields) × All (λ f. 0 < length f) fields

-- all fields are kept where none is empty
kept_count-filled : (fields : List (List ℕ)) → All (λ f. 0 < length f) fields → kept_count fields ≡ length fields
unfolding kept_count
kept_count-filled [] h = refl
kept_count-filled (f ∷ fs) h =
    let some = All-head (λ (g : List ℕ). 0 < length g) f fs h in
    let rest = kept_count-filled fs (All-tail (λ (g : List ℕ). 0 < length g) f fs h) in
    rw (ne_eqb (length f) 0 (λ z. omega (arith, z)), and-false (kept_count fs == 0)) (ap suc rest)
  where
    and-false : (b : Bool) → (b && false) ≡ false
    and-false true = refl
    and-false false = refl

-- a row without empty fields is read as it was written
pub read_back-filled : (fields : List (List ℕ)) → IsFilled fields → kept_fields (read_back fields) ≡ fields
read_back-filled [] h = absurd (omega (arith, h.0))
read_back-filled (f ∷ fs) h = rw (kept_count-filled (f ∷ fs) h.1) (take_all (length (f ∷ fs)) (f ∷ fs) (omega arith))

-- and so are many
pub read_back-all_filled : (rows : List (List (List ℕ))) → All IsFilled rows → map kept_fields (map read_back rows) ≡ rows
read_back-all_filled [] h = refl
read_back-all_filled (row ∷ rows) h =
    rw (read_back-filled row (All-head IsFilled row rows h), read_back-all_filled rows (All-tail IsFilled row rows h)) refl
