-- What a record written by hand shows, as `csv` writes it with its defaults.
use Rattle.std.proofs.Common.{◌≡◌, ◌<◌, ◌≤◌, ◌∙◌, ◌++◌, ◌∷◌, ◌==◌, ◌+◌, [], ℕ, suc, List, Bool, true, false, refl, sym, ap, append_assoc, length, take, get_or, arith}
use Rattle.std.specs.Prelude.{if◌then◌else◌, slice_index_or}
use Rattle.std.proofs.Math.Seq.{take-take}
use Rattle.std.proofs.lemmas.Bool.{ne_eqb}
use Rattle.std.proofs.lemmas.List.{length-take}
use Rattle.csv.specs.Writing.{default_writer, escaped, field_text, is_blank, needs_quotes, next_sep, quote_mark, row_body}
use Rattle.csv.proofs.WriteFacts.{escaped-double, escaped-other, quoted-step, row-step}

-- a quote between quotes, after its twin
pub escaped_twice : (a b c : List ℕ) (x : ℕ) → x ≡ quote_mark → b ≡ a ++ quote_mark ∷ [] → c ≡ b ++ x ∷ [] → c ≡ a ++ escaped default_writer (x ∷ [])
escaped_twice a b c x e f g =
    let twice : escaped default_writer (x ∷ []) ≡ x ∷ x ∷ [] = escaped-double default_writer x e refl in
    rw twice (g ∙ ap (λ (t : List ℕ). t ++ x ∷ []) (f ∙ ap (λ (q : ℕ). a ++ q ∷ []) (sym e)) ∙ append_assoc a (x ∷ []) (x ∷ []))

-- any other byte
pub escaped_once : (a c : List ℕ) (x : ℕ) → (x ≡ quote_mark → ⊥) → c ≡ a ++ x ∷ [] → c ≡ a ++ escaped default_writer (x ∷ [])
escaped_once a c x n g = let once : escaped default_writer (x ∷ []) ≡ x ∷ [] = escaped-other default_writer x n in rw once g

never : (n : ℕ) → (suc n == 0) ≡ false
never n = ne_eqb (suc n) 0 (λ q. cc q)

-- a field that is not empty shows something
shows : (quotes : Bool) (b : ℕ) (bs q : List ℕ) → (length (if quotes then (quote_mark ∷ q) else (b ∷ bs)) == 0) ≡ (length (b ∷ bs) == 0)
shows true b bs q = never (length q) ∙ sym (never (length bs))
shows false b bs q = refl

-- a record of one field is blank where the field is empty
pub blank_one : (row : List (List ℕ)) → length row ≡ 1 → is_blank default_writer row ≡ (length (slice_index_or row 0 []) == 0)
unfolding is_blank
blank_one [] e = absurd (omega (arith, e))
blank_one ([] ∷ []) e = refl
blank_one ((b ∷ bs) ∷ []) e = shows (needs_quotes default_writer (b ∷ bs)) b bs (escaped default_writer (b ∷ bs) ++ quote_mark ∷ [])
blank_one (f ∷ g ∷ row) e = absurd (omega (arith, e))

-- and no record of more fields is
pub blank_more : (row : List (List ℕ)) → 0 < length row → (length row ≡ 1 → ⊥) → is_blank default_writer row ≡ false
unfolding is_blank
blank_more [] lt n = absurd (omega (arith, lt))
blank_more (f ∷ []) lt n = absurd (n refl)
blank_more (f ∷ g ∷ row) lt n = refl

-- what stayed in front of a text stays in front of what follows it
pub stays_more : (a b c : List ℕ) → take (length a) b ≡ a → take (length b) c ≡ b → take (length a) c ≡ a
stays_more a b c e f =
    let short : length a ≤ length b = omega (arith, ap length e, length-take (length a) b) in
    sym (take-take (length a) (length b) c short) ∙ ap (take (length a)) f ∙ e

-- one more field of a record
pub row_next : (old now new : List ℕ) (fields : List (List ℕ)) (i : ℕ) (field : List ℕ) → i < length fields → field ≡ get_or fields i []
    → now ≡ old ++ row_body default_writer (take i fields) → new ≡ now ++ (next_sep default_writer i ++ field_text default_writer field)
    → new ≡ old ++ row_body default_writer (take (i + 1) fields)
row_next old now new fields i field lt here so push =
    let more = next_sep default_writer i ++ field_text default_writer (get_or fields i []) in
    rw here at push ∙ ap (λ (t : List ℕ). t ++ more) so ∙ append_assoc old (row_body default_writer (take i fields)) more
    ∙ ap (λ (t : List ℕ). old ++ t) (sym (row-step default_writer fields i lt))

-- one more byte of a field between quotes
pub quoted_next : (old now new field : List ℕ) (i : ℕ) → i < length field
    → now ≡ old ++ (quote_mark ∷ escaped default_writer (take i field)) → new ≡ now ++ escaped default_writer (get_or field i 0 ∷ [])
    → new ≡ old ++ (quote_mark ∷ escaped default_writer (take (i + 1) field))
quoted_next old now new field i lt so push =
    let more = escaped default_writer (get_or field i 0 ∷ []) in
    push ∙ ap (λ (t : List ℕ). t ++ more) so ∙ append_assoc old (quote_mark ∷ escaped default_writer (take i field)) more
    ∙ ap (λ (t : List ℕ). old ++ t) (quoted-step default_writer quote_mark field i lt)
