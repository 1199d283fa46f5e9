-- Every text has a list of records.
use Rattle.std.proofs.Common.{◌≡◌, ◌+◌, ◌-◌, ◌<◌, ◌≤◌, ◌++◌, ◌==◌, ◌∷◌, [], ℕ, zero, suc, List, Option, Some, None, Bool, true, false, refl, subst, length, map, arith, inl, inr}
use Rattle.std.specs.Prelude.{cond}
use Rattle.std.proofs.lemmas.Bool.{cases_Bool}
use Rattle.csv.specs.Machine.{Read, after_end, ends_at_end, ends_with, field_after, fields_after, in_field, is_end, next_record, start_field, start_record, step}
use Rattle.csv.specs.Reading.{AreRecords, Reached, default_config, records_from, records_next, strip_bom}
use Rattle.csv.specs.declared.parser.Action.{Action}
use Rattle.csv.specs.declared.parser.Action.TheVariants as act
use Rattle.csv.specs.declared.parser.State.{State}
use Rattle.csv.specs.declared.parser.State.TheVariants as st
use Rattle.definitions.specs.Texts.{Row}
use Rattle.table_text.specs.Rows.{IsTextOf, kept_fields}

-- where a byte ends a record, the end of the text after it ends none
abbrev EndsWell : State × Action → Type 0
EndsWell q = is_end q.1 ≡ true → ends_at_end q.0 ≡ false

well-if : (b : Bool) (p q : State × Action) → EndsWell p → EndsWell q → EndsWell (cond b p q)
well-if true p q h k = h
well-if false p q h k = k

skips : (s : State) → EndsWell (s, act.Skip)
skips s e = absurd (cc e)

copies : (s : State) → EndsWell (s, act.Copy)
copies s e = absurd (cc e)

well-end : (c : ℕ) → EndsWell (after_end default_config.terminator c, act.EndRecord)
well-end c e = elim (cases_Bool (c == 13)) [
  | inl cr ↦ rw cr refl
  | inr other ↦ rw other refl
]

well-field : (c : ℕ) → EndsWell (in_field default_config c)
well-field c = well-if (c == 44) (st.StartField, act.EndField) _ (λ e. absurd (cc e)) (well-if (ends_with default_config.terminator c) (after_end default_config.terminator c, act.EndRecord) (st.InField, act.Copy) (well-end c) (copies st.InField))

well-start : (c : ℕ) → EndsWell (start_field default_config c)
well-start c = well-if (c == 34) (st.InQuoted, act.Skip) (in_field default_config c) (skips st.InQuoted) (well-field c)

well-record : (c : ℕ) → EndsWell (start_record default_config c)
well-record c = well-if (ends_with default_config.terminator c) (st.StartRecord, act.Skip) (start_field default_config c) (skips st.StartRecord) (well-start c)

well-step : (s : State) (c : ℕ) → EndsWell (step default_config s c)
well-step st.StartRecord c = well-record c
well-step st.StartField c = well-start c
well-step st.InField c = well-field c
well-step st.InQuoted c = well-if (c == 34) (st.AfterQuote, act.Skip) (st.InQuoted, act.Copy) (skips st.AfterQuote) (copies st.InQuoted)
well-step st.InEscape c = copies st.InQuoted
well-step st.AfterQuote c = well-if (c == 34) (st.InQuoted, act.Copy) (in_field default_config c) (copies st.InQuoted) (well-field c)
well-step st.InComment c = well-if (c == 10) (st.StartRecord, act.Skip) (st.InComment, act.Skip) (skips st.StartRecord) (skips st.InComment)
well-step st.AfterCr c = well-if (c == 10) (st.StartRecord, act.Skip) (start_record default_config c) (skips st.StartRecord) (well-record c)

-- a read takes a byte at least, unless none is left
abbrev IsShorter : List ℕ → Read → Type 0
IsShorter xs p = (length p.2 ≤ length xs - 1) × (ends_at_end p.1 ≡ false)

pub read-shorter : (s : State) (fields : Row) (field xs : List ℕ) (p : Read) → next_record default_config s fields field xs ≡ Some p → IsShorter xs p
unfolding next_record
read-shorter s fields field [] p e = elim (cases_Bool (ends_at_end s)) [
  | inl ends ↦
      let same : (fields ++ (field ∷ []), st.StartRecord, []) ≡ p = cc (rw ends at e) in
      subst (IsShorter []) same (omega arith, refl)
  | inr goes ↦ absurd (cc (rw goes at e))
]
read-shorter s fields field (c ∷ rest) p e = elim (cases_Bool (is_end (step default_config s c).1)) [
  | inl ends ↦
      let same : (fields_after (step default_config s c).1 fields field, (step default_config s c).0, rest) ≡ p = cc (rw ends at e) in
      subst (IsShorter (c ∷ rest)) same (omega arith, well-step s c ends)
  | inr goes ↦
      let later = read-shorter (step default_config s c).0 (fields_after (step default_config s c).1 fields field) (field_after (step default_config s c).1 c field) rest p (rw goes at e) in
      (omega (arith, later.0), later.1)
]

-- the records of a text from a state, and how many they are at most
abbrev AreLeft : State → List ℕ → List Row → Type 0
AreLeft s xs rows = AreRecords default_config s xs rows × (length rows ≤ length xs)

pub one-more : (s : State) (xs : List ℕ) (p : Read) (rows : List Row) → next_record default_config s [] [] xs ≡ Some p → AreRecords default_config p.1 p.2 rows
    → AreRecords default_config s xs (p.0 ∷ rows)
unfolding Reached
one-more s xs p rows e h = (h.0, h.1, (p, e, refl, h.2), h.3)

pub no-more : (s : State) (xs : List ℕ) → next_record default_config s [] [] xs ≡ None → AreRecords default_config s xs []
unfolding Reached
no-more s xs e = (s, xs, (refl, refl), e)

-- what the next read gives, and the records after it
from-next : (n : ℕ) (s : State) (c : ℕ) (rest : List ℕ) (o : Option Read) → next_record default_config s [] [] (c ∷ rest) ≡ o
    → ((p : Read) → next_record default_config s [] [] (c ∷ rest) ≡ Some p → AreLeft p.1 p.2 (records_from default_config n p.1 p.2))
    → AreLeft s (c ∷ rest) (records_next (records_from default_config n) o)
from-next n s c rest None e more = (no-more s (c ∷ rest) e, omega arith)
from-next n s c rest (Some p) e more =
    let later = more p e in
    let shorter = read-shorter s [] [] (c ∷ rest) p e in
    (one-more s (c ∷ rest) p (records_from default_config n p.1 p.2) e later.0, omega (arith, later.1, shorter.0))

-- from a state in which the end of the text ends no record
pub are-left : (n : ℕ) (s : State) (xs : List ℕ) → length xs < n → ends_at_end s ≡ false → AreLeft s xs (records_from default_config n s xs)
unfolding next_record records_from
are-left zero s xs l e = absurd (omega arith)
are-left (suc n) s [] l e = rw e (no-more s [] (rw e refl), omega arith)
are-left (suc n) s (c ∷ rest) l e =
    from-next n s c rest (next_record default_config s [] [] (c ∷ rest)) refl (λ p read.
    let shorter = read-shorter s [] [] (c ∷ rest) p read in
    are-left n p.1 p.2 (omega (arith, shorter.0, l)) shorter.1)

-- every text has a list of rows
pub IsTextOf-some : (bytes : List ℕ) → (rows : List Row) × IsTextOf bytes rows
IsTextOf-some bytes =
    let text = strip_bom (strip_bom bytes) in
    let all = records_from default_config (length text + 1) st.StartRecord text in
    (map kept_fields all, (all, (are-left (length text + 1) st.StartRecord text (omega arith) refl).0, refl))
