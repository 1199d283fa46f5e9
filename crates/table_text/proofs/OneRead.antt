-- What one read of a reader takes from the rows that it has left.
use Rattle.std.proofs.Common.{◌≡◌, ◌+◌, ◌≤◌, ◌∷◌, [], ◌∙◌, Bor, Bool, ℕ, List, Some, true, false, cond, ap, map, length, refl, sym, arith, inl}
use Rattle.std.proofs.lemmas.List.{length-map}
use Rattle.csv.specs.Machine.{Read, ends_at_end, next_record}
use Rattle.csv.specs.Reading.{AreRecords, ReadRecord, Reached, default_config, is_bom, records_from, source_of, strip_bom}
use Rattle.csv.specs.declared.parser.State.{State}
use Rattle.csv.specs.declared.parser.State.TheVariants as st
use Rattle.csv.specs.declared.reader.Reader.{Reader}
use Rattle.csv.proofs.ReadFacts.{rows-end, rows-more}
use Rattle.definitions.specs.Texts.{Row}
use Rattle.table_text.specs.Reading.{ReadsPlainly, known, rows_from, rows_left}
use Rattle.table_text.specs.Rows.{IsTextOf, kept_fields}
use Rattle.table_text.proofs.EveryText.{are-left, no-more, one-more, read-shorter}
use Rattle.table_text.proofs.TextFacts.{AreRecords-unique}

-- the rows from a state are those of any list of its records
pub rows-are : (s : State) (xs : List ℕ) (rows : List Row) → ends_at_end s ≡ false → AreRecords default_config s xs rows → rows_from s (Some xs) ≡ map kept_fields rows
unfolding rows_from
rows-are s xs rows e h =
    ap (λ (all : List Row). map kept_fields all)
    (AreRecords-unique default_config s xs (records_from default_config (length xs + 1) s xs) rows (are-left (length xs + 1) s xs (omega arith) e).0 h)

-- the first of them, where the next read gives one
rows-next : (s : State) (xs : List ℕ) (p : Read) → ends_at_end s ≡ false → next_record default_config s [] [] xs ≡ Some p
    → rows_from s (Some xs) ≡ kept_fields p.0 ∷ rows_from p.1 (Some p.2)
unfolding rows_from
rows-next s xs p e read =
    let later = read-shorter s [] [] xs p read in
    let rest = (are-left (length p.2 + 1) p.1 p.2 (omega arith) later.1).0 in
    rows-are s xs (p.0 ∷ records_from default_config (length p.2 + 1) p.1 p.2) e (one-more s xs p (records_from default_config (length p.2 + 1) p.1 p.2) read rest)

-- a read that found a record
module _ (a b : Reader (Bor (List ℕ))) (fields : List (List ℕ)) (h : ReadsPlainly a) (r : ReadRecord known a b true fields) where
  taken : (z : List ℕ) × (source_of known b ≡ Some z) × Reached default_config a.state h.bytes (fields ∷ []) b.state z
  unfolding Reached
  taken = rows-more known a b fields default_config a.state h.bytes h.bytes [] h.config h.source (refl, refl) r

  read : (p : Read) × (next_record default_config a.state [] [] h.bytes ≡ Some p) × (fields ≡ p.0) × (p.1 ≡ b.state) × (p.2 ≡ taken.0)
  unfolding Reached
  read = (taken.2.0, taken.2.1, taken.2.2, taken.2.3.0, taken.2.3.1)

  pub reads-on : b.first ≡ true → b.flexible ≡ a.flexible → ReadsPlainly b
  reads-on first flexible = record {
    trim = r.3 ∙ h.trim;
    ready = inl first;
    config = r.2 ∙ h.config;
    flexible = flexible ∙ h.flexible;
    state = ap ends_at_end (sym read.3) ∙ (read-shorter a.state [] [] h.bytes read.0 read.1).1;
    bytes = taken.0;
    source = taken.1;
  }

  pub reads-row : rows_left a ≡ kept_fields fields ∷ rows_left b
  reads-row =
      ap (rows_from a.state) h.source ∙ rows-next a.state h.bytes read.0 h.state read.1
      ∙ ap (λ f. kept_fields f ∷ rows_from read.0.1 (Some read.0.2)) (sym read.2)
      ∙ ap (λ s. kept_fields fields ∷ rows_from s (Some read.0.2)) read.3
      ∙ ap (λ xs. kept_fields fields ∷ rows_from b.state (Some xs)) read.4
      ∙ ap (λ o. kept_fields fields ∷ rows_from b.state o) (sym taken.1)

-- a read that found none
pub reads-end : (a b : Reader (Bor (List ℕ))) (fields : List (List ℕ)) → ReadsPlainly a → ReadRecord known a b false fields → rows_left a ≡ []
reads-end a b fields h r =
    ap (rows_from a.state) h.source
    ∙ rows-are a.state h.bytes [] h.state (no-more a.state h.bytes (rows-end known a b fields default_config h.bytes h.config h.source r))

-- ---- at the start of a text

strip-shorter : (xs : List ℕ) → length (strip_bom xs) ≤ length xs
unfolding strip_bom
strip-shorter [] = omega arith
strip-shorter (a ∷ []) = omega arith
strip-shorter (a ∷ b ∷ []) = omega arith
strip-shorter (a ∷ b ∷ c ∷ rest) = pick (is_bom a b c)
  where
    pick : (t : Bool) → length (cond t rest (a ∷ b ∷ c ∷ rest)) ≤ length (a ∷ b ∷ c ∷ rest)
    pick true = omega arith
    pick false = omega arith

module _ (r : Reader (Bor (List ℕ))) (bytes : List ℕ) (start : r.state ≡ st.StartRecord) (source : source_of known r ≡ Some (strip_bom (strip_bom bytes))) where
  abbrev all : List Row
  all = records_from default_config (length (strip_bom (strip_bom bytes)) + 1) st.StartRecord (strip_bom (strip_bom bytes))

  are-all : AreRecords default_config st.StartRecord (strip_bom (strip_bom bytes)) all × (length all ≤ length (strip_bom (strip_bom bytes)))
  are-all = are-left (length (strip_bom (strip_bom bytes)) + 1) st.StartRecord (strip_bom (strip_bom bytes)) (omega arith) refl

  left-is : rows_left r ≡ map kept_fields all
  left-is = ap (rows_from r.state) source ∙ ap (λ s. rows_from s (Some (strip_bom (strip_bom bytes)))) start ∙ rows-are st.StartRecord (strip_bom (strip_bom bytes)) all refl are-all.0

  pub rows-of-text : IsTextOf bytes (rows_left r)
  rows-of-text = (all, are-all.0, left-is)

  pub rows-few : length (rows_left r) ≤ length bytes
  rows-few = omega (arith, ap length left-is, length-map all kept_fields, are-all.1, strip-shorter (strip_bom bytes), strip-shorter bytes)
