-- The records of a text, and the text of some records.
use Rattle.std.specs.Prelude.{◌≡◌, ℕ, suc, List, [], ◌∷◌, ◌==◌, ◌&&◌, if◌then◌else◌, flat_map, map, take, length}
use Rattle.csv.specs.Reading.{AreRecords, default_config, strip_bom}
use Rattle.csv.specs.Writing.{default_writer, row_text}
use Rattle.csv.specs.declared.parser.State.TheVariants as st
use Rattle.definitions.specs.Texts.{Row}

-- how many fields stand before the empty ones at the end
unfoldable pub kept_count : Row → ℕ
kept_count [] = 0
kept_count (field ∷ fields) = if (kept_count fields == 0) && (length field == 0) then 0 else suc (kept_count fields)

-- a record without the empty fields at its end
abbrev pub kept_fields : Row → Row
kept_fields fields = take (kept_count fields) fields

-- these are the records of a text, in order, each without the empty fields at its end;
-- `csv` leaves off one byte order mark, and one before it is left off here
abbrev pub IsTextOf : List ℕ → List Row → Type 0
IsTextOf bytes rows = (all : List Row) × AreRecords default_config st.StartRecord (strip_bom (strip_bom bytes)) all × (rows ≡ map kept_fields all)

-- the text of some rows, as `csv` writes them with its defaults
abbrev pub rows_text : List Row → List ℕ
rows_text rows = flat_map (row_text default_writer) rows
