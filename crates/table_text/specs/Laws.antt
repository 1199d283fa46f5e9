-- What holds of every text of rows.
use Rattle.std.specs.Prelude.{◌≡◌, ℕ, List, map}
use Rattle.csv.specs.Reading.{strip_bom}
use Rattle.csv.specs.Writing.{read_back}
use Rattle.definitions.specs.Texts.{Row}
use Rattle.table_text.specs.Rows.{IsTextOf, kept_fields, rows_text}

-- a text has one list of rows
abbrev pub TextReadsOnce : Type 0
TextReadsOnce = (bytes : List ℕ) (first second : List Row) → IsTextOf bytes first → IsTextOf bytes second → first ≡ second

-- the text of some rows reads as these rows, each without the empty fields at its end, if it does not begin with a byte order mark
abbrev pub WrittenTextReadsBack : Type 0
WrittenTextReadsBack = (rows : List Row) → strip_bom (rows_text rows) ≡ rows_text rows → IsTextOf (rows_text rows) (map kept_fields (map read_back rows))
