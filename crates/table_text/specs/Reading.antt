-- What a reader of records has left.
use Rattle.std.specs.Prelude.{◌≡◌, ◌+◌, ℕ, List, [], Option, Some, None, true, false, map, length}
use Rattle.std.specs.Borrow.{Bor}
use Rattle.csv.specs.Machine.{ends_at_end}
use Rattle.csv.specs.Reading.{Ready, default_config, records_from, source_of}
use Rattle.csv.specs.declared.parser.State.{State}
use Rattle.csv.specs.declared.reader.Reader.{Reader}
use Rattle.csv.specs.declared.reader.Trim.TheVariants as trim
use Rattle.definitions.specs.Texts.{Row}
use Rattle.table_text.specs.Rows.{kept_fields}

-- all that a text in memory has left is known
abbrev pub known : Bor (List ℕ) → Option (List ℕ)
known bytes = Some bytes.now

-- the rows of the bytes that a reader has left
unfoldable pub rows_from : State → Option (List ℕ) → List Row
rows_from s None = []
rows_from s (Some xs) = map kept_fields (records_from default_config (length xs + 1) s xs)

abbrev pub rows_left : Reader (Bor (List ℕ)) → List Row
rows_left r = rows_from r.state (source_of known r)

-- a reader that never failed reads records of any length by the defaults
pub record ReadsPlainly (r : Reader (Bor (List ℕ))) : Type 0 where
  pub trim : r.trim ≡ trim.None
  pub ready : Ready r
  pub config : r.config ≡ default_config
  pub flexible : r.flexible ≡ true
  pub state : ends_at_end r.state ≡ false
  pub bytes : List ℕ
  pub source : source_of known r ≡ Some bytes
