-- What the records of a matrix say, in the words of the records alone.
use Rattle.std.specs.Prelude.{◌≡◌, ◌+◌, ◌*◌, ℕ, List, [], Some, length, slice_get, slice_index_or}
use Rattle.scaled_matrix.specs.Entries.{IsShare}
use Rattle.definitions.specs.Texts.{Row, field, share_of}
use Rattle.definitions.specs.Values.{Ratio, SharesValue}
use Rattle.alloc_input.specs.Matrices.{IsSameShare}
use Rattle.alloc_input.specs.Prefs.{agent_rows}

-- the record of agent i
abbrev pub row_at : List Row → ℕ → Row
row_at rows i = slice_index_or (agent_rows rows) i []

-- its field for object a, after that of the agent's name; nothing where it has none
abbrev pub text_at : List Row → ℕ → ℕ → List ℕ
text_at rows i a = field (row_at rows i) (a + 1)

-- agent i has the share x in object a
abbrev pub HasEntry : SharesValue → ℕ → ℕ → Ratio → Type 0
HasEntry m i a x = slice_get m.entries (i * length m.objects + a) ≡ Some x

-- the share of agent i in object a is what the record says, in lowest terms
abbrev pub IsEntrySaid : List Row → SharesValue → ℕ → ℕ → Type 0
IsEntrySaid rows m i a = (x : Ratio) × (s : Ratio) × HasEntry m i a x × (share_of (text_at rows i a) ≡ Some s) × IsSameShare x s × IsShare x
