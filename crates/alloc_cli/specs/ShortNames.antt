-- A name among the words, kept in place.
use Rattle.std.specs.Prelude.{◌≡◌, ◌≤◌, ℕ, List, ◌++◌, drop, length, replicate, take, true, Option, None, Some, if◌then◌else◌}
use Rattle.definitions.specs.Texts.{is_name}
use Rattle.alloc_cli.specs.declared.short_name.ShortName.{ShortName}

-- the name that it keeps
abbrev pub name_text : ShortName → List ℕ
name_text name = take name.length name.bytes

-- it keeps a lawful name
abbrev pub IsShortName : ShortName → Type 0
IsShortName name = (name.length ≤ 64) × (is_name (name_text name) ≡ true)

-- a word with zeros after it, 64 bytes in all
abbrev pub padded : List ℕ → List ℕ
padded word = word ++ drop (length word) (replicate 64 0)

-- the name that a word is
abbrev pub short_name_of : List ℕ → Option ShortName
short_name_of word =
    if is_name word then Some (record { bytes = padded word; length = length word }) else None
