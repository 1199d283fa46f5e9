-- The records of a text by the word that each begins with, and the names in their fields by their places.
use Rattle.std.specs.Prelude.{ℕ, Bool, List, filter, unwrap_or}
use Rattle.std.specs.Str.{bytes_eq}
use Rattle.definitions.specs.Texts.{Row, first_field, name_index}

-- whether the record begins with this word
abbrev pub begins_with : List ℕ → Row → Bool
begins_with word r = bytes_eq (first_field r) word

-- the records that begin with this word
abbrev pub records_of : List ℕ → List Row → List Row
records_of word rows = filter (begins_with word) rows

-- where the name stands among these, and 0 where it is none of them
abbrev pub place_of : List (List ℕ) → List ℕ → ℕ
place_of names name = unwrap_or (name_index names name) 0
