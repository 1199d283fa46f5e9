-- What the records of preferences say, in the words of the records alone.
use Rattle.std.specs.Prelude.{◌==◌, ◌∷◌, ◌++◌, ℕ, not, List, [], length, map, filter, drop, if◌then◌else◌}
use Rattle.definitions.specs.Texts.{Row, has_name, null_name}
use Rattle.table_text.specs.Records.{place_of}

-- the names on an agent's record: its fields after the first that are not empty
abbrev pub names_on : Row → List (List ℕ)
names_on row = filter (λ f. not (length f == 0)) (drop 1 row)

-- the same with `none` as the last, where it is not there
abbrev pub ending_with_none : List (List ℕ) → List (List ℕ)
ending_with_none names = if has_name names null_name then names else names ++ null_name ∷ []

-- the objects, and then `none`
abbrev pub with_none : List (List ℕ) → List (List ℕ)
with_none objects = objects ++ null_name ∷ []

-- the columns of the names on an agent's record, in their order, with that of `none` at the end
abbrev pub list_on : List (List ℕ) → Row → List ℕ
list_on objects row = map (place_of (with_none objects)) (ending_with_none (names_on row))
