-- The objects that a text of quotas declares.
use Rattle.std.specs.Prelude.{ℕ, ◌&&◌, not, List, [], ◌∷◌, ◌++◌, length, Option, Some, None, filter, codes, nat_le, if◌then◌else◌}
use Rattle.std.specs.List.{filter_map}
use Rattle.std.specs.Str.{bytes_eq}
use Rattle.definitions.specs.Texts.{Row, field, is_name, null_name, has_name}

-- the name that a record declares: the second field of an `object` record of 2 to 4 fields, where it is lawful and not `none`
unfoldable pub declared_name : Row → Option (List ℕ)
declared_name row =
    if nat_le 2 (length row) && (nat_le (length row) 4 && (bytes_eq (field row 0) (codes "object") && (not (bytes_eq (field row 1) null_name) && is_name (field row 1))))
    then Some (field row 1) else None

-- these names, each once, in the order in which they first appear
abbrev pub each_once : List (List ℕ) → List (List ℕ)
each_once [] = []
each_once (name ∷ names) = name ∷ filter (λ other. not (bytes_eq name other)) (each_once names)

-- the objects that these records declare
unfoldable pub declared : List Row → List (List ℕ)
declared rows = each_once (filter_map declared_name rows)

-- these names and one that may be given, if it isn't among them
abbrev pub with_name : List (List ℕ) → Option (List ℕ) → List (List ℕ)
with_name names None = names
with_name names (Some name) = if has_name names name then names else names ++ name ∷ []
