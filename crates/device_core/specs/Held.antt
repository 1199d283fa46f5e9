-- What files hold.
use Rattle.std.specs.Prelude.{ℕ, List, [], ◌∷◌, if◌then◌else◌, Option, None, Some, unwrap_or}
use Rattle.std.specs.Str.{bytes_eq}

-- the bytes of the first file of that name
abbrev pub file_at : List (List ℕ × List ℕ) → List ℕ → Option (List ℕ)
file_at [] name = None
file_at (file ∷ files) name = if bytes_eq file.0 name then Some file.1 else file_at files name

-- the same, and nothing where there is no such file
abbrev pub bytes_at : List (List ℕ × List ℕ) → List ℕ → List ℕ
bytes_at files name = unwrap_or (file_at files name) []
