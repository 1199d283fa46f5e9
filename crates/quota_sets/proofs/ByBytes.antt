-- A look-up by the bytes of texts is a look-up among the texts.
use Rattle.std.proofs.Common.{◌≡◌, ◌||◌, List, [], ◌∷◌, ℕ, Bool, map, refl, ap, String, Global}
use Rattle.std.specs.Prelude.{string_bytes, not, position}
use Rattle.std.specs.List.{list_any, prefix_len}
use Rattle.std.specs.Str.{bytes_eq}
use Rattle.std.proofs.lemmas.List.{length-map}
use Rattle.definitions.specs.Texts.{has_name, name_index}

list_any-map : {X Y : Type 0} (f : X → Y) (p : Y → Bool) (xs : List X) → list_any p (map f xs) ≡ list_any (λ x. p (f x)) xs
list_any-map f p [] = refl
list_any-map f p (x ∷ xs) = ap (λ b. p (f x) || b) (list_any-map f p xs)

prefix_len-map : {X Y : Type 0} (f : X → Y) (p : Y → Bool) (xs : List X) → prefix_len p (map f xs) ≡ prefix_len (λ x. p (f x)) xs
prefix_len-map f p [] = refl
prefix_len-map f p (x ∷ xs) = rw (prefix_len-map f p xs) refl

pub has_name-map : (texts : List (String Global)) (name : List ℕ) → has_name (map string_bytes texts) name ≡ list_any (λ text. bytes_eq name (string_bytes text)) texts
has_name-map texts name = list_any-map string_bytes (bytes_eq name) texts

pub name_index-map : (texts : List (String Global)) (name : List ℕ) → name_index (map string_bytes texts) name ≡ position (λ text. bytes_eq name (string_bytes text)) texts
name_index-map texts name = rw (prefix_len-map string_bytes (λ y. not (bytes_eq name y)) texts, length-map texts string_bytes) refl
