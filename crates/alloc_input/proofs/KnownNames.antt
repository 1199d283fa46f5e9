-- Names that are found, and names that aren't, as a lookup answers.
use Rattle.std.proofs.Common.{◌≡◌, ◌∙◌, ◌++◌, ◌∷◌, [], ℕ, List, Option, Some, true, false, refl, sym, ap}
use Rattle.std.specs.Prelude.{is_some}
use Rattle.definitions.specs.Texts.{has_name, name_index}
use Rattle.table_text.proofs.KnownNames.{is_some-name_index, name-absent}
use Rattle.alloc_input.specs.Objects.{with_name}

-- a name without a place isn't among the names
pub absent-name : (names : List (List ℕ)) (name : List ℕ) (place : Option ℕ) → place ≡ name_index names name → false ≡ is_some place → has_name names name ≡ false
absent-name names name place f t = name-absent names name (ap is_some (sym f) ∙ sym t)

pub known-name : (names : List (List ℕ)) (name : List ℕ) (o : Option (List ℕ)) (place : Option ℕ) → Some name ≡ o → place ≡ name_index names name → true ≡ is_some place
    → names ≡ with_name names o
known-name names name o place e f t =
    let has : has_name names name ≡ true = sym (is_some-name_index names name) ∙ ap is_some (sym f) ∙ sym t in
    rw (← e, has) refl

pub new-name : (names : List (List ℕ)) (name : List ℕ) (o : Option (List ℕ)) (place : Option ℕ) → Some name ≡ o → place ≡ name_index names name → false ≡ is_some place
    → names ++ name ∷ [] ≡ with_name names o
new-name names name o place e f t =
    let has : has_name names name ≡ false = absent-name names name place f t in
    rw (← e, has) refl
