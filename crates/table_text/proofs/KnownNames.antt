-- Names that are found among others, with their places, and names that aren't.
use Rattle.std.proofs.Common.{◌≡◌, ◌≢◌, ◌+◌, ◌<◌, ◌≤◌, ◌∙◌, ◌∷◌, ◌||◌, [], ℕ, suc, List, Option, Some, None, Bool, true, false, cond, refl, sym, length, get_or, arith, ltb, inl, inr}
use Rattle.std.specs.Prelude.{AllPairs, not, is_some, is_none}
use Rattle.std.specs.List.{list_any, position_or_len}
use Rattle.std.specs.Str.{bytes_eq}
use Rattle.std.proofs.lemmas.Bool.{cases_lt, both_ways, lt-ltb, le-ltb, false_from_ne_true}
use Rattle.std.proofs.lemmas.Bool.Decides.{nat_tests}
use Rattle.std.proofs.lemmas.List.Quantifiers.{position-Some}
use Rattle.std.proofs.lemmas.List.Sums.{fails_before_first, position_or_len_is}
use Rattle.std.proofs.lemmas.Slice.Eq.{bytes_eq-Decides}
use Rattle.definitions.specs.Texts.{has_name, name_index}

-- ---- whether a name is found

one-more : (b c : Bool) (n m : ℕ) → ltb n m ≡ c → ltb (cond (not b) (1 + n) 0) (suc m) ≡ (b || c)
one-more true c n m e = lt-ltb 0 (suc m) (omega arith)
one-more false c n m e = let same : ltb (1 + n) (suc m) ≡ ltb n m = grind (arith, nat_tests) in same ∙ e

any-by-place : {X : Type 0} (p : X → Bool) (xs : List X) → ltb (position_or_len p xs) (length xs) ≡ list_any p xs
any-by-place p [] = refl
any-by-place p (x ∷ xs) = one-more (p x) (list_any p xs) (position_or_len p xs) (length xs) (any-by-place p xs)

some-if : (b : Bool) (n : ℕ) → is_some (cond b (Some n) None) ≡ b
some-if true n = refl
some-if false n = refl

-- a name has a place exactly where it is among the names
pub is_some-name_index : (names : List (List ℕ)) (name : List ℕ) → is_some (name_index names name) ≡ has_name names name
is_some-name_index names name =
    some-if (ltb (position_or_len (bytes_eq name) names) (length names)) (position_or_len (bytes_eq name) names) ∙ any-by-place (bytes_eq name) names

-- nothing is there
pub none-there : (o : Option ℕ) → is_some o ≡ false → o ≡ None
none-there None e = refl
none-there (Some k) e = cc e

-- what isn't there has no place
pub none-from : (o : Option ℕ) → is_some o ≡ false → is_none o ≡ true
none-from None e = refl
none-from (Some k) e = cc

some-from : (o : Option ℕ) → is_none o ≡ true → is_some o ≡ false
some-from None e = refl
some-from (Some k) e = absurd (cc e)

-- a name without a place isn't among the names
pub name-absent : (names : List (List ℕ)) (name : List ℕ) → is_some (name_index names name) ≡ false → has_name names name ≡ false
name-absent names name e = sym (is_some-name_index names name) ∙ e

-- nor is one that passes as new
pub name-new : (names : List (List ℕ)) (name : List ℕ) → is_none (name_index names name) ≡ true → has_name names name ≡ false
name-new names name e = name-absent names name (some-from (name_index names name) e)

-- a name that isn't among the names isn't found
pub name-free : (names : List (List ℕ)) (name : List ℕ) → has_name names name ≡ false → is_none (name_index names name) ≡ true
name-free names name e = none-from (name_index names name) (is_some-name_index names name ∙ e)

-- ---- the place of a name

-- a name stands where it is and no earlier one is the same
pub index-is : (names : List (List ℕ)) (name : List ℕ) (k : ℕ) → k < length names → ((j : ℕ) → j < k → bytes_eq name (get_or names j []) ≡ false) → bytes_eq name (get_or names k []) ≡ true
    → name_index names name ≡ Some k
index-is names name k l before here =
    let place : position_or_len (bytes_eq name) names ≡ k = position_or_len_is (bytes_eq name) names k [] (omega (arith, l)) before (λ _. here) in
    rw (place, lt-ltb k (length names) l) refl

-- among names that differ each stands at its own place
pub index-at : (names : List (List ℕ)) (k : ℕ) → AllPairs (λ a b. a ≢ b) names → k < length names → name_index names (get_or names k []) ≡ Some k
index-at names k apart lt =
    let name = get_or names k [] in
    index-is names name k lt
    (λ i l. false_from_ne_true (bytes_eq name (get_or names i [])) (λ e. apart i k [] l lt (sym ((bytes_eq-Decides name (get_or names i [])).0 e))))
    ((bytes_eq-Decides name name).1 refl)

-- a name that isn't found is none of them
pub name-unknown : (names : List (List ℕ)) (name : List ℕ) → is_none (name_index names name) ≡ true → (k : ℕ) (d : List ℕ) → k < length names → get_or names k d ≢ name
name-unknown names name e k d lt same =
    let past : length names ≤ position_or_len (bytes_eq name) names = grind (arith, nat_tests) in
    both_ways (bytes_eq name (get_or names k d)) (fails_before_first (bytes_eq name) names k d (omega arith)) ((bytes_eq-Decides name (get_or names k d)).1 (sym same))

-- a name that is found stands at its place
pub name-known : (names : List (List ℕ)) (name : List ℕ) → is_some (name_index names name) ≡ true
    → (k : ℕ) × (name_index names name ≡ Some k) × (k < length names) × ((d : List ℕ) → get_or names k d ≡ name)
name-known names name e = elim (cases_lt (position_or_len (bytes_eq name) names) (length names)) [
  | inl lt ↦
      let k = position_or_len (bytes_eq name) names in
      let is : name_index names name ≡ Some k = rw (lt-ltb k (length names) lt) refl in
      (k, is, lt, λ d. sym ((bytes_eq-Decides name (get_or names k d)).0 (position-Some (bytes_eq name) names k d is).1))
  | inr ge ↦ absurd (both_ways (is_some (name_index names name)) (rw (le-ltb (position_or_len (bytes_eq name) names) (length names) ge) refl) e)
]
