-- Where names stand in longer lists of names.
use Rattle.std.proofs.Common.{◌≡◌, ◌<◌, ◌++◌, ◌∷◌, [], ℕ, List, Some, false, refl, ap, length, get_or, length-append, arith, inl, inr}
use Rattle.std.specs.Cmp.{IsEquivalence}
use Rattle.std.specs.List.{IsDistinct}
use Rattle.std.specs.Str.{bytes_eq}
use Rattle.std.proofs.Math.Seq.{get_or-append_seam}
use Rattle.std.proofs.lemmas.Bool.{both_ways, cases_Bool}
use Rattle.std.proofs.lemmas.List.{get_or_append_left}
use Rattle.std.proofs.lemmas.List.Folds.{list_any_at}
use Rattle.std.proofs.lemmas.List.Quantifiers.{position-Some}
use Rattle.std.proofs.lemmas.Map.Keys.{IsDistinct-push}
use Rattle.definitions.specs.Texts.{has_name, name_index}
use Rattle.definitions.proofs.Members.{name_test}
use Rattle.table_text.proofs.KnownNames.{index-is}

-- it stays where it is when names follow
pub index-stays : (names more : List (List ℕ)) (name : List ℕ) (k : ℕ) → name_index names name ≡ Some k → name_index (names ++ more) name ≡ Some k
index-stays names more name k e =
    let (l, here, before) = position-Some (bytes_eq name) names k [] e in
    index-is (names ++ more) name k (omega (arith, l, length-append names more))
    (λ j below. rw (get_or_append_left names more [] j (omega (arith, below, l))) (before j below))
    (rw (get_or_append_left names more [] k l) here)

-- a new name stands after all others
pub index-new : (names : List (List ℕ)) (name : List ℕ) → has_name names name ≡ false → name_index (names ++ name ∷ []) name ≡ Some (length names)
index-new names name e =
    index-is (names ++ name ∷ []) name (length names) (omega (arith, length-append names (name ∷ [])))
    (λ j below. rw (get_or_append_left names (name ∷ []) [] j below) (other j below))
    (rw (get_or-append_seam names name [] []) (name_test.self name))
  where
    other : (j : ℕ) → j < length names → bytes_eq name (get_or names j []) ≡ false
    other j below = elim (cases_Bool (bytes_eq name (get_or names j []))) [
      | inl same ↦ absurd (both_ways (has_name names name) e (list_any_at (bytes_eq name) names j [] below same))
      | inr apart ↦ apart
    ]

-- ---- names that stand once each

equivalence : IsEquivalence bytes_eq
equivalence = record { refl = name_test.self; symm = name_test.turned; congr = λ x y z e. ap (λ w. bytes_eq w z) (name_test.sound x y e) }

-- one more new name
pub distinct-new : (names : List (List ℕ)) (name : List ℕ) → has_name names name ≡ false → IsDistinct bytes_eq names → IsDistinct bytes_eq (names ++ name ∷ [])
distinct-new names name e h = IsDistinct-push equivalence names name h e
