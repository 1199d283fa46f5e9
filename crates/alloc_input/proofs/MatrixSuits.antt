-- What a lawful matrix may be read and decomposed with.
use Rattle.std.proofs.Common.{◌≡◌, ◌∙◌, ◌||◌, ◌∷◌, [], ℕ, List, Bool, true, false, refl, sym, ap, inl, inr}
use Rattle.std.proofs.Math.Bool.{or-false}
use Rattle.std.specs.Str.{bytes_eq}
use Rattle.std.proofs.lemmas.Bool.{both_ways, cases_Bool}
use Rattle.definitions.specs.Lotteries.{ends_with_none}
use Rattle.definitions.specs.Texts.{has_name, null_name}
use Rattle.definitions.specs.Values.{SharesValue}
use Rattle.definitions.proofs.Members.{name_test}
use Rattle.alloc_input.specs.Matrices.{IsMatrix}
use Rattle.alloc_input.specs.Quotas.{IsReadFor}
use Rattle.alloc_input.specs.declared.mode.Mode.TheVariants as mode

-- a name other than `none`, from either side
pub other-name : (name : List ℕ) → bytes_eq name null_name ≡ false → bytes_eq null_name name ≡ false
other-name name e = elim (cases_Bool (bytes_eq null_name name)) [
  | inl same ↦ absurd (both_ways (bytes_eq name null_name) e (ap (λ x. bytes_eq name x) (name_test.sound null_name name same) ∙ name_test.self name))
  | inr other ↦ other
]

later : (a b : Bool) → (a || b) ≡ false → b ≡ false
later true b e = cc e
later false b e = e

-- where `none` is no name, it isn't the last
last-apart : (names : List (List ℕ)) → has_name names null_name ≡ false → ends_with_none names ≡ false
last-apart [] e = refl
last-apart (name ∷ []) e = elim (cases_Bool (bytes_eq name null_name)) [
  | inl same ↦ absurd (both_ways (bytes_eq null_name name) (sym (or-false (bytes_eq null_name name)) ∙ e) (ap (λ x. bytes_eq null_name x) (name_test.sound name null_name same) ∙ name_test.self null_name))
  | inr other ↦ other
]
last-apart (name ∷ next ∷ names) e = last-apart (next ∷ names) (later (bytes_eq null_name name) (has_name (next ∷ names) null_name) e)

-- quotas may be read for `decompose` over the agents and objects of a lawful matrix
pub matrix-suits : (m : SharesValue) (bytes : List ℕ) → IsMatrix m → IsReadFor mode.Decompose bytes m.agents m.objects
matrix-suits m bytes h = record { some = h.agents_some; many = h.agents_limit; apart = h.objects_apart; due = h.objects_limit }

-- the objects of a lawful matrix do not end with `none`
pub matrix-unpriced : (m : SharesValue) → IsMatrix m → ends_with_none m.objects ≡ false
matrix-unpriced m h = last-apart m.objects h.objects_apart
