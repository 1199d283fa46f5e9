-- One more name after names that stand there once each.
use Rattle.std.proofs.Common.{◌≡◌, ◌∙◌, ◌||◌, ◌++◌, ◌∷◌, [], ℕ, List, Option, Some, None, Bool, true, false, refl, sym, ap, subst, inl, inr}
use Rattle.std.specs.Prelude.{not, filter, if◌then◌else◌}
use Rattle.std.specs.List.{filter_map}
use Rattle.std.specs.Str.{bytes_eq}
use Rattle.std.proofs.lemmas.Bool.{cases_Bool}
use Rattle.std.proofs.lemmas.List.{append-nil}
use Rattle.std.proofs.lemmas.List.Elements.{filter-append, filter_map-append}
use Rattle.definitions.specs.Texts.{Row, has_name}
use Rattle.definitions.proofs.Members.{name_test}
use Rattle.alloc_input.specs.Objects.{each_once, declared, declared_name, with_name}

module _ (x y : List ℕ) (apart : bytes_eq x y ≡ false) where
  -- leaving out another name
  has-filter : (names : List (List ℕ)) → has_name (filter (λ z. not (bytes_eq y z)) names) x ≡ has_name names x
  has-filter [] = refl
  has-filter (z ∷ names) = elim (cases_Bool (bytes_eq y z)) [
    | inl same ↦
        let other : bytes_eq x z ≡ false = subst (λ w. bytes_eq x w ≡ false) (name_test.sound y z same) apart in
        rw (same, other) (has-filter names)
    | inr other ↦ rw other (ap (λ b. bytes_eq x z || b) (has-filter names))
  ]

-- the same names
pub has-each_once : (names : List (List ℕ)) (x : List ℕ) → has_name (each_once names) x ≡ has_name names x
has-each_once [] x = refl
has-each_once (y ∷ names) x = elim (cases_Bool (bytes_eq x y)) [
  | inl same ↦ rw same refl
  | inr other ↦ rw other (has-filter x y other (each_once names) ∙ has-each_once names x)
]

push-step : (y x : List ℕ) (names : List (List ℕ)) (b : Bool) → has_name names x ≡ b
    → each_once (names ++ x ∷ []) ≡ (if b then each_once names else each_once names ++ x ∷ [])
    → each_once ((y ∷ names) ++ x ∷ []) ≡ (if bytes_eq x y || b then each_once (y ∷ names) else each_once (y ∷ names) ++ x ∷ [])
push-step y x names true e h = elim (cases_Bool (bytes_eq x y)) [
  | inl same ↦ rw (same, h) refl
  | inr other ↦ rw (other, h) refl
]
push-step y x names false e h = elim (cases_Bool (bytes_eq x y)) [
  | inl same ↦ rw (h, filter-append (λ z. not (bytes_eq y z)) (each_once names) (x ∷ []), name_test.turned y x, same) (ap (λ zs. y ∷ zs) (append-nil _))
  | inr other ↦ rw (h, filter-append (λ z. not (bytes_eq y z)) (each_once names) (x ∷ []), name_test.turned y x, other) refl
]

-- one more name
pub each_once-push : (names : List (List ℕ)) (x : List ℕ) → each_once (names ++ x ∷ []) ≡ (if has_name names x then each_once names else each_once names ++ x ∷ [])
each_once-push [] x = refl
each_once-push (y ∷ names) x = push-step y x names (has_name names x) refl (each_once-push names x)

with-step : (names : List (List ℕ)) (o : Option (List ℕ)) (row : Row) (rows : List Row) → declared_name row ≡ o → names ≡ filter_map declared_name rows
    → with_name (each_once names) o ≡ each_once (filter_map declared_name (rows ++ row ∷ []))
with-step names None row rows e h = rw (filter_map-append declared_name rows (row ∷ []), e, ← h) (ap each_once (sym (append-nil names)))
with-step names (Some x) row rows e h =
    rw (filter_map-append declared_name rows (row ∷ []), e, ← h, has-each_once names x) (sym (each_once-push names x))

-- one more record
pub declared-push : (rows : List Row) (row : Row) → with_name (declared rows) (declared_name row) ≡ declared (rows ++ row ∷ [])
unfolding declared
declared-push rows row = with-step (filter_map declared_name rows) (declared_name row) row rows refl refl
