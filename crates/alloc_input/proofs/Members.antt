-- One more field of a group or bundle.
use Rattle.std.proofs.Common.{◌≡◌, ◌∙◌, ◌+◌, ◌<◌, ◌≤◌, ◌++◌, ◌∷◌, [], ℕ, List, Option, Some, None, length, refl, sym, map, drop, take, get_or, add-one, drop-cons}
use Rattle.std.specs.List.{filter_map}
use Rattle.std.proofs.lemmas.List.{take_more, drop_all}
use Rattle.std.proofs.lemmas.List.Elements.{filter_map-append}
use Rattle.alloc_input.specs.Checks.{first_of}
use Rattle.alloc_input.specs.declared.faults.InputKind.{InputKind}

module _ (f : List ℕ → Option InputKind) (fs : List (List ℕ)) (j : ℕ) where
  pub field_here : (k : InputKind) → j < length fs → f (get_or fs j []) ≡ Some k → first_of (map f (drop j fs)) ≡ Some k
  field_here k l e = rw (drop-cons fs j [], e) refl

  pub field_next : j < length fs → f (get_or fs j []) ≡ None → first_of (map f (drop j fs)) ≡ first_of (map f (drop (j + 1) fs))
  field_next l e = rw (drop-cons fs j [], e, add-one) refl

  pub field_end : length fs ≤ j → first_of (map f (drop j fs)) ≡ None
  field_end l = rw (drop_all j fs l) refl

pub member_more : (h : List ℕ → Option ℕ) (fs : List (List ℕ)) (j : ℕ) (xs ys : List ℕ) (x : List ℕ) → j < length fs → x ≡ get_or fs j [] → xs ≡ filter_map h (take j fs) → ys ≡ xs ++ filter_map h (x ∷ [])
    → ys ≡ filter_map h (take (j + 1) fs)
member_more h fs j xs ys x l e p q = q ∙ rw (p, e, take_more fs j [] l) (sym (filter_map-append h (take j fs) (get_or fs j [] ∷ [])))
