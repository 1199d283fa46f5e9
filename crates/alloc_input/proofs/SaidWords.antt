-- The kind of a record of quotas and its first field.
use Rattle.std.proofs.Common.{◌≡◌, ◌∙◌, ◌++◌, ◌∷◌, [], ℕ, List, Option, Some, None, Bool, false, cond, refl, sym, ap, inl, inr}
use Rattle.std.specs.Prelude.{codes}
use Rattle.std.specs.Str.{bytes_eq}
use Rattle.std.proofs.lemmas.Bool.{cases_Bool, false_from_ne_true}
use Rattle.std.proofs.lemmas.Option.{none-some}
use Rattle.std.proofs.lemmas.List.Elements.{filter-append}
use Rattle.std.proofs.lemmas.Slice.Eq.{bytes_eq-Decides}
use Rattle.definitions.specs.Texts.{Row, field, first_field}
use Rattle.table_text.specs.Records.{begins_with, records_of}
use Rattle.alloc_input.specs.Stated.{word_of}
use Rattle.alloc_input.specs.declared.quotas.words.Word.{Word}
use Rattle.alloc_input.specs.declared.quotas.words.Word.TheVariants as word

-- the first field of the records of a kind
abbrev pub name_of : Word → List ℕ
name_of word.Object = codes "object"
name_of word.Agent = codes "agent"
name_of word.Group = codes "group"
name_of word.Bundle = codes "bundle"
name_of word.Set = codes "set"
name_of word.In = codes "in"

word_of-name : (w : Word) → word_of (name_of w) ≡ Some w
unfolding word_of
word_of-name word.Object = refl
word_of-name word.Agent = refl
word_of-name word.Group = refl
word_of-name word.Bundle = refl
word_of-name word.Set = refl
word_of-name word.In = refl

one-of : (f : List ℕ) (k : Word) (rest : Option Word) (w : Word) → cond (bytes_eq f (name_of k)) (Some k) rest ≡ Some w → (rest ≡ Some w → f ≡ name_of w) → f ≡ name_of w
one-of f k rest w e next = elim (cases_Bool (bytes_eq f (name_of k))) [
  | inl is ↦ let same : k ≡ w = cc (rw is at e) in (bytes_eq-Decides f (name_of k)).0 is ∙ ap name_of same
  | inr isnt ↦ next (rw isnt at e)
]

-- a record of a kind begins with its word
word-named : (f : List ℕ) (w : Word) → word_of f ≡ Some w → f ≡ name_of w
unfolding word_of
word-named f w e =
    one-of f word.Object _ w e (λ e1.
    one-of f word.Agent _ w e1 (λ e2.
    one-of f word.Group _ w e2 (λ e3.
    one-of f word.Bundle _ w e3 (λ e4.
    one-of f word.Set _ w e4 (λ e5.
    one-of f word.In _ w e5 (λ e6. absurd (none-some w e6)))))))

-- whether this is that kind
abbrev pub is_kind : Word → Option Word → Bool
is_kind w None = false
is_kind w (Some v) = bytes_eq (name_of v) (name_of w)

kind-test-at : (w : Word) (f : List ℕ) (o : Option Word) → word_of f ≡ o → bytes_eq f (name_of w) ≡ is_kind w o
kind-test-at w f None e =
    false_from_ne_true (bytes_eq f (name_of w)) (λ t. none-some w (sym e ∙ ap word_of ((bytes_eq-Decides f (name_of w)).0 t) ∙ word_of-name w))
kind-test-at w f (Some v) e = ap (λ (g : List ℕ). bytes_eq g (name_of w)) (word-named f v e)

-- the first field tells the kind
pub kind-test : (w : Word) (f : List ℕ) → bytes_eq f (name_of w) ≡ is_kind w (word_of f)
kind-test w f = kind-test-at w f (word_of f) refl

-- the records of a kind, with one more record
pub records-push : (w : Word) (rows : List Row) (r : Row) → records_of (name_of w) (rows ++ r ∷ []) ≡ records_of (name_of w) rows ++ cond (is_kind w (word_of (field r 0))) (r ∷ []) []
records-push w rows r = filter-append (begins_with (name_of w)) rows (r ∷ []) ∙ ap (λ (t : Bool). records_of (name_of w) rows ++ cond t (r ∷ []) []) (kind-test w (first_field r))
