-- The kind of a record and its first field.
use Rattle.std.proofs.Common.{◌≡◌, ◌∙◌, ◌++◌, ◌∷◌, [], ℕ, List, Option, Some, None, Bool, false, cond, refl, sym, ap, inl, inr}
use Rattle.std.specs.Prelude.{codes}
use Rattle.std.specs.Str.{bytes_eq}
use Rattle.std.proofs.lemmas.Bool.{cases_Bool, false_from_ne_true}
use Rattle.std.proofs.lemmas.Option.{none-some}
use Rattle.std.proofs.lemmas.List.Elements.{filter-append}
use Rattle.std.proofs.lemmas.Slice.Eq.{bytes_eq-Decides}
use Rattle.definitions.specs.Texts.{Row, first_field}
use Rattle.lottery_file.specs.Said.{word_of}
use Rattle.table_text.specs.Records.{begins_with, records_of}
use Rattle.lottery_file.specs.declared.words.Word.{Word}
use Rattle.lottery_file.specs.declared.words.Word.TheVariants as word

-- the first field of the records of a kind
abbrev pub name_of : Word → List ℕ
name_of word.Lottery = codes "lottery"
name_of word.Denominator = codes "denominator"
name_of word.Agents = codes "agents"
name_of word.Objects = codes "objects"
name_of word.Row = codes "row"
name_of word.Price = codes "price"
name_of word.Worth = codes "worth"
name_of word.Piece = codes "piece"
name_of word.Give = codes "give"
name_of word.End = codes "end"

pub word_of-name : (w : Word) → word_of (name_of w) ≡ Some w
unfolding word_of
word_of-name word.Lottery = refl
word_of-name word.Denominator = refl
word_of-name word.Agents = refl
word_of-name word.Objects = refl
word_of-name word.Row = refl
word_of-name word.Price = refl
word_of-name word.Worth = refl
word_of-name word.Piece = refl
word_of-name word.Give = refl
word_of-name word.End = refl

one-of : (f : List ℕ) (k : Word) (rest : Option Word) (w : Word) → cond (bytes_eq f (name_of k)) (Some k) rest ≡ Some w → (rest ≡ Some w → f ≡ name_of w) → f ≡ name_of w
one-of f k rest w e next = elim (cases_Bool (bytes_eq f (name_of k))) [
  | inl is ↦ let same : k ≡ w = cc (rw is at e) in (bytes_eq-Decides f (name_of k)).0 is ∙ ap name_of same
  | inr isnt ↦ next (rw isnt at e)
]

-- a record of a kind begins with its word
pub word-named : (f : List ℕ) (w : Word) → word_of f ≡ Some w → f ≡ name_of w
unfolding word_of
word-named f w e =
    one-of f word.Lottery _ w e (λ e1.
    one-of f word.Denominator _ w e1 (λ e2.
    one-of f word.Agents _ w e2 (λ e3.
    one-of f word.Objects _ w e3 (λ e4.
    one-of f word.Row _ w e4 (λ e5.
    one-of f word.Price _ w e5 (λ e6.
    one-of f word.Worth _ w e6 (λ e7.
    one-of f word.Piece _ w e7 (λ e8.
    one-of f word.Give _ w e8 (λ e9.
    one-of f word.End _ w e9 (λ e10. absurd (none-some w e10)))))))))))

-- whether this is that kind
abbrev pub is_kind : Word → Option Word → Bool
is_kind w None = false
is_kind w (Some v) = bytes_eq (name_of v) (name_of w)

kind-test-at : (w : Word) (f : List ℕ) (o : Option Word) → word_of f ≡ o → bytes_eq f (name_of w) ≡ is_kind w o
kind-test-at w f None e =
    false_from_ne_true (bytes_eq f (name_of w)) (λ t. none-some w (sym e ∙ ap word_of ((bytes_eq-Decides f (name_of w)).0 t) ∙ word_of-name w))
kind-test-at w f (Some v) e = ap (λ (g : List ℕ). bytes_eq g (name_of w)) (word-named f v e)

-- the first field tells the kind
pub kind-test : (w : Word) (f : List ℕ) → bytes_eq f (name_of w) ≡ is_kind w (word_of f)
kind-test w f = kind-test-at w f (word_of f) refl

-- the records of a kind, with one more record
pub records-push : (w : Word) (rows : List Row) (r : Row) → records_of (name_of w) (rows ++ r ∷ []) ≡ records_of (name_of w) rows ++ cond (is_kind w (word_of (first_field r))) (r ∷ []) []
records-push w rows r = filter-append (begins_with (name_of w)) rows (r ∷ []) ∙ ap (λ (t : Bool). records_of (name_of w) rows ++ cond t (r ∷ []) []) (kind-test w (first_field r))
