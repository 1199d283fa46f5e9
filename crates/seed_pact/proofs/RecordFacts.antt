-- One more record.
use Rattle.std.proofs.Common.{◌≡◌, ◌++◌, ◌∷◌, ◌||◌, ◌∙◌, [], ℕ, List, Option, Some, None, Bool, true, false, cond, refl, ap, length, inl, inr}
use Rattle.std.specs.Prelude.{codes}
use Rattle.std.specs.List.{list_any}
use Rattle.std.specs.Str.{bytes_eq}
use Rattle.std.proofs.lemmas.Bool.{cases_Bool}
use Rattle.std.proofs.lemmas.Slice.Eq.{bytes_eq-Decides}
use Rattle.std.proofs.lemmas.List.{append-nil, map-append}
use Rattle.std.proofs.lemmas.List.Elements.{filter-append}
use Rattle.std.proofs.lemmas.List.Folds.{list_any-append}
use Rattle.std.proofs.Math.Bool.{or-false}
use Rattle.definitions.specs.Texts.{Row, first_field}
use Rattle.table_text.specs.Records.{begins_with, records_of}
use Rattle.seed_pact.specs.Said.{Before, EntriesValue, with_entry, commits_in, entries_in, reveals_in, name_in, bytes_in, word_of, add, add_word, said_by}
use Rattle.seed_pact.specs.Checks.{check_next}
use Rattle.seed_pact.specs.Pacts.{PactValue, contributions_of, pact_of}
use Rattle.seed_pact.specs.Reading.{StopsAt, IsRefusalFor, Tells}
use Rattle.seed_pact.specs.declared.faults.PactKind.{PactKind}
use Rattle.seed_pact.specs.declared.faults.PactRefusal.{PactRefusal}
use Rattle.seed_pact.specs.declared.faults.Stop.{Stop}
use Rattle.seed_pact.specs.declared.faults.Stop.TheVariants as stop

-- a record without fields passes, and says nothing
pub blank-passes : (b : Before) (row : Row) → length row ≡ 0 → (check_next b row ≡ None) × (b ≡ add_word (word_of (first_field row)) row b)
unfolding check_next word_of add_word
blank-passes b [] e = (refl, refl)
blank-passes b (f ∷ fs) e = cc e

-- the records that begin with a word, and one more
pub records-more : (word : List ℕ) (rows : List Row) (row : Row) → records_of word (rows ++ row ∷ []) ≡ records_of word rows ++ cond (begins_with word row) (row ∷ []) []
records-more word rows row = filter-append (begins_with word) rows (row ∷ [])

pub records-same : (word : List ℕ) (rows : List Row) (row : Row) → begins_with word row ≡ false → records_of word (rows ++ row ∷ []) ≡ records_of word rows
records-same word rows row e = rw e at (records-more word rows row) ∙ append-nil (records_of word rows)

pub records-one : (word : List ℕ) (rows : List Row) (row : Row) → begins_with word row ≡ true → records_of word (rows ++ row ∷ []) ≡ records_of word rows ++ row ∷ []
records-one word rows row e = rw e at (records-more word rows row)

entries-same : (word : List ℕ) (rows : List Row) (row : Row) → begins_with word row ≡ false → entries_in (records_of word (rows ++ row ∷ [])) ≡ entries_in (records_of word rows)
entries-same word rows row e = ap entries_in (records-same word rows row e)

entries-one : (word : List ℕ) (rows : List Row) (row : Row) → begins_with word row ≡ true → entries_in (records_of word (rows ++ row ∷ [])) ≡ with_entry (name_in row) (bytes_in row) (entries_in (records_of word rows))
entries-one word rows row e =
    ap entries_in (records-one word rows row e) ∙ rw (map-append name_in (records_of word rows) (row ∷ []), map-append bytes_in (records_of word rows) (row ∷ [])) refl

-- what records say, by its parts
said-is : (rows : List Row) (h : Bool) (c r : EntriesValue) → list_any (begins_with (codes "pact")) rows ≡ h → entries_in (commits_in rows) ≡ c → entries_in (reveals_in rows) ≡ r
    → said_by rows ≡ record { has_head = h; commits = c; reveals = r }
unfolding said_by
said-is rows h c r e f g = rw (e, f, g) refl

-- a record with one of the words begins with no other
pub other-word : (f : List ℕ) (word other : List ℕ) → bytes_eq f word ≡ true → bytes_eq word other ≡ false → bytes_eq f other ≡ false
other-word f word other e h = ap (λ (x : List ℕ). bytes_eq x other) ((bytes_eq-Decides f word).0 e) ∙ h

-- whether the first record is there, after one more
head-more : (rows : List Row) (row : Row) (b : Bool) → begins_with (codes "pact") row ≡ b → list_any (begins_with (codes "pact")) (rows ++ row ∷ []) ≡ (list_any (begins_with (codes "pact")) rows || b)
head-more rows row b e = list_any-append (begins_with (codes "pact")) rows (row ∷ []) ∙ ap (λ t. list_any (begins_with (codes "pact")) rows || t) (or-false (begins_with (codes "pact") row) ∙ e)

or-true : (b : Bool) → (b || true) ≡ true
or-true true = refl
or-true false = refl

-- what one more record says
pub said-more : (rows : List Row) (row : Row) → said_by (rows ++ row ∷ []) ≡ add_word (word_of (first_field row)) row (said_by rows)
unfolding said_by word_of add add_word
said-more rows row = elim (cases_Bool (bytes_eq (first_field row) (codes "pact"))) [
  | inl is ↦
      let c = other-word (first_field row) (codes "pact") (codes "commit") is refl in
      let r = other-word (first_field row) (codes "pact") (codes "reveal") is refl in
      said-is (rows ++ row ∷ []) _ _ _ (head-more rows row true is ∙ or-true _) (entries-same (codes "commit") rows row c) (entries-same (codes "reveal") rows row r) ∙ rw is refl
  | inr isnt ↦ elim (cases_Bool (bytes_eq (first_field row) (codes "commit"))) [
    | inl is ↦
        let r = other-word (first_field row) (codes "commit") (codes "reveal") is refl in
        said-is (rows ++ row ∷ []) _ _ _ (head-more rows row false isnt ∙ or-false _) (entries-one (codes "commit") rows row is) (entries-same (codes "reveal") rows row r) ∙ rw (isnt, is) refl
    | inr not-commit ↦ elim (cases_Bool (bytes_eq (first_field row) (codes "reveal"))) [
      | inl is ↦ said-is (rows ++ row ∷ []) _ _ _ (head-more rows row false isnt ∙ or-false _) (entries-same (codes "commit") rows row not-commit) (entries-one (codes "reveal") rows row is) ∙ rw (isnt, not-commit, is) refl
      | inr not-reveal ↦ said-is (rows ++ row ∷ []) _ _ _ (head-more rows row false isnt ∙ or-false _) (entries-same (codes "commit") rows row not-commit) (entries-same (codes "reveal") rows row not-reveal) ∙ rw (isnt, not-commit, not-reveal) refl
    ]
  ]
]

-- a stop at this record is told with its number
pub refused-here : (s : Stop) (n : ℕ) (r : PactRefusal) (a : Option PactKind) (f : Option (ℕ × PactKind)) → ((k : PactKind) → a ≡ Some k → f ≡ Some (n, k)) → StopsAt s a → IsRefusalFor s n r → Tells r f
refused-here (stop.Unlawful k) n r a f g h e = rw e (g k h)
refused-here stop.NoMemory n r a f g h e = rw e tt

-- the pact of what the same records say
pub pact-is : (b said : Before) (names contributions : List (List ℕ)) → b ≡ said → names ≡ b.commits.names → contributions ≡ contributions_of b
    → Path PactValue (record { names = names; contributions = contributions }) (pact_of said)
pact-is b said names contributions e f g = rw (f, g, e) refl
