-- What is committed is revealed.
use Rattle.std.proofs.Common.{◌≡◌, ◌≢◌, ◌∙◌, ◌++◌, ◌∷◌, ◌<◌, [], ℕ, List, Option, Some, None, Bool, true, false, cond, refl, sym, ap, subst, length, map, get_or, arith, inl, inr}
use Rattle.std.specs.Prelude.{◌==◌, All, AllPairs, codes, is_some, is_none, unwrap_or}
use Rattle.std.specs.List.{AllZip, Contains}
use Rattle.std.proofs.lemmas.Bool.{cases_Bool, ne_eqb, and_parts, eqb-true}
use Rattle.std.proofs.lemmas.List.{length-map, get_or-map, map-append}
use Rattle.std.proofs.lemmas.List.Elements.{All-nil, All-head, All-tail, All-push, Contains-get_or}
use Rattle.std.proofs.lemmas.List.Sums.{AllPass-from_list_all}
use Rattle.std.proofs.lemmas.List.Quantifiers.{all_pairs_push}
use Rattle.std.proofs.lemmas.Slice.Eq.{bytes_eq-Decides}
use Rattle.definitions.specs.Texts.{Row, first_field, field}
use Rattle.definitions.proofs.Passed.{passed, fault-keeps, fault-ends}
use Rattle.table_text.specs.Records.{begins_with}
use Rattle.table_text.proofs.KnownNames.{index-at, name-known, name-unknown}
use Rattle.seed_pact.specs.Commitments.{spelled, commitment_of}
use Rattle.seed_pact.specs.Said.{Before, EntriesValue, commits_in, entries_in, entry_of, reveals_in, name_in, bytes_in, word_of, said_by}
use Rattle.seed_pact.specs.Checks.{check_next, check_kind, check_word, check_commit, check_reveal, check_record, check_end, check_whole, may_come, all_reveal, fault_of}
use Rattle.seed_pact.specs.Pacts.{PactValue, IsKept, IsKeptBy, ReadsAs}
use Rattle.seed_pact.specs.declared.faults.PactKind.{PactKind}
use Rattle.seed_pact.specs.declared.faults.PactKind.TheVariants as kind
use Rattle.seed_pact.specs.declared.words.Word.{Word}
use Rattle.seed_pact.specs.declared.words.Word.TheVariants as word
use Rattle.seed_pact.proofs.EntryFacts.{entry-at, is_some-entry, is_none-entry}
use Rattle.seed_pact.proofs.RecordFacts.{other-word, records-one, records-same}

-- a record spells its bytes
abbrev pub IsSpelled : Row → Type 0
IsSpelled r = is_some (spelled (field r 2)) ≡ true

-- no name stands in two of these records
abbrev pub AreApart : List Row → Type 0
AreApart rows = AllPairs (λ a b. a ≢ b) (map name_in rows)

-- the commitment under the name of a record is that of its name and its bytes
abbrev pub IsMatched : EntriesValue → Row → Type 0
IsMatched commits r = commitment_of (name_in r) (bytes_in r) ≡ unwrap_or (entry_of commits (name_in r)) []

-- what lawful records that commit and that reveal keep to
pub record IsSound (commits reveals : List Row) : Type 0 where
  pub commits_spelled : All IsSpelled commits
  pub reveals_spelled : All IsSpelled reveals
  pub commits_apart : AreApart commits
  pub reveals_apart : AreApart reveals
  pub matched : All (IsMatched (entries_in commits)) reveals

-- ---- a record that passes

blank-then : (t : Bool) (k : Option PactKind) → t ≡ false → cond t None k ≡ None → k ≡ None
blank-then t k n e = rw n at e

text-then : (t : Bool) (k : Option PactKind) → cond t (Some kind.NotUtf8) k ≡ None → k ≡ None
text-then true k e = absurd (cc)
text-then false k e = e

kind-passed : (b : Before) (row : Row) (w : Word) → check_kind (Some w) b row ≡ None → (may_come w b ≡ true) × (check_word w b row ≡ None)
unfolding check_kind
kind-passed b row w e = passed _ _ _ e

-- a record of this kind may come, and passes the checks of its kind
pub word-passed : (b : Before) (row : Row) (w : Word) → word_of (first_field row) ≡ Some w → check_next b row ≡ None → (may_come w b ≡ true) × (check_word w b row ≡ None)
unfolding check_next word_of
word-passed b [] w e h = absurd (cc e)
word-passed b (f ∷ fs) w e h =
    let some : (length (f ∷ fs) == 0) ≡ false = ne_eqb (length (f ∷ fs)) 0 (λ z. cc z) in
    let kind : check_kind (word_of (first_field (f ∷ fs))) b (f ∷ fs) ≡ None = text-then _ _ (blank-then _ _ some h) in
    kind-passed b (f ∷ fs) w (rw e at kind)

pub sound-nothing : IsSound [] []
sound-nothing = record {
  commits_spelled = All-nil _;
  reveals_spelled = All-nil _;
  commits_apart = λ i j d l m. absurd (omega arith);
  reveals_apart = λ i j d l m. absurd (omega arith);
  matched = All-nil _;
}

apart-push : (rows : List Row) (row : Row) → is_none (entry_of (entries_in rows) (name_in row)) ≡ true → AreApart rows → AreApart (rows ++ row ∷ [])
apart-push rows row new h =
    subst (AllPairs (λ a b. a ≢ b)) (sym (map-append name_in rows (row ∷ [])))
    (all_pairs_push (λ a b. a ≢ b) (map name_in rows) (name_in row) h (name-unknown (map name_in rows) (name_in row) (sym (is_none-entry (entries_in rows) (name_in row)) ∙ new)))

-- one more record that commits, before any that reveals
with-commit : (commits reveals : List Row) (row : Row) → length reveals ≡ 0 → is_none (entry_of (entries_in commits) (name_in row)) ≡ true → is_some (spelled (field row 2)) ≡ true
    → IsSound commits reveals → IsSound (commits ++ row ∷ []) reveals
with-commit commits reveals row none new some h = record {
  commits_spelled = All-push IsSpelled commits row h.commits_spelled some;
  reveals_spelled = h.reveals_spelled;
  commits_apart = apart-push commits row new h.commits_apart;
  reveals_apart = h.reveals_apart;
  matched = λ k d lt. absurd (omega (arith, none, lt));
}

-- one more record that reveals
with-reveal : (commits reveals : List Row) (row : Row) → is_none (entry_of (entries_in reveals) (name_in row)) ≡ true → is_some (spelled (field row 2)) ≡ true → IsMatched (entries_in commits) row
    → IsSound commits reveals → IsSound commits (reveals ++ row ∷ [])
with-reveal commits reveals row new some match h = record {
  commits_spelled = h.commits_spelled;
  reveals_spelled = All-push IsSpelled reveals row h.reveals_spelled some;
  commits_apart = h.commits_apart;
  reveals_apart = apart-push reveals row new h.reveals_apart;
  matched = All-push (IsMatched (entries_in commits)) reveals row h.matched match;
}

commit-passed : (b : Before) (row : Row) → check_commit b.commits row ≡ None → (is_none (entry_of b.commits (name_in row)) ≡ true) × (is_some (spelled (field row 2)) ≡ true)
unfolding check_commit
commit-passed b row e =
    let long = passed _ _ _ e in
    let name = passed _ _ _ long.1 in
    let new = passed _ _ _ name.1 in
    let room = passed _ _ _ new.1 in
    let hex = passed _ _ _ room.1 in
    (new.0, hex.0)

pub record IsRevealed (b : Before) (row : Row) : Type 0 where
  pub known : is_some (entry_of b.commits (name_in row)) ≡ true
  pub new : is_none (entry_of b.reveals (name_in row)) ≡ true
  pub hex : is_some (spelled (field row 2)) ≡ true
  pub match : IsMatched b.commits row

pub reveal-passed : (b : Before) (row : Row) → check_reveal b.commits b.reveals row ≡ None → IsRevealed b row
unfolding check_reveal
reveal-passed b row e =
    let long = passed _ _ _ e in
    let known = passed _ _ _ long.1 in
    let new = passed _ _ _ known.1 in
    let hex = passed _ _ _ new.1 in
    let match = passed _ _ _ hex.1 in
    record { known = known.0; new = new.0; hex = hex.0; match = (bytes_eq-Decides _ _).0 match.0 }

-- nothing is revealed before a commitment
none-revealed : (b : Before) → may_come word.Commit b ≡ true → length b.reveals.names ≡ 0
unfolding may_come
none-revealed b e = eqb-true _ _ (and_parts _ _ e).1

commit-word : (row : Row) → begins_with (codes "commit") row ≡ true → word_of (first_field row) ≡ Some word.Commit
unfolding word_of
commit-word row e = ap (λ (f : List ℕ). word_of f) ((bytes_eq-Decides (first_field row) (codes "commit")).0 e)

pub reveal-word : (row : Row) → begins_with (codes "reveal") row ≡ true → word_of (first_field row) ≡ Some word.Reveal
unfolding word_of
reveal-word row e = ap (λ (f : List ℕ). word_of f) ((bytes_eq-Decides (first_field row) (codes "reveal")).0 e)

-- what lawful records keep to
abbrev pub AreSound : List Row → Type 0
AreSound rows = IsSound (commits_in rows) (reveals_in rows)

sound-parts : (rows more commits reveals : List Row) → commits_in more ≡ commits → reveals_in more ≡ reveals → IsSound commits reveals → AreSound more
sound-parts rows more commits reveals e f h = rw (e, f) h

sound-commit : (rows : List Row) (row : Row) → begins_with (codes "commit") row ≡ true → check_record rows row ≡ None → AreSound rows → AreSound (rows ++ row ∷ [])
unfolding check_record check_word said_by
sound-commit rows row is e h =
    let p = word-passed (said_by rows) row word.Commit (commit-word row is) e in
    let q = commit-passed (said_by rows) row p.1 in
    let none : length (reveals_in rows) ≡ 0 = sym (length-map (reveals_in rows) name_in) ∙ none-revealed (said_by rows) p.0 in
    sound-parts rows (rows ++ row ∷ []) _ _ (records-one (codes "commit") rows row is) (records-same (codes "reveal") rows row (other-word (first_field row) (codes "commit") (codes "reveal") is refl))
    (with-commit (commits_in rows) (reveals_in rows) row none q.0 q.1 h)

sound-reveal : (rows : List Row) (row : Row) → begins_with (codes "reveal") row ≡ true → check_record rows row ≡ None → AreSound rows → AreSound (rows ++ row ∷ [])
unfolding check_record check_word said_by
sound-reveal rows row is e h =
    let p = word-passed (said_by rows) row word.Reveal (reveal-word row is) e in
    let q = reveal-passed (said_by rows) row p.1 in
    sound-parts rows (rows ++ row ∷ []) _ _ (records-same (codes "commit") rows row (other-word (first_field row) (codes "reveal") (codes "commit") is refl)) (records-one (codes "reveal") rows row is)
    (with-reveal (commits_in rows) (reveals_in rows) row q.new q.hex q.match h)

sound-next : (rows : List Row) (row : Row) → check_record rows row ≡ None → AreSound rows → AreSound (rows ++ row ∷ [])
sound-next rows row e h = elim (cases_Bool (begins_with (codes "commit") row)) [
  | inl is ↦ sound-commit rows row is e h
  | inr no-commit ↦ elim (cases_Bool (begins_with (codes "reveal") row)) [
    | inl is ↦ sound-reveal rows row is e h
    | inr no-reveal ↦ sound-parts rows (rows ++ row ∷ []) _ _ (records-same (codes "commit") rows row no-commit) (records-same (codes "reveal") rows row no-reveal) h
  ]
]

pub sound-lawful : (rows : List Row) → fault_of rows ≡ None → AreSound rows
sound-lawful rows e = fault-keeps check_record check_end AreSound sound-next [] rows e sound-nothing

-- every name has revealed, where records end as they may
pub all-revealed : (rows : List Row) → fault_of rows ≡ None → all_reveal (said_by rows) ≡ true
unfolding check_end check_whole
all-revealed rows e =
    let some = passed _ _ _ (fault-ends check_record check_end [] rows e) in
    (passed _ _ _ some.1).0

-- ---- what stands with a name

spelled-some : (o : Option (List ℕ)) → is_some o ≡ true → o ≡ Some (unwrap_or o [])
spelled-some None e = cc e
spelled-some (Some x) e = refl

-- what stands with the name of a record is what that record spells
pub row-entry : (rows : List Row) (k : ℕ) (d : Row) → AreApart rows → k < length rows → entry_of (entries_in rows) (name_in (get_or rows k d)) ≡ Some (bytes_in (get_or rows k d))
row-entry rows k d apart lt =
    let name = get_or-map name_in rows k d [] lt in
    let place = rw name at (index-at (map name_in rows) k apart (omega (arith, length-map rows name_in, lt))) in
    entry-at (entries_in rows) (name_in (get_or rows k d)) k [] (length-map rows name_in ∙ sym (length-map rows bytes_in)) place ∙ ap Some (get_or-map bytes_in rows k d [] lt)

-- a record of a name with which something stands
pub entry-row : (rows : List Row) (name : List ℕ) (d : Row) → is_some (entry_of (entries_in rows) name) ≡ true → (k : ℕ) × (k < length rows) × (name_in (get_or rows k d) ≡ name)
entry-row rows name d e =
    let p = name-known (map name_in rows) name (sym (is_some-entry (entries_in rows) name) ∙ e) in
    let lt : p.0 < length rows = omega (arith, p.2, length-map rows name_in) in
    (p.0, lt, sym (get_or-map name_in rows p.0 d [] lt) ∙ p.3 [])

-- ---- what is committed is kept

all-zip-map : {A B C : Type 0} (R : A → C → Type 0) (f : A → B) (g : B → C) (xs : List A) → All (λ x. R x (g (f x))) xs → AllZip R xs (map g (map f xs))
all-zip-map R f g [] h = tt
all-zip-map R f g (x ∷ xs) h = (All-head (λ x. R x (g (f x))) x xs h, all-zip-map R f g xs (All-tail (λ x. R x (g (f x))) x xs h))

-- a name that commits has revealed
pub name-reveals : (rows : List Row) (k : ℕ) (d : Row) → all_reveal (said_by rows) ≡ true → k < length (commits_in rows) → is_some (entry_of (entries_in (reveals_in rows)) (name_in (get_or (commits_in rows) k d))) ≡ true
unfolding said_by
name-reveals rows k d all lt =
    let each = AllPass-from_list_all _ (map name_in (commits_in rows)) all in
    rw (get_or-map name_in (commits_in rows) k d [] lt) at (each k [] (omega (arith, length-map (commits_in rows) name_in, lt)))

kept-by : (rows : List Row) (commit reveal : Row) (value : List ℕ) → Contains (reveals_in rows) reveal → name_in reveal ≡ name_in commit → value ≡ bytes_in reveal → IsSpelled reveal → IsSpelled commit
    → commitment_of (name_in commit) (bytes_in reveal) ≡ bytes_in commit → IsKept rows commit value
kept-by rows commit reveal value inside same is spells committed match =
    ((reveal, inside, same, spelled-some (spelled (field reveal 2)) spells ∙ ap Some (sym is)), spelled-some (spelled (field commit 2)) committed ∙ ap Some (rw is (sym match)))

-- the contribution under the name of a commitment is revealed, and is that which was committed
kept-at : (rows : List Row) (k : ℕ) (d : Row) → AreSound rows → all_reveal (said_by rows) ≡ true → k < length (commits_in rows)
    → IsKept rows (get_or (commits_in rows) k d) (unwrap_or (entry_of (entries_in (reveals_in rows)) (name_in (get_or (commits_in rows) k d))) [])
kept-at rows k d h all lt =
    let commit = get_or (commits_in rows) k d in
    let found = entry-row (reveals_in rows) (name_in commit) d (name-reveals rows k d all lt) in
    let reveal = get_or (reveals_in rows) found.0 d in
    let same : name_in reveal ≡ name_in commit = found.2 in
    let value : entry_of (entries_in (reveals_in rows)) (name_in commit) ≡ Some (bytes_in reveal) = rw same at (row-entry (reveals_in rows) found.0 d h.reveals_apart found.1) in
    let committed : entry_of (entries_in (commits_in rows)) (name_in commit) ≡ Some (bytes_in commit) = row-entry (commits_in rows) k d h.commits_apart lt in
    let match : commitment_of (name_in commit) (bytes_in reveal) ≡ unwrap_or (entry_of (entries_in (commits_in rows)) (name_in commit)) [] = rw same at (h.matched found.0 d found.1) in
    kept-by rows commit reveal _ (Contains-get_or (reveals_in rows) found.0 d found.1) same (ap (λ (o : Option (List ℕ)). unwrap_or o []) value) (h.reveals_spelled found.0 d found.1) (h.commits_spelled k d lt)
    (match ∙ ap (λ (o : Option (List ℕ)). unwrap_or o []) committed)

-- records without a fault keep to their commitments
pub kept : (rows : List Row) (p : PactValue) → ReadsAs rows p → IsKeptBy rows p
unfolding said_by
kept rows p e =
    subst (IsKeptBy rows) (sym e.1) (record {
      names = refl;
      kept = all-zip-map (IsKept rows) name_in (λ name. unwrap_or (entry_of (entries_in (reveals_in rows)) name) []) (commits_in rows)
          (λ k d lt. kept-at rows k d (sound-lawful rows e.0) (all-revealed rows e.0) lt);
    })
