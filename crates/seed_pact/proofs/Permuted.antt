-- What is lawful stays so where contributions are revealed in another order.
use Rattle.std.proofs.Common.{◌≡◌, ◌∙◌, ◌++◌, ◌∷◌, ◌+◌, ◌<◌, [], ℕ, List, Option, Some, None, Bool, true, false, cond, refl, sym, ap, subst, length, map, get_or, arith, append_assoc}
use Rattle.std.specs.Prelude.{◌==◌, All, codes, filter, is_some, is_none, nat_lt, not, unwrap_or}
use Rattle.std.specs.List.{list_all}
use Rattle.std.specs.List.Sorted.{IsPermutation}
use Rattle.std.specs.Str.{bytes_eq, is_utf8}
use Rattle.std.proofs.lemmas.Bool.{ne_eqb}
use Rattle.std.proofs.lemmas.List.{append-nil, get_or-map, get_or_append_left, length-append, length-map}
use Rattle.std.proofs.lemmas.List.Elements.{All-nil, All-cons, All-head, All-tail, filter-append}
use Rattle.std.proofs.lemmas.List.Sorted.{All-permutation, IsPermutation-append_right, IsPermutation-map}
use Rattle.std.proofs.lemmas.List.Sums.{AllPass-from_list_all, list_all-from_AllPass}
use Rattle.std.proofs.lemmas.Map.Keys.{IsDistinct-IsPermutation}
use Rattle.std.proofs.lemmas.Map.Made.{AllPairs-from_IsDistinct, IsDistinct-from_AllPairs}
use Rattle.std.proofs.lemmas.Slice.Eq.{bytes_eq-Decides}
use Rattle.std.proofs.Math.Seq.{get_or-append_seam}
use Rattle.definitions.specs.Firsts.{fault_after}
use Rattle.definitions.specs.Texts.{Row, first_field, field, name_index}
use Rattle.definitions.proofs.Passed.{passed, fault-first, fault-ends}
use Rattle.table_text.specs.Records.{begins_with}
use Rattle.table_text.proofs.KnownNames.{name-known}
use Rattle.seed_pact.specs.Commitments.{spelled, commitment_of}
use Rattle.seed_pact.specs.Said.{Before, EntriesValue, add, add_word, with_entry, commits_in, entries_in, entry_of, reveals_in, name_in, bytes_in, said_by}
use Rattle.seed_pact.specs.Checks.{check_next, check_kind, check_word, check_reveal, check_record, check_end, check_whole, may_come, fault_of}
use Rattle.seed_pact.specs.Pacts.{PactValue, ReadsAs}
use Rattle.seed_pact.specs.declared.faults.PactKind.{PactKind}
use Rattle.seed_pact.specs.declared.faults.PactKind.TheVariants as kind
use Rattle.seed_pact.specs.declared.words.Word.{Word}
use Rattle.seed_pact.specs.declared.words.Word.TheVariants as word
use Rattle.seed_pact.proofs.EntryFacts.{is_none-entry}
use Rattle.seed_pact.proofs.RecordFacts.{other-word, records-one, said-more}
use Rattle.seed_pact.proofs.Kept.{AreApart, reveal-word, sound-lawful, word-passed}
use Rattle.seed_pact.proofs.Orders.{entry-permuted, order-of-reveals}

-- ---- the records in front, and those after them

-- records without a fault have none after their front
fault-split : (before front rest : List Row) → fault_after check_record check_end before (front ++ rest) ≡ None → fault_after check_record check_end (before ++ front) rest ≡ None
fault-split before [] rest e = rw (append-nil before) e
fault-split before (r ∷ front) rest e =
    rw (append_assoc before (r ∷ []) front) at (fault-split (before ++ r ∷ []) front rest (fault-first check_record check_end before r (front ++ rest) e).1)

-- and other records may follow that front where they have none
fault-join : (before front rest others : List Row) → fault_after check_record check_end before (front ++ rest) ≡ None → fault_after check_record check_end (before ++ front) others ≡ None
    → fault_after check_record check_end before (front ++ others) ≡ None
unfolding fault_after
fault-join before [] rest others e f = rw (append-nil before) at f
fault-join before (r ∷ front) rest others e f =
    let p = fault-first check_record check_end before r (front ++ rest) e in
    rw (p.0, fault-join (before ++ r ∷ []) front rest others p.1 (rw (append_assoc before (r ∷ []) front) f)) refl

-- ---- a record that reveals

-- what is asked of it, but for that its name has not revealed yet
pub record IsFit (b : Before) (row : Row) : Type 0 where
  pub text : list_all is_utf8 row ≡ true
  pub may : may_come word.Reveal b ≡ true
  pub long : (length row == 3) ≡ true
  pub known : is_some (entry_of b.commits (name_in row)) ≡ true
  pub hex : is_some (spelled (field row 2)) ≡ true
  pub match : bytes_eq (commitment_of (name_in row) (bytes_in row)) (unwrap_or (entry_of b.commits (name_in row)) []) ≡ true

fit-next : (b : Before) (row : Row) → check_reveal b.commits b.reveals row ≡ None → list_all is_utf8 row ≡ true → may_come word.Reveal b ≡ true → IsFit b row × (is_none (entry_of b.reveals (name_in row)) ≡ true)
unfolding check_reveal
fit-next b row e text may =
    let long = passed _ _ _ e in
    let known = passed _ _ _ long.1 in
    let new = passed _ _ _ known.1 in
    let hex = passed _ _ _ new.1 in
    let match = passed _ _ _ hex.1 in
    (record { text = text; may = may; long = long.0; known = known.0; hex = hex.0; match = match.0 }, new.0)

blank-then : (t : Bool) (k : Option PactKind) → t ≡ false → cond t None k ≡ None → k ≡ None
blank-then t k n e = rw n at e

text-then : (t : Bool) (k : Option PactKind) → cond (not t) (Some kind.NotUtf8) k ≡ None → t ≡ true
text-then true k e = refl
text-then false k e = absurd (cc e)

text-passed : (b : Before) (row : Row) → begins_with (codes "reveal") row ≡ true → check_next b row ≡ None → list_all is_utf8 row ≡ true
unfolding check_next
text-passed b [] is e = refl
text-passed b (f ∷ fs) is e = text-then (list_all is_utf8 (f ∷ fs)) _ (blank-then (length (f ∷ fs) == 0) _ (ne_eqb (length (f ∷ fs)) 0 (λ z. cc z)) e)

-- a lawful one is fit, and its name is new
fit-from : (b : Before) (row : Row) → begins_with (codes "reveal") row ≡ true → check_next b row ≡ None → IsFit b row × (is_none (entry_of b.reveals (name_in row)) ≡ true)
unfolding check_word
fit-from b row is e =
    let p = word-passed b row word.Reveal (reveal-word row is) e in
    fit-next b row p.1 (text-passed b row is e) p.0

-- and one that is fit is lawful where its name is new
fit-to : (b : Before) (row : Row) → begins_with (codes "reveal") row ≡ true → IsFit b row → is_none (entry_of b.reveals (name_in row)) ≡ true → check_next b row ≡ None
unfolding check_next check_kind check_word check_reveal
fit-to b [] is h new = refl
fit-to b (f ∷ fs) is h new =
    rw (ne_eqb (length (f ∷ fs)) 0 (λ z. cc z), h.text, reveal-word (f ∷ fs) is, h.may, h.long, h.known, new, h.hex, h.match) refl

-- what is asked of it doesn't look at what is revealed
fit-any : (b : Before) (reveals : EntriesValue) (row : Row) → IsFit (record b { reveals = reveals }) row → IsFit b row
unfolding may_come
fit-any b reveals row h = record { text = h.text; may = h.may; long = h.long; known = h.known; hex = h.hex; match = h.match }

any-fit : (b : Before) (reveals : EntriesValue) (row : Row) → IsFit b row → IsFit (record b { reveals = reveals }) row
unfolding may_come
any-fit b reveals row h = record { text = h.text; may = h.may; long = h.long; known = h.known; hex = h.hex; match = h.match }

said-reveal : (before : List Row) (r : Row) → begins_with (codes "reveal") r ≡ true
    → said_by (before ++ r ∷ []) ≡ record (said_by before) { reveals = with_entry (name_in r) (bytes_in r) (said_by before).reveals }
unfolding add add_word
said-reveal before r is = said-more before r ∙ ap (λ (o : Option Word). add_word o r (said_by before)) (reveal-word r is)

fit-later : (before : List Row) (r row : Row) → begins_with (codes "reveal") r ≡ true → IsFit (said_by (before ++ r ∷ [])) row → IsFit (said_by before) row
fit-later before r row is h = fit-any (said_by before) _ row (subst (λ (b : Before). IsFit b row) (said-reveal before r is) h)

fit-earlier : (before : List Row) (r row : Row) → begins_with (codes "reveal") r ≡ true → IsFit (said_by before) row → IsFit (said_by (before ++ r ∷ [])) row
fit-earlier before r row is h = subst (λ (b : Before). IsFit b row) (sym (said-reveal before r is)) (any-fit (said_by before) _ row h)

-- ---- records that all reveal

abbrev DoReveal : List Row → Type 0
DoReveal rows = All (λ r. begins_with (codes "reveal") r ≡ true) rows

first-reveals : (r : Row) (rows : List Row) → DoReveal (r ∷ rows) → begins_with (codes "reveal") r ≡ true
first-reveals r rows w = All-head (λ r. begins_with (codes "reveal") r ≡ true) r rows w

others-reveal : (r : Row) (rows : List Row) → DoReveal (r ∷ rows) → DoReveal rows
others-reveal r rows w = All-tail (λ r. begins_with (codes "reveal") r ≡ true) r rows w

-- lawful ones are all fit
all-fit : (before rows : List Row) → DoReveal rows → fault_after check_record check_end before rows ≡ None → All (IsFit (said_by before)) rows
unfolding check_record
all-fit before [] w e = All-nil (IsFit (said_by before))
all-fit before (r ∷ rows) w e =
    let p = fault-first check_record check_end before r rows e in
    let is = first-reveals r rows w in
    All-cons (IsFit (said_by before)) r rows (fit-from (said_by before) r is p.0).0
    (λ k d lt. fit-later before r (get_or rows k d) is (all-fit (before ++ r ∷ []) rows (others-reveal r rows w) p.1 k d lt))

some-case : (o : Option ℕ) → (is_some o ≡ true → ⊥) → is_none o ≡ true
some-case None h = refl
some-case (Some k) h = absurd (h refl)

-- the name of a record that stands apart from those before it is new
apart-new : (earlier : List Row) (r : Row) (rows : List Row) → AreApart (earlier ++ r ∷ rows) → is_none (entry_of (entries_in earlier) (name_in r)) ≡ true
apart-new earlier r rows apart =
    let names = map name_in earlier in
    let all = earlier ++ r ∷ rows in
    is_none-entry (entries_in earlier) (name_in r) ∙ some-case (name_index names (name_in r)) (λ known.
    let place = name-known names (name_in r) known in
    let long : length all ≡ length earlier + length (r ∷ rows) = length-append earlier (r ∷ rows) in
    let lt : place.0 < length earlier = omega (arith, place.2, length-map earlier name_in) in
    let here : get_or (map name_in all) place.0 [] ≡ name_in r =
    get_or-map name_in all place.0 [] [] (omega (arith, long, lt)) ∙ ap name_in (get_or_append_left earlier (r ∷ rows) [] place.0 lt) ∙ sym (get_or-map name_in earlier place.0 [] [] lt) ∙ place.3 [] in
    let last : get_or (map name_in all) (length earlier) [] ≡ name_in r =
    get_or-map name_in all (length earlier) [] [] (omega (arith, long)) ∙ ap name_in (get_or-append_seam earlier r rows []) in
    apart place.0 (length earlier) [] lt (omega (arith, long, length-map all name_in)) (here ∙ sym last))

new-said : (before : List Row) (r : Row) → is_none (entry_of (entries_in (reveals_in before)) (name_in r)) ≡ true → is_none (entry_of (said_by before).reveals (name_in r)) ≡ true
unfolding said_by
new-said before r h = h

-- fit ones whose names stand apart are lawful, where the text may end after them
fit-lawful : (before rows : List Row) → DoReveal rows → All (IsFit (said_by before)) rows → AreApart (reveals_in before ++ rows) → check_end (before ++ rows) ≡ None
    → fault_after check_record check_end before rows ≡ None
unfolding fault_after check_record
fit-lawful before [] w fits apart e = rw (rw (append-nil before) at e) refl
fit-lawful before (r ∷ rows) w fits apart e =
    let is = first-reveals r rows w in
    let fit = All-head (IsFit (said_by before)) r rows fits in
    let new = apart-new (reveals_in before) r rows apart in
    let this : check_next (said_by before) r ≡ None = fit-to (said_by before) r is fit (new-said before r new) in
    let apart-on : AreApart (reveals_in (before ++ r ∷ []) ++ rows) =
    subst AreApart (sym (ap (λ (l : List Row). l ++ rows) (records-one (codes "reveal") before r is) ∙ append_assoc (reveals_in before) (r ∷ []) rows)) apart in
    let rest = fit-lawful (before ++ r ∷ []) rows (others-reveal r rows w)
    (λ k d lt. fit-earlier before r (get_or rows k d) is (All-tail (IsFit (said_by before)) r rows fits k d lt)) apart-on (rw (append_assoc before (r ∷ []) rows) e) in
    rw (this, rest) refl

-- ---- another order

bytes_flips : (x y : List ℕ) → bytes_eq x y ≡ bytes_eq y x
bytes_flips x y = same-answer (bytes_eq x y) (bytes_eq y x) (λ h. (bytes_eq-Decides y x).1 (sym ((bytes_eq-Decides x y).0 h))) (λ h. (bytes_eq-Decides x y).1 (sym ((bytes_eq-Decides y x).0 h)))
  where
    same-answer : (a b : Bool) → (a ≡ true → b ≡ true) → (b ≡ true → a ≡ true) → a ≡ b
    same-answer true b f g = sym (f refl)
    same-answer false true f g = g refl
    same-answer false false f g = refl

names-apart : (rows others : List Row) → IsPermutation rows others → AreApart rows → AreApart others
names-apart rows others turned apart =
    AllPairs-from_IsDistinct bytes_eq-Decides (map name_in others)
    (IsDistinct-IsPermutation bytes_eq bytes_flips (map name_in rows) (map name_in others) (IsPermutation-map name_in rows others turned) (IsDistinct-from_AllPairs bytes_eq-Decides (map name_in rows) apart))

all-kept : {A : Type 0} (p : A → Bool) (xs : List A) → All (λ x. p x ≡ true) xs → filter p xs ≡ xs
all-kept p [] h = refl
all-kept p (x ∷ xs) h = rw (All-head (λ x. p x ≡ true) x xs h) (ap (λ (l : List _). x ∷ l) (all-kept p xs (All-tail (λ x. p x ≡ true) x xs h)))

none-kept : (rows : List Row) → DoReveal rows → commits_in rows ≡ []
none-kept [] w = refl
none-kept (r ∷ rows) w =
    let no : begins_with (codes "commit") r ≡ false = other-word (first_field r) (codes "reveal") (codes "commit") (first-reveals r rows w) refl in
    rw no (none-kept rows (others-reveal r rows w))

reveals-after : (front rows : List Row) → DoReveal rows → reveals_in (front ++ rows) ≡ reveals_in front ++ rows
reveals-after front rows w = filter-append (begins_with (codes "reveal")) front rows ∙ ap (λ (l : List Row). reveals_in front ++ l) (all-kept (begins_with (codes "reveal")) rows w)

commits-after : (front rows : List Row) → DoReveal rows → commits_in (front ++ rows) ≡ commits_in front
commits-after front rows w = filter-append (begins_with (codes "commit")) front rows ∙ ap (λ (l : List Row). commits_in front ++ l) (none-kept rows w) ∙ append-nil (commits_in front)

-- where all have revealed in one order, they have in the other
whole-permuted : (rows others : List Row) → check_end rows ≡ None → commits_in rows ≡ commits_in others → IsPermutation (reveals_in rows) (reveals_in others) → AreApart (reveals_in rows) → AreApart (reveals_in others)
    → check_end others ≡ None
unfolding check_end check_whole said_by
whole-permuted rows others e same turned apart apart2 =
    let some = passed _ _ _ e in
    let all = passed _ _ _ some.1 in
    let known = λ (r : List Row) (name : List ℕ). is_some (entry_of (entries_in (reveals_in r)) name) in
    let each = AllPass-from_list_all (known rows) (map name_in (commits_in rows)) all.0 in
    let there : list_all (known others) (map name_in (commits_in rows)) ≡ true = list_all-from_AllPass (known others) (map name_in (commits_in rows))
    (λ k d lt. ap (λ (o : Option (List ℕ)). is_some o) (sym (entry-permuted (reveals_in rows) (reveals_in others) _ apart apart2 turned (each k d lt))) ∙ each k d lt) in
    let named : nat_lt 0 (length (map name_in (commits_in rows))) ≡ true = some.0 in
    rw (← same, named, there) refl

-- a text whose contributions are revealed in another order reads as the same pact
pub reads-permuted : (front reveals others : List Row) (p : PactValue) → DoReveal reveals → IsPermutation reveals others → ReadsAs (front ++ reveals) p → ReadsAs (front ++ others) p
reads-permuted front reveals others p w turned h =
    let w2 : DoReveal others = All-permutation (λ r. begins_with (codes "reveal") r ≡ true) reveals others turned w in
    let in-rows = reveals-after front reveals w in
    let in-others = reveals-after front others w2 in
    let whole = IsPermutation-append_right (reveals_in front) reveals others turned in
    let apart : AreApart (reveals_in front ++ reveals) = subst AreApart in-rows (sound-lawful (front ++ reveals) h.0).reveals_apart in
    let apart2 : AreApart (reveals_in front ++ others) = names-apart (reveals_in front ++ reveals) (reveals_in front ++ others) whole apart in
    let same : commits_in (front ++ reveals) ≡ commits_in (front ++ others) = commits-after front reveals w ∙ sym (commits-after front others w2) in
    let turned-all : IsPermutation (reveals_in (front ++ reveals)) (reveals_in (front ++ others)) = rw (in-rows, in-others) whole in
    let end = whole-permuted (front ++ reveals) (front ++ others) (fault-ends check_record check_end [] (front ++ reveals) h.0) same turned-all (subst AreApart (sym in-rows) apart) (subst AreApart (sym in-others) apart2) in
    let fits = All-permutation (IsFit (said_by front)) reveals others turned (all-fit front reveals w (fault-split [] front reveals h.0)) in
    let lawful : fault_of (front ++ others) ≡ None = fault-join [] front reveals others h.0 (fit-lawful front others w2 fits apart2 end) in
    (lawful, h.1 ∙ order-of-reveals (front ++ reveals) (front ++ others) h.0 lawful same turned-all)
