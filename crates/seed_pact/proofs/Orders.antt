-- The order of what is revealed changes nothing.
use Rattle.std.proofs.Common.{◌≡◌, ◌∙◌, ◌∷◌, [], ℕ, List, Option, Some, None, true, refl, sym, ap, map, get_or}
use Rattle.std.specs.Prelude.{All, is_some, unwrap_or}
use Rattle.std.specs.List.Sorted.{IsPermutation}
use Rattle.std.proofs.lemmas.List.Elements.{All-head, All-tail, All-map, Contains-get_or}
use Rattle.std.proofs.lemmas.List.Sorted.{Contains-permutation}
use Rattle.definitions.specs.Texts.{Row}
use Rattle.seed_pact.specs.Said.{commits_in, entries_in, entry_of, name_in, bytes_in, reveals_in, said_by}
use Rattle.seed_pact.specs.Checks.{fault_of}
use Rattle.seed_pact.specs.Pacts.{pact_of}
use Rattle.seed_pact.proofs.Kept.{AreApart, row-entry, entry-row, sound-lawful, all-revealed, name-reveals}

-- with a name the same stands in another order of the records
pub entry-permuted : (rows others : List Row) (name : List ℕ) → AreApart rows → AreApart others → IsPermutation rows others → is_some (entry_of (entries_in rows) name) ≡ true
    → entry_of (entries_in rows) name ≡ entry_of (entries_in others) name
entry-permuted rows others name apart apart2 turned known =
    let found = entry-row rows name [] known in
    let row = get_or rows found.0 [] in
    let place = Contains-permutation rows others row turned (Contains-get_or rows found.0 [] found.1) in
    let same : get_or others place.0 row ≡ row = place.2 in
    let there : entry_of (entries_in others) (name_in row) ≡ Some (bytes_in row) = rw same at (row-entry others place.0 row apart2 place.1) in
    rw found.2 at (row-entry rows found.0 [] apart found.1 ∙ sym there)

map-alike : {A B : Type 0} (f g : A → B) (xs : List A) → All (λ x. f x ≡ g x) xs → map f xs ≡ map g xs
map-alike f g [] h = refl
map-alike f g (x ∷ xs) h = rw (All-head (λ x. f x ≡ g x) x xs h, map-alike f g xs (All-tail (λ x. f x ≡ g x) x xs h)) refl

-- the same commitments with their contributions revealed in another order are the same pact
pub order-of-reveals : (rows others : List Row) → fault_of rows ≡ None → fault_of others ≡ None → commits_in rows ≡ commits_in others → IsPermutation (reveals_in rows) (reveals_in others)
    → pact_of (said_by rows) ≡ pact_of (said_by others)
unfolding said_by
order-of-reveals rows others e f same turned =
    let h = sound-lawful rows e in
    let names : map name_in (commits_in rows) ≡ map name_in (commits_in others) = ap (map name_in) same in
    let value = λ (r : List Row) (name : List ℕ). unwrap_or (entry_of (entries_in r) name) [] in
    let each : All (λ name. value (reveals_in rows) name ≡ value (reveals_in others) name) (map name_in (commits_in rows)) =
    All-map (λ name. value (reveals_in rows) name ≡ value (reveals_in others) name) name_in (commits_in rows) (λ k d lt. ap (λ (o : Option (List ℕ)). unwrap_or o [])
    (entry-permuted (reveals_in rows) (reveals_in others) (name_in (get_or (commits_in rows) k d)) h.reveals_apart (sound-lawful others f).reveals_apart turned (name-reveals rows k d (all-revealed rows e) lt))) in
    rw (map-alike (value (reveals_in rows)) (value (reveals_in others)) (map name_in (commits_in rows)) each, names) refl
