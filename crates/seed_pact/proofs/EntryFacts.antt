-- Names with their bytes.
use Rattle.std.proofs.Common.{◌≡◌, ◌∙◌, ℕ, List, [], Option, Some, None, false, refl, sym, ap, get_or, length, arith}
use Rattle.std.specs.Prelude.{is_some, is_none, option_map, MatchOption}
use Rattle.std.specs.Str.{bytes_eq}
use Rattle.std.proofs.lemmas.List.{get_or_default}
use Rattle.std.proofs.lemmas.List.Quantifiers.{position-Some}
use Rattle.std.proofs.lemmas.Slice.Eq.{bytes_eq-Decides}
use Rattle.definitions.specs.Texts.{has_name, name_index}
use Rattle.table_text.proofs.KnownNames.{name-absent}
use Rattle.seed_pact.specs.Said.{EntriesValue, entry_of}

-- what stands at the place of a name is that name
pub name-at : (names : List (List ℕ)) (name : List ℕ) (k : ℕ) → name_index names name ≡ Some k → get_or names k [] ≡ name
name-at names name k e = sym ((bytes_eq-Decides name (get_or names k [])).0 (position-Some (bytes_eq name) names k [] e).1)

-- what stands with a name that has this place
pub entry-at : (e : EntriesValue) (name : List ℕ) (k : ℕ) (d : List ℕ) → length e.names ≡ length e.values → name_index e.names name ≡ Some k → entry_of e name ≡ Some (get_or e.values k d)
unfolding entry_of
entry-at e name k d same h =
    let lt = (position-Some (bytes_eq name) e.names k [] h).0 in
    rw h (ap Some (get_or_default e.values k [] d (omega (arith, lt, same))))

pub is_some-map : {A B : Type 0} (f : A → B) (o : Option A) → is_some (option_map f o) ≡ is_some o
is_some-map f None = refl
is_some-map f (Some x) = refl

-- something stands with a name exactly where it is among the names
pub is_some-entry : (e : EntriesValue) (name : List ℕ) → is_some (entry_of e name) ≡ is_some (name_index e.names name)
unfolding entry_of
is_some-entry e name = is_some-map (λ k. get_or e.values k []) (name_index e.names name)

is_none-map : {A B : Type 0} (f : A → B) (o : Option A) → is_none (option_map f o) ≡ is_none o
is_none-map f None = refl
is_none-map f (Some x) = refl

-- and nothing where it isn't
pub is_none-entry : (e : EntriesValue) (name : List ℕ) → is_none (entry_of e name) ≡ is_none (name_index e.names name)
unfolding entry_of
is_none-entry e name = is_none-map (λ k. get_or e.values k []) (name_index e.names name)

-- nothing stands with a name that is not among them
pub entry-free : (e : EntriesValue) (name : List ℕ) → is_some (entry_of e name) ≡ false → has_name e.names name ≡ false
entry-free e name h = name-absent e.names name (sym (is_some-entry e name) ∙ h)

-- an entry is found where there is one
pub found-alike : {X : Type 0} (r : Option X) (o : Option (List ℕ)) (v : X → List ℕ) (P : X → Type 0)
    → MatchOption r (o ≡ None) (λ x. (o ≡ Some (v x)) × P x) → is_some r ≡ is_some o
found-alike None o v P h = rw h refl
found-alike (Some x) o v P h = rw h.0 refl
