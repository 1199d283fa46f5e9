-- The lists that records say.
use Rattle.std.proofs.Common.{◌≡◌, ◌∙◌, ◌++◌, ◌∷◌, [], List, true, false, refl, sym, ap, map, reverse, append_assoc}
use Rattle.std.specs.List.{before_first}
use Rattle.std.specs.Str.{bytes_eq}
use Rattle.std.proofs.lemmas.List.{append-nil, reverse-append}
use Rattle.definitions.specs.Texts.{Row, field, null_name}
use Rattle.lottery_file.specs.Records.{onto_first, cut_lists}
use Rattle.lottery_file.specs.Said.{if_some, open_places}
use Rattle.lottery_file.proofs.SaidPieces.{before-no, before-yes}

module _ {X : Type 0} (f : Row → X) where
  -- what the records of places say, cut after each place of `none`
  abbrev pub cut_values : List Row → List (List X)
  cut_values rows = map (λ rs. map f rs) (cut_lists rows)

  -- the open list, and lists after it: the first of them goes on with it
  abbrev pub go_on : List X → List (List X) → List (List X)
  go_on [] rest = rest
  go_on (x ∷ xs) [] = (x ∷ xs) ∷ []
  go_on (x ∷ xs) (ys ∷ rest) = (x ∷ (xs ++ ys)) ∷ rest

  -- the records so far say these lists, and this open one
  abbrev pub IsCut : List Row → List (List X) → List X → Type 0
  IsCut rows lists list = (more : List Row) → cut_values (rows ++ more) ≡ lists ++ go_on list (cut_values more)

  pub cut-none : IsCut [] [] []
  cut-none more = refl

  go-push : (list : List X) (x : X) (rest : List (List X)) → go_on list ((x ∷ []) ∷ rest) ≡ (list ++ x ∷ []) ∷ rest
  go-push [] x rest = refl
  go-push (y ∷ ys) x rest = refl

  -- `none` closes the open list
  pub cut-closes : (rows : List Row) (lists : List (List X)) (list : List X) (r : Row) → bytes_eq (field r 2) null_name ≡ true → IsCut rows lists list
      → IsCut (rows ++ r ∷ []) (lists ++ (list ++ f r ∷ []) ∷ []) []
  cut-closes rows lists list r e h more =
      ap cut_values (append_assoc rows (r ∷ []) more) ∙ h (r ∷ more)
      ∙ rw (e, go-push list (f r) (cut_values more)) (sym (append_assoc lists ((list ++ f r ∷ []) ∷ []) (cut_values more)))

  go-stays : (list : List X) (r : Row) (rest : List (List Row)) → go_on list (map (λ rs. map f rs) (onto_first r rest)) ≡ go_on (list ++ f r ∷ []) (map (λ rs. map f rs) rest)
  go-stays [] r [] = refl
  go-stays [] r (rs ∷ rest) = refl
  go-stays (x ∷ xs) r [] = refl
  go-stays (x ∷ xs) r (rs ∷ rest) = ap (λ (t : List X). (x ∷ t) ∷ map (λ rs. map f rs) rest) (sym (append_assoc xs (f r ∷ []) (map f rs)))

  -- any other place stays on it
  pub cut-stays : (rows : List Row) (lists : List (List X)) (list : List X) (r : Row) → bytes_eq (field r 2) null_name ≡ false → IsCut rows lists list
      → IsCut (rows ++ r ∷ []) lists (list ++ f r ∷ [])
  cut-stays rows lists list r e h more =
      ap cut_values (append_assoc rows (r ∷ []) more) ∙ h (r ∷ more)
      ∙ rw e (ap (λ (t : List (List X)). lists ++ t) (go-stays list r (cut_lists more)))

  -- where no list is open, these are all lists
  pub cut-all : (rows : List Row) (lists : List (List X)) → IsCut rows lists [] → lists ≡ cut_values rows
  cut-all rows lists h = sym (append-nil lists) ∙ sym (h []) ∙ ap cut_values (append-nil rows)

  -- the lists and the open one, where it has a place
  pub cut-so-far : (rows : List Row) (lists : List (List X)) (list : List X) → IsCut rows lists list → lists ++ if_some list ≡ cut_values rows
  cut-so-far rows lists list h = ap (λ (rest : List (List X)). lists ++ rest) (open-one list) ∙ sym (h []) ∙ ap cut_values (append-nil rows)
    where
      open-one : (list : List X) → if_some list ≡ go_on list []
      open-one [] = refl
      open-one (x ∷ xs) = refl

reverse-push : (rows : List Row) (r : Row) → reverse (rows ++ r ∷ []) ≡ r ∷ reverse rows
reverse-push rows r = reverse-append rows (r ∷ [])

-- after `none` no place is open
pub open-closed : (rows : List Row) (r : Row) → bytes_eq (field r 2) null_name ≡ true → open_places (rows ++ r ∷ []) ≡ []
open-closed rows r e = ap (λ (rs : List Row). reverse (before_first (λ r. bytes_eq (field r 2) null_name) rs)) (reverse-push rows r) ∙ ap reverse (before-yes (λ r. bytes_eq (field r 2) null_name) r (reverse rows) e)

-- any other place is one more
pub open-more : (rows : List Row) (r : Row) → bytes_eq (field r 2) null_name ≡ false → open_places (rows ++ r ∷ []) ≡ open_places rows ++ r ∷ []
open-more rows r e = ap (λ (rs : List Row). reverse (before_first (λ r. bytes_eq (field r 2) null_name) rs)) (reverse-push rows r) ∙ ap reverse (before-no (λ r. bytes_eq (field r 2) null_name) r (reverse rows) e)
    ∙ reverse-append (r ∷ []) (before_first (λ r. bytes_eq (field r 2) null_name) (reverse rows))
