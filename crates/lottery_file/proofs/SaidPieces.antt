-- The pieces that records say.
use Rattle.std.proofs.Common.{◌≡◌, ◌∙◌, ◌+◌, ◌++◌, ◌∷◌, [], ℕ, suc, List, Bool, true, false, refl, ap, map, append_assoc, arith, inl, inr}
use Rattle.std.specs.Prelude.{codes}
use Rattle.std.specs.List.{before_first, position_or_len}
use Rattle.std.proofs.lemmas.Bool.{cases_Bool}
use Rattle.std.proofs.lemmas.List.{append-nil}
use Rattle.definitions.specs.Texts.{Row, field, number}
use Rattle.definitions.specs.Values.{PieceValue}
use Rattle.lottery_file.specs.Said.{onto_last}
use Rattle.table_text.specs.Records.{begins_with, records_of}
use Rattle.lottery_file.specs.Records.{give_in, gives_in, pieces_along}

-- what stands before the first that passes
pub before-yes : {X : Type 0} (p : X → Bool) (x : X) (xs : List X) → p x ≡ true → before_first p (x ∷ xs) ≡ []
before-yes p x xs e = rw e refl

pub before-no : {X : Type 0} (p : X → Bool) (x : X) (xs : List X) → p x ≡ false → before_first p (x ∷ xs) ≡ x ∷ before_first p xs
before-no p x xs e =
    let n : 1 + position_or_len p xs ≡ suc (position_or_len p xs) = omega arith in
    rw (e, n) refl

module _ (agents columns : List (List ℕ)) where
  gives-stop : (r : Row) (rs : List Row) → begins_with (codes "piece") r ≡ true → gives_in agents columns (r ∷ rs) ≡ []
  gives-stop r rs e = ap (λ (t : List Row). map (give_in agents columns) (records_of (codes "give") t)) (before-yes (begins_with (codes "piece")) r rs e)

  gives-more : (r : Row) (rs : List Row) → begins_with (codes "piece") r ≡ false → begins_with (codes "give") r ≡ true
      → gives_in agents columns (r ∷ rs) ≡ give_in agents columns r ∷ gives_in agents columns rs
  gives-more r rs e g = ap (λ (t : List Row). map (give_in agents columns) (records_of (codes "give") t)) (before-no (begins_with (codes "piece")) r rs e) ∙ rw g refl

  gives-same : (r : Row) (rs : List Row) → begins_with (codes "piece") r ≡ false → begins_with (codes "give") r ≡ false → gives_in agents columns (r ∷ rs) ≡ gives_in agents columns rs
  gives-same r rs e g = ap (λ (t : List Row). map (give_in agents columns) (records_of (codes "give") t)) (before-no (begins_with (codes "piece")) r rs e) ∙ rw g refl

  -- these pieces, and what more records say
  abbrev pub pieces_then : List PieceValue → List Row → List PieceValue
  pieces_then [] rs = pieces_along agents columns rs
  pieces_then (p ∷ []) rs = (record p { gives = p.gives ++ gives_in agents columns rs }) ∷ pieces_along agents columns rs
  pieces_then (p ∷ q ∷ ps) rs = p ∷ pieces_then (q ∷ ps) rs

  pub then-piece : (ps : List PieceValue) (r : Row) (rs : List Row) → begins_with (codes "piece") r ≡ true
      → pieces_then ps (r ∷ rs) ≡ pieces_then (ps ++ (record { weight = number (field r 2); gives = [] }) ∷ []) rs
  then-piece [] r rs e = rw e refl
  then-piece (p ∷ []) r rs e = rw (gives-stop r rs e, append-nil p.gives, e) refl
  then-piece (p ∷ q ∷ ps) r rs e = ap (λ (t : List PieceValue). p ∷ t) (then-piece (q ∷ ps) r rs e)

  pub then-give : (ps : List PieceValue) (r : Row) (rs : List Row) → begins_with (codes "piece") r ≡ false → begins_with (codes "give") r ≡ true
      → pieces_then ps (r ∷ rs) ≡ pieces_then (onto_last (give_in agents columns r) ps) rs
  then-give [] r rs e g = rw e refl
  then-give (p ∷ []) r rs e g = rw (gives-more r rs e g, append_assoc p.gives (give_in agents columns r ∷ []) (gives_in agents columns rs), e) refl
  then-give (p ∷ q ∷ []) r rs e g = ap (λ (t : List PieceValue). p ∷ t) (then-give (q ∷ []) r rs e g)
  then-give (p ∷ q ∷ s ∷ ps) r rs e g = ap (λ (t : List PieceValue). p ∷ t) (then-give (q ∷ s ∷ ps) r rs e g)

  pub then-other : (ps : List PieceValue) (r : Row) (rs : List Row) → begins_with (codes "piece") r ≡ false → begins_with (codes "give") r ≡ false
      → pieces_then ps (r ∷ rs) ≡ pieces_then ps rs
  then-other [] r rs e g = rw e refl
  then-other (p ∷ []) r rs e g = rw (gives-same r rs e g, e) refl
  then-other (p ∷ q ∷ ps) r rs e g = ap (λ (t : List PieceValue). p ∷ t) (then-other (q ∷ ps) r rs e g)

  pub then-nothing : (ps : List PieceValue) → pieces_then ps [] ≡ ps
  then-nothing [] = refl
  then-nothing (p ∷ []) = rw (append-nil p.gives) refl
  then-nothing (p ∷ q ∷ ps) = ap (λ (t : List PieceValue). p ∷ t) (then-nothing (q ∷ ps))

  -- records without a piece in front say nothing
  pub pieces-skip : (xs rs : List Row) → records_of (codes "piece") xs ≡ [] → pieces_along agents columns (xs ++ rs) ≡ pieces_along agents columns rs
  pieces-skip [] rs e = refl
  pieces-skip (x ∷ xs) rs e = elim (cases_Bool (begins_with (codes "piece") x)) [
    | inl is ↦ absurd (cc (rw is at e))
    | inr isnt ↦ rw isnt (pieces-skip xs rs (rw isnt at e))
  ]
