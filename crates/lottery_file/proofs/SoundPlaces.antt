-- Places of lists that pass their checks.
use Rattle.std.proofs.Common.{◌≡◌, ◌≢◌, ◌+◌, ◌-◌, ◌^◌, ◌<◌, ◌≤◌, ◌∙◌, ◌++◌, ◌∷◌, [], ℕ, List, Some, false, refl, sym, ap, length, get_or, eqb, arith}
use Rattle.std.specs.Prelude.{ℤ, nat_abs}
use Rattle.std.specs.List.{list_any}
use Rattle.std.proofs.lemmas.Bool.{both_ways, eq-eqb}
use Rattle.std.proofs.lemmas.List.{length_push, get_or_push}
use Rattle.std.proofs.lemmas.List.Elements.{All-nil, All-push}
use Rattle.std.proofs.lemmas.List.Folds.{list_any_at}
use Rattle.std.proofs.lemmas.List.Quantifiers.{all_pairs_push}
use Rattle.std.proofs.lemmas.Option.{slice_get-get_or}
use Rattle.lottery_file.specs.Lotteries.{AreRanked, IsRanking}

pub no-places : (columns : ℕ) → AreRanked columns [] []
no-places columns = record { distinct = λ i j d l m. absurd (omega arith); within = All-nil (λ a. a < columns); many = refl; small = All-nil (λ z. nat_abs z ≤ 2 ^ 40) }

-- one more place on a list
pub place-push : (columns : ℕ) (list : List ℕ) (worth : List ℤ) (a : ℕ) (z : ℤ) → a < columns → list_any (λ j. eqb j a) list ≡ false → nat_abs z ≤ 2 ^ 40
    → AreRanked columns list worth → AreRanked columns (list ++ a ∷ []) (worth ++ z ∷ [])
place-push columns list worth a z lt new small h = record {
  distinct = all_pairs_push (λ a b. a ≢ b) list a h.distinct (λ k d l e. both_ways (list_any (λ j. eqb j a) list) new (list_any_at (λ j. eqb j a) list k d l (eq-eqb (get_or list k d) a e)));
  within = All-push (λ a. a < columns) list a h.within lt;
  many = length_push worth z ∙ rw h.many (sym (length_push list a));
  small = All-push (λ z. nat_abs z ≤ 2 ^ 40) worth z h.small small;
}

-- a list that its last column closes
pub place-closes : (columns : ℕ) (list : List ℕ) (worth : List ℤ) (a : ℕ) → a + 1 ≡ columns → AreRanked columns (list ++ a ∷ []) worth → IsRanking columns (list ++ a ∷ []) worth
place-closes columns list worth a e h =
    let n = length_push list a in
    let at : length (list ++ a ∷ []) - 1 ≡ length list = omega (arith, n) in
    let is : a ≡ columns - 1 = omega arith in
    record {
      places = h;
      last = rw (at, ← is) (slice_get-get_or (list ++ a ∷ []) (length list) 0 (omega (arith, n)) ∙ ap Some (get_or_push list a 0 (length list) refl));
    }
