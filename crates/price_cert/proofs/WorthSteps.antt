-- Steps of the loops over places.
use Rattle.std.proofs.Common.{◌≡◌, ℕ, zero, suc, ◌+◌, ◌<◌, List, [], ◌∷◌, ◌++◌, Option, map, length, drop, get_or, reverse, ℤ, refl, ap, sym, ◌∙◌, arith, append_assoc}
use Rattle.std.proofs.lemmas.List.{map-append, reverse-append}
use Rattle.std.specs.List.{range_with_len}
use Rattle.std.proofs.lemmas.List.FromFn.{map-range_with_len_more}
use Rattle.definitions.specs.Certificate.{ListPlace, next_level, worth_here, worths_along}
use Rattle.price_cert.specs.declared.worths.Place.{Place}
use Rattle.price_cert.specs.Worths.{place_value, levels_ahead, worths_by}

-- the worths along places are those by the levels ahead
pub along_levels : (before : ℤ) (bs : List ListPlace) → worths_by before (levels_ahead bs) ≡ worths_along before bs
along_levels before [] = refl
along_levels before (b ∷ bs) = ap (λ ws. worth_here before (next_level (b ∷ bs)) ∷ ws) (along_levels (worth_here before (next_level (b ∷ bs))) bs)

pub levels_many : (bs : List ListPlace) → length (levels_ahead bs) ≡ length bs
levels_many [] = refl
levels_many (b ∷ bs) = ap suc (levels_many bs)

-- the places from one on are that place and the places after it
pub from_place : (ps : List Place) (i : ℕ) (d : Place) → i < length ps → map place_value (drop i ps) ≡ place_value (get_or ps i d) ∷ map place_value (drop (i + 1) ps)
from_place [] i d l = absurd (omega arith)
from_place (q ∷ ps) zero d l = refl
from_place (q ∷ ps) (suc i) d l =
    let z : suc (i + 1) ≡ suc i + 1 = omega arith in
    from_place ps i d (omega arith) ∙ ap (λ n. place_value (get_or ps i d) ∷ map place_value (drop n (q ∷ ps))) z

-- one level more, from the back
pub level_more : (ps : List Place) (i : ℕ) (d : Place) (levels new : List (Option ℕ)) (next : Option ℕ) → i < length ps
    → next ≡ next_level (place_value (get_or ps i d) ∷ map place_value (drop (i + 1) ps)) → new ≡ levels ++ next ∷ []
    → reverse levels ≡ levels_ahead (map place_value (drop (i + 1) ps)) → reverse new ≡ levels_ahead (map place_value (drop i ps))
level_more ps i d levels new next l is e h =
    ap reverse e ∙ reverse-append levels (next ∷ []) ∙ ap (λ xs. next ∷ xs) h ∙ ap (λ o. o ∷ levels_ahead (map place_value (drop (i + 1) ps))) is
    ∙ sym (ap levels_ahead (from_place ps i d l))

-- one worth more
pub worth_more : (levels : List (Option ℕ)) (i : ℕ) (d : Option ℕ) (before w : ℤ) (ws new whole : List ℤ) → i < length levels → w ≡ worth_here before (get_or levels i d)
    → new ≡ ws ++ w ∷ [] → ws ++ worths_by before (drop i levels) ≡ whole → new ++ worths_by w (drop (i + 1) levels) ≡ whole
worth_more levels i d before w ws new whole l is e h =
    ap (λ xs. xs ++ worths_by w (drop (i + 1) levels)) e ∙ append_assoc ws (w ∷ []) (worths_by w (drop (i + 1) levels))
    ∙ ap (λ v. ws ++ v ∷ worths_by v (drop (i + 1) levels)) is
    ∙ ap (λ xs. ws ++ worths_by before xs) (from_level levels i l) ∙ h
  where
    from_level : (xs : List (Option ℕ)) (k : ℕ) → k < length xs → get_or xs k d ∷ drop (k + 1) xs ≡ drop k xs
    from_level [] k m = absurd (omega arith)
    from_level (x ∷ xs) zero m = refl
    from_level (x ∷ xs) (suc k) m = (let z : suc k + 1 ≡ suc (k + 1) = omega arith in ap (λ n. get_or xs k d ∷ drop n (x ∷ xs)) z) ∙ from_level xs k (omega arith)

-- one list of worths more
pub list_more : {X Y : Type 0} (view : X → Y) (f : ℕ → Y) (n : ℕ) (xs new : List X) (x : X) → new ≡ xs ++ x ∷ [] → map view xs ≡ map f (range_with_len 0 n) → view x ≡ f n
    → map view new ≡ map f (range_with_len 0 (n + 1))
list_more view f n xs new x e h g =
    ap (map view) e ∙ map-append view xs (x ∷ []) ∙ ap (λ ys. ys ++ view x ∷ []) h ∙ ap (λ y. map f (range_with_len 0 n) ++ y ∷ []) g ∙ sym (map-range_with_len_more f 0 n n (omega arith))
