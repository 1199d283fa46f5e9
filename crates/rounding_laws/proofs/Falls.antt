-- The count of fractional cells and sets falls.
use Rattle.std.proofs.Common.{◌≡◌, ℕ, suc, zero, ◌<◌, ◌≤◌, List, [], ◌∷◌, length, get_or, refl, arith, inl, inr, subst, sym, cond}
use Rattle.std.specs.Prelude.{sum_by, count_by}
use Rattle.std.proofs.lemmas.List.Sums.{sum_by-cons}
use Rattle.std.proofs.lemmas.Option.{slice_get_within, get_or_from_slice_get}
use Rattle.definitions.specs.declared.Cell.{Cell}
use Rattle.definitions.specs.Rounding.{is_fractional, fractional_count}
use Rattle.rounding_laws.specs.Remainders.{IsGreatestTake, IsTight}
use Rattle.rounding_laws.proofs.Edges.{no_more_fractional, less_fractional}
use Rattle.rounding_laws.proofs.Taken.{sum_at, taken_cell, taken_set, tight_of_greatest}
use Rattle.rounding_laws.proofs.Remainder.{taken_found}

-- terms that are no larger, place by place, have a sum that is no larger
pub sum_le_at : {X Y : Type 0} (f : X → ℕ) (g : Y → ℕ) (xs : List X) (ys : List Y) (d : X) (e : Y) → length xs ≡ length ys
    → ((i : ℕ) → i < length xs → f (get_or xs i d) ≤ g (get_or ys i e)) → sum_by f xs ≤ sum_by g ys
sum_le_at f g [] ys d e same le = omega arith
sum_le_at f g (x ∷ xs) [] d e same le = absurd (omega (arith, same))
sum_le_at f g (x ∷ xs) (y ∷ ys) d e same le =
    omega (arith, sum_by-cons f x xs, sum_by-cons g y ys, le 0 (omega arith), sum_le_at f g xs ys d e (omega (arith, same)) (λ i h. le (suc i) (omega (arith, h))))

-- and a smaller sum where one of them is smaller
pub sum_less_at : {X Y : Type 0} (f : X → ℕ) (g : Y → ℕ) (xs : List X) (ys : List Y) (d : X) (e : Y) (k : ℕ) → length xs ≡ length ys
    → ((i : ℕ) → i < length xs → f (get_or xs i d) ≤ g (get_or ys i e)) → k < length xs → f (get_or xs k d) < g (get_or ys k e) → sum_by f xs < sum_by g ys
sum_less_at f g [] ys d e k same le h less = absurd (omega (arith, h))
sum_less_at f g (x ∷ xs) [] d e k same le h less = absurd (omega (arith, same))
sum_less_at f g (x ∷ xs) (y ∷ ys) d e zero same le h less =
    omega (arith, sum_by-cons f x xs, sum_by-cons g y ys, less, sum_le_at f g xs ys d e (omega (arith, same)) (λ i l. le (suc i) (omega (arith, l))))
sum_less_at f g (x ∷ xs) (y ∷ ys) d e (suc k) same le h less =
    omega (arith, sum_by-cons f x xs, sum_by-cons g y ys, le 0 (omega arith), sum_less_at f g xs ys d e k (omega (arith, same)) (λ i l. le (suc i) (omega (arith, l))) (omega (arith, h)) less)

-- 1 where y is no multiple of d, else 0
abbrev bit : ℕ → ℕ → ℕ
bit d y = cond (is_fractional d y) 1 0

falls_by : (columns d w d' : ℕ) (sets : List (List Cell)) (y m y' : List ℕ) → IsGreatestTake columns sets y d m w y' d' → 1 ≤ d'
    → IsTight columns sets y d m w → fractional_count columns sets y' d' < fractional_count columns sets y d
falls_by columns d w d' sets y m y' t one (inl tight) =
    let i : ℕ = tight.0 in
    let less : bit d' (get_or y' i 0) < bit d (get_or y i 0) =
    less_fractional d w d' (get_or y i 0) (get_or m i 0) (get_or y' i 0) (taken_cell columns d w d' sets y m y' t one i tight.1) (omega (arith, tight.2, t.left)) in
    let cells : count_by (is_fractional d') y' < count_by (is_fractional d) y =
    sum_less_at (bit d') (bit d) y' y 0 0 i t.shape
    (λ j h. no_more_fractional d w d' (get_or y j 0) (get_or m j 0) (get_or y' j 0) (taken_cell columns d w d' sets y m y' t one j (omega (arith, h, t.shape))))
    (omega (arith, tight.1, t.shape)) less in
    let sums : sum_by (λ s. bit d' (sum_at columns y' s)) sets ≤ sum_by (λ s. bit d (sum_at columns y s)) sets =
    sum_le_at (λ s. bit d' (sum_at columns y' s)) (λ s. bit d (sum_at columns y s)) sets sets [] [] refl
    (λ k h. no_more_fractional d w d' (sum_at columns y (get_or sets k [])) (sum_at columns m (get_or sets k [])) (sum_at columns y' (get_or sets k [])) (taken_set columns d w d' sets y m y' t one k [] h)) in
    omega (arith, cells, sums)
falls_by columns d w d' sets y m y' t one (inr tight) =
    let k : ℕ = tight.0 in
    let s : List Cell = tight.1 in
    let short : k < length sets = slice_get_within sets k s tight.2 in
    let at : s ≡ get_or sets k [] = sym (get_or_from_slice_get sets k s [] tight.2) in
    let less : bit d' (sum_at columns y' s) < bit d (sum_at columns y s) =
    less_fractional d w d' (sum_at columns y s) (sum_at columns m s) (sum_at columns y' s) (taken_found columns d w d' sets y m y' t one k s tight.2) (omega (arith, tight.3, t.left)) in
    let cells : count_by (is_fractional d') y' ≤ count_by (is_fractional d) y =
    sum_le_at (bit d') (bit d) y' y 0 0 t.shape
    (λ j h. no_more_fractional d w d' (get_or y j 0) (get_or m j 0) (get_or y' j 0) (taken_cell columns d w d' sets y m y' t one j (omega (arith, h, t.shape)))) in
    let sums : sum_by (λ c. bit d' (sum_at columns y' c)) sets < sum_by (λ c. bit d (sum_at columns y c)) sets =
    sum_less_at (λ c. bit d' (sum_at columns y' c)) (λ c. bit d (sum_at columns y c)) sets sets [] [] k refl
    (λ j h. no_more_fractional d w d' (sum_at columns y (get_or sets j [])) (sum_at columns m (get_or sets j [])) (sum_at columns y' (get_or sets j [])) (taken_set columns d w d' sets y m y' t one j [] h))
    short (subst (λ (c : List Cell). bit d' (sum_at columns y' c) < bit d (sum_at columns y c)) at less) in
    omega (arith, cells, sums)

-- the remainder has fewer fractional cells and sets
pub count_falls : (columns d w d' : ℕ) (sets : List (List Cell)) (y m y' : List ℕ) → IsGreatestTake columns sets y d m w y' d' → 1 ≤ d'
    → fractional_count columns sets y' d' < fractional_count columns sets y d
count_falls columns d w d' sets y m y' t one = falls_by columns d w d' sets y m y' t one (tight_of_greatest columns d w d' sets y m y' t one)
