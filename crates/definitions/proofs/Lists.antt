-- What holds of each element of lists that are made of lists, and filters that keep all or nothing.
use Rattle.std.proofs.Common.{◌≡◌, ℕ, suc, zero, ◌+◌, ◌<◌, ◌≤◌, List, [], ◌∷◌, ◌++◌, Bool, true, false, map, filter, length, ◌∙◌, refl, ap, subst, arith, Some, All}
use Rattle.std.specs.Prelude.{slice_get}
use Rattle.std.specs.List.{AllByRecursion, range_with_len, zip}
use Rattle.std.proofs.lemmas.Option.{same_Some}
use Rattle.std.proofs.lemmas.List.Elements.{All-head, All-tail}

-- what holds of the pairs by index holds of each
pub each_pair : {A B : Type 0} (P : A × B → Type 0) (xs : List A) (ys : List B)
    → ((k : ℕ) (a : A) (b : B) → slice_get xs k ≡ Some a → slice_get ys k ≡ Some b → P (a, b)) → AllByRecursion P (zip xs ys)
each_pair P [] ys h = tt
each_pair P (a ∷ xs) [] h = tt
each_pair P (a ∷ xs) (b ∷ ys) h = (h 0 a b refl refl, each_pair P xs ys (λ k. h (suc k)))

-- what holds of each holds at an index
pub each_at : {X : Type 0} (P : X → Type 0) (xs : List X) (k : ℕ) (x : X) → AllByRecursion P xs → slice_get xs k ≡ Some x → P x
each_at P [] k x a e = absurd (cc)
each_at P (y ∷ ys) zero x a e = subst P (same_Some y x e) a.0
each_at P (y ∷ ys) (suc k) x a e = each_at P ys k x a.1 e

-- what holds of each value of a function
pub each_mapped : {X Y : Type 0} (P : Y → Type 0) (f : X → Y) (xs : List X) → AllByRecursion P (map f xs) → AllByRecursion (λ x. P (f x)) xs
each_mapped P f [] a = tt
each_mapped P f (x ∷ xs) a = (a.0, each_mapped P f xs a.1)

-- what holds of each of two lists end to end holds of each of the first
pub each_of_front : {X : Type 0} (P : X → Type 0) (xs ys : List X) → AllByRecursion P (xs ++ ys) → AllByRecursion P xs
each_of_front P [] ys a = tt
each_of_front P (x ∷ xs) ys a = (a.0, each_of_front P xs ys a.1)

-- and of each of the second
pub each_of_rest : {X : Type 0} (P : X → Type 0) (xs ys : List X) → AllByRecursion P (xs ++ ys) → AllByRecursion P ys
each_of_rest P [] ys a = a
each_of_rest P (x ∷ xs) ys a = each_of_rest P xs ys a.1

-- an element of the second of two lists end to end
pub second_at : {X : Type 0} (xs ys : List X) (k : ℕ) → slice_get (xs ++ ys) (length xs + k) ≡ slice_get ys k
second_at [] ys k = ap (slice_get ys) (let plain : 0 + k ≡ k = omega arith in plain)
second_at (x ∷ xs) ys k = ap (slice_get (x ∷ xs ++ ys)) (let next : suc (length xs) + k ≡ suc (length xs + k) = omega arith in next) ∙ second_at xs ys k

-- the numbers of a range are below its end
pub each_below : (P : ℕ → Type 0) (s n : ℕ) → ((i : ℕ) → s ≤ i → i < s + n → P i) → AllByRecursion P (range_with_len s n)
each_below P s zero h = tt
each_below P s (suc n) h = (h s (omega arith) (omega arith), each_below P (s + 1) n (λ i l k. h i (omega arith) (omega arith)))

-- a filter that nothing passes keeps nothing
pub filter_none : {X : Type 0} (p : X → Bool) (xs : List X) → All (λ x. p x ≡ false) xs → filter p xs ≡ []
filter_none p [] none = refl
filter_none p (x ∷ xs) none = rw (All-head (λ y. p y ≡ false) x xs none) (filter_none p xs (All-tail (λ y. p y ≡ false) x xs none))

-- and one that all pass keeps all
pub filter_all : {X : Type 0} (p : X → Bool) (xs : List X) → All (λ x. p x ≡ true) xs → filter p xs ≡ xs
filter_all p [] all = refl
filter_all p (x ∷ xs) all = rw (All-head (λ y. p y ≡ true) x xs all) (ap (λ ys. x ∷ ys) (filter_all p xs (All-tail (λ y. p y ≡ true) x xs all)))
