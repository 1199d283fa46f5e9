-- What the cells before a place give.
use Rattle.std.proofs.Common.{◌≡◌, ℕ, suc, zero, ◌+◌, ◌*◌, ◌/◌, ◌%◌, ◌<◌, List, [], ◌∷◌, ◌++◌, take, get_or, refl, ◌∙◌, ap, sym, arith, Bool, true, false, Some, append_assoc, append-nil}
use Rattle.std.specs.Prelude.{◌==◌, if◌then◌else◌}
use Rattle.std.proofs.lemmas.List.{take_all}
use Rattle.definitions.specs.declared.Give.{Give}
use Rattle.definitions.specs.Gives.{gives_along, gives_of}
use Rattle.definitions.specs.Peelings.{PeelerValue}
use Rattle.peeling.specs.Peelers.{IsPeeler, AreGivesBefore}
use Rattle.peeling.proofs.Given.{shown_shape}

-- what a place gives
abbrev given_at : ℕ → ℕ → ℕ → List Give
given_at columns at n = if n == 0 then [] else (record { agent = at / columns; object = at % columns; count = n }) ∷ []

first_then : (columns at n : ℕ) (ns : List ℕ) → gives_along columns at (n ∷ ns) ≡ given_at columns at n ++ gives_along columns (suc at) ns
unfolding gives_along
first_then columns at n ns = by_test (n == 0)
  where
    by_test : (b : Bool) → (if b then gives_along columns (suc at) ns else (record { agent = at / columns; object = at % columns; count = n }) ∷ gives_along columns (suc at) ns)
        ≡ (if b then [] else (record { agent = at / columns; object = at % columns; count = n }) ∷ []) ++ gives_along columns (suc at) ns
    by_test true = refl
    by_test false = refl

none_along : (columns at : ℕ) → gives_along columns at [] ≡ []
unfolding gives_along
none_along columns at = refl

-- one place more
along_more : (columns at k : ℕ) (m : List ℕ) → gives_along columns at (take (suc k) m) ≡ gives_along columns at (take k m) ++ given_at columns (at + k) (get_or m k 0)
along_more columns at zero [] = sym (append-nil (gives_along columns at []))
along_more columns at (suc k) [] = sym (append-nil (gives_along columns at []))
along_more columns at zero (n ∷ ns) =
    let place : at ≡ at + 0 = omega arith in
    first_then columns at n []
    ∙ ap (λ gs. given_at columns at n ++ gs) (none_along columns (suc at))
    ∙ append-nil (given_at columns at n)
    ∙ ap (λ k. given_at columns k n) place
    ∙ sym (ap (λ gs. gs ++ given_at columns (at + 0) n) (none_along columns at))
along_more columns at (suc k) (n ∷ ns) =
    let place : suc at + k ≡ at + suc k = omega arith in
    first_then columns at n (take (suc k) ns)
    ∙ ap (λ gs. given_at columns at n ++ gs) (along_more columns (suc at) k ns)
    ∙ sym (append_assoc (given_at columns at n) (gives_along columns (suc at) (take k ns)) (given_at columns (suc at + k) (get_or ns k 0)))
    ∙ ap (λ gs. gs ++ given_at columns (suc at + k) (get_or ns k 0)) (sym (first_then columns at n (take k ns)))
    ∙ ap (λ j. gives_along columns at (n ∷ take k ns) ++ given_at columns j (get_or ns k 0)) place

row_of : (columns agent object : ℕ) → object < columns → (agent * columns + object) / columns ≡ agent
row_of columns agent object h = grind arith

column_of : (columns agent object : ℕ) → object < columns → (agent * columns + object) % columns ≡ object
column_of columns agent object h = grind arith

-- the gives before the next cell of a row
pub gives_more : (columns agent object count : ℕ) (m : List ℕ) (old new : List Give) → object < columns → count ≡ get_or m (agent * columns + object) 0
    → old ≡ gives_along columns 0 (take (agent * columns + object) m)
    → new ≡ old ++ (if count == 0 then [] else (record { agent = agent; object = object; count = count }) ∷ [])
    → new ≡ gives_along columns 0 (take (agent * columns + (object + 1)) m)
gives_more columns agent object count m old new h found before added =
    let at : ℕ = agent * columns + object in
    let made : ℕ → ℕ → ℕ → List Give = λ i a n. if n == 0 then [] else (record { agent = i; object = a; count = n }) ∷ [] in
    let here : made agent object count ≡ given_at columns at (get_or m at 0) =
    sym (ap (λ i. made i (at % columns) (get_or m at 0)) (row_of columns agent object h) ∙ ap (λ a. made agent a (get_or m at 0)) (column_of columns agent object h) ∙ ap (made agent object) (sym found)) in
    let start : at ≡ 0 + at = omega arith in
    let next : suc at ≡ agent * columns + (object + 1) = omega arith in
    added
    ∙ ap (λ gs. gs ++ made agent object count) before
    ∙ ap (λ gs. gives_along columns 0 (take at m) ++ gs) (here ∙ ap (λ k. given_at columns k (get_or m at 0)) start)
    ∙ sym (along_more columns 0 at m)
    ∙ ap (λ k. gives_along columns 0 (take k m)) next

-- the gives before the first row
pub gives_nothing : (v : PeelerValue) (gives : List Give) → gives ≡ [] → AreGivesBefore v (0 * v.columns) gives
gives_nothing v gives none m e =
    let first : 0 ≡ 0 * v.columns = omega arith in
    none ∙ sym (none_along v.columns 0) ∙ ap (λ k. gives_along v.columns 0 (take k m)) first

-- the gives before the end are all
pub gives_all : (v : PeelerValue) (at : ℕ) (gives : List Give) → IsPeeler v → at ≡ v.agents * v.columns → AreGivesBefore v at gives
    → (m : List ℕ) → v.piece ≡ Some m → gives ≡ gives_of v.columns m
gives_all v at gives lawful end before m e =
    before m e ∙ ap (gives_along v.columns 0) (take_all at m (omega (arith, end, (shown_shape v m lawful e).0)))
