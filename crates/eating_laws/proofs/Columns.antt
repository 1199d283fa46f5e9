-- What one agent has of the columns of its list.
use Rattle.std.proofs.Common.{◌≡◌, ℕ, suc, zero, ◌+◌, ◌-◌, ◌*◌, ◌<◌, List, [], ◌∷◌, true, false, cond, length, refl, ap, ◌∙◌, arith}
use Rattle.std.specs.Prelude.{min, max, nat_eq, take, sum_by, ◌==◌, ◌||◌, slice_index}
use Rattle.std.specs.List.{AllByRecursion, IsDistinct}
use Rattle.std.specs.Set.{is_member}
use Rattle.std.proofs.Math.Nat.{mul-sub}
use Rattle.std.proofs.lemmas.Bool.{or_left, or_parts, eq-eqb}
use Rattle.std.proofs.lemmas.List.Sums.{sum_by_more}
use Rattle.definitions.specs.Eating.{eaten_along, reached}
use Rattle.definitions.proofs.Members.{number_test, distinct_first, distinct_rest, distinct_take}
use Rattle.definitions.proofs.Sums.{sum_zero, sum_of_sums, single}
use Rattle.eating_laws.proofs.Line.{along_same, along_none, along_all, counted}

-- the columns of a list, added up, are what is eaten of the list's columns
pub sum_columns : (d : ℕ) (full : ℕ → ℕ) (from t : ℕ) (list xs : List ℕ) → IsDistinct nat_eq xs
    → sum_by (λ x. eaten_along d full (λ b. b == x) from t list) xs ≡ eaten_along d full (is_member nat_eq xs) from t list
unfolding eaten_along
sum_columns d full from t [] xs h = sum_zero xs
sum_columns d full from t (a ∷ list) xs h =
    let n = min t (max from (full a)) - min t from in
    let m = max from (full a) in
    let split : sum_by (λ x. cond (a == x) (d * n) 0 + eaten_along d full (λ b. b == x) m t list) xs
    ≡ sum_by (λ x. cond (a == x) (d * n) 0) xs + sum_by (λ x. eaten_along d full (λ b. b == x) m t list) xs =
    sum_of_sums (λ x. cond (a == x) (d * n) 0) (λ x. eaten_along d full (λ b. b == x) m t list) xs in
    let here : sum_by (λ x. cond (a == x) (d * n) 0) xs ≡ cond (is_member nat_eq xs a) (d * n) 0 = single nat_eq number_test (λ _. d * n) a xs h in
    omega (arith, split, here, sum_columns d full m t list xs h)

-- an absent number is none of the list's
pub absent : (a : ℕ) (list : List ℕ) → is_member nat_eq list a ≡ false → AllByRecursion (λ b. nat_eq b a ≡ false) list
absent a [] h = tt
absent a (b ∷ list) h =
    let parts = or_parts (nat_eq a b) (is_member nat_eq list a) h in
    (number_test.turned b a ∙ parts.0, absent a list parts.1)

-- a column off the list
pub column_off : (d : ℕ) (full : ℕ → ℕ) (from t a : ℕ) (list : List ℕ) → is_member nat_eq list a ≡ false → eaten_along d full (λ b. b == a) from t list ≡ 0
column_off d full from t a list h = along_none d full (λ b. b == a) from t list (absent a list h)

all_false : (list : List ℕ) → AllByRecursion (λ b. false ≡ false) list
all_false [] = tt
all_false (a ∷ list) = (refl, all_false list)

without : (a : ℕ) (list ys : List ℕ) → AllByRecursion (λ b. nat_eq b a ≡ false) list → AllByRecursion (λ b. is_member nat_eq (a ∷ ys) b ≡ is_member nat_eq ys b) list
without a [] ys h = tt
without a (b ∷ list) ys h = (ap (λ t. t || is_member nat_eq ys b) h.0, without a list ys h.1)

-- the first columns of a list are eaten as if the list ended there
pub along_front : (d : ℕ) (full : ℕ → ℕ) (from t k : ℕ) (list : List ℕ) → IsDistinct nat_eq list
    → eaten_along d full (is_member nat_eq (take k list)) from t list ≡ eaten_along d full (λ b. true) from t (take k list)
unfolding eaten_along
along_front d full from t zero list h = along_none d full (λ b. false) from t list (all_false list)
along_front d full from t (suc k) [] h = refl
along_front d full from t (suc k) (a ∷ list) h =
    let m = max from (full a) in
    let here : is_member nat_eq (a ∷ take k list) a ≡ true = or_left (nat_eq a a) (is_member nat_eq (take k list) a) (eq-eqb a a refl) in
    let head = ap (λ b. counted b d (min t m - min t from)) here in
    let rest : eaten_along d full (is_member nat_eq (a ∷ take k list)) m t list ≡ eaten_along d full (is_member nat_eq (take k list)) m t list =
    along_same d full (is_member nat_eq (a ∷ take k list)) (is_member nat_eq (take k list)) m t list (without a list (take k list) (absent a list (distinct_first nat_eq a list h))) in
    omega (arith, head, rest, along_front d full m t k list (distinct_rest nat_eq a list h))

-- the first k columns of a list together
pub front_sum : (d : ℕ) (full : ℕ → ℕ) (t k : ℕ) (list : List ℕ) → IsDistinct nat_eq list
    → sum_by (λ x. eaten_along d full (λ b. b == x) 0 t list) (take k list) ≡ d * min t (reached full 0 (take k list))
front_sum d full t k list h =
    let last : min t (reached full 0 (take k list)) - min t 0 ≡ min t (reached full 0 (take k list)) = omega arith in
    sum_columns d full 0 t list (take k list) (distinct_take nat_eq k list h) ∙ along_front d full 0 t k list h ∙ along_all d full 0 t (take k list) ∙ ap (λ n. d * n) last

-- the column at one place
pub at_place : (d : ℕ) (full : ℕ → ℕ) (t k : ℕ) (list : List ℕ) → IsDistinct nat_eq list → k < length list
    → eaten_along d full (λ b. b == slice_index list k) 0 t list ≡ d * (min t (reached full 0 (take (k + 1) list)) - min t (reached full 0 (take k list)))
at_place d full t k list h l =
    let with = front_sum d full t (k + 1) list h in
    let before = front_sum d full t k list h in
    let more = sum_by_more (λ x. eaten_along d full (λ b. b == x) 0 t list) list k 0 l in
    omega (arith, with, before, more, mul-sub d (min t (reached full 0 (take (k + 1) list))) (min t (reached full 0 (take k list))))
