-- Lists with the same members and no repeats: equal sums, equal least numbers; members of a filter.
use Rattle.std.proofs.Common.{◌≡◌, ℕ, ◌+◌, ◌≤◌, ◌∙◌, List, [], ◌∷◌, Bool, true, false, cond, refl, sym, ap, inl, inr, arith}
use Rattle.std.specs.Prelude.{nat_eq, min, filter, sum_by}
use Rattle.std.specs.List.{IsDistinct}
use Rattle.std.specs.Set.{is_member}
use Rattle.std.proofs.lemmas.Bool.{both_ways, or_cases, or_left, or_right, eqb-true}
use Rattle.std.proofs.lemmas.List.Sums.{sum_by-cons}
use Rattle.definitions.proofs.Members.{IsEqualityTest, number_test, all_are_members}
use Rattle.definitions.proofs.Sums.{sum_same, sum_same_all, restrict}
use Rattle.side_laws.specs.Sums.{least_over}

-- two tests that follow from one another are one
pub same_tests : (a b : Bool) → (a ≡ true → b ≡ true) → (b ≡ true → a ≡ true) → a ≡ b
same_tests true b f g = sym (f refl)
same_tests false true f g = g refl
same_tests false false f g = refl

cond_twice : (b : Bool) (v : ℕ) → cond b (cond b v 0) 0 ≡ cond b v 0
cond_twice true v = refl
cond_twice false v = refl

cond_within : (b m : Bool) (v : ℕ) → (b ≡ true → m ≡ true) → cond b (cond m v 0) 0 ≡ cond b v 0
cond_within true m v h = ap (λ t. cond t v 0) (h refl)
cond_within false m v h = refl

module _ {X : Type 0} (eq : X → X → Bool) (t : IsEqualityTest eq) where
  -- a sum over a list without repeats, taken over places that hold it
  pub sum_within : (f : X → ℕ) (xs places : List X) → IsDistinct eq xs → IsDistinct eq places → ((x : X) → is_member eq xs x ≡ true → is_member eq places x ≡ true)
      → sum_by f xs ≡ sum_by (λ q. cond (is_member eq xs q) (f q) 0) places
  sum_within f xs places dx dp inside =
      let g : X → ℕ = λ x. cond (is_member eq places x) (f x) 0 in
      sum_same_all (λ x. is_member eq xs x ≡ true) f g xs (λ x m. sym (ap (λ b. cond b (f x) 0) (inside x m))) (all_are_members eq t xs)
      ∙ restrict eq t g xs places dx dp (λ x. cond_twice (is_member eq places x) (f x))
      ∙ sum_same (λ q. cond (is_member eq xs q) (g q) 0) (λ q. cond (is_member eq xs q) (f q) 0) places (λ q. cond_within (is_member eq xs q) (is_member eq places q) (f q) (inside q))

  -- two lists with the same members and no repeats have one sum
  pub sum_of_members : (f : X → ℕ) (xs ys : List X) → IsDistinct eq xs → IsDistinct eq ys → ((x : X) → is_member eq xs x ≡ true → is_member eq ys x ≡ true)
      → ((x : X) → is_member eq ys x ≡ true → is_member eq xs x ≡ true) → sum_by f xs ≡ sum_by f ys
  sum_of_members f xs ys dx dy there back =
      sum_within f xs ys dx dy there
      ∙ sum_same_all (λ q. is_member eq ys q ≡ true) (λ q. cond (is_member eq xs q) (f q) 0) f ys (λ q m. ap (λ b. cond b (f q) 0) (back q m)) (all_are_members eq t ys)

-- the sum over what passes
pub sum_of_filter : {X : Type 0} (f : X → ℕ) (p : X → Bool) (xs : List X) → sum_by f (filter p xs) ≡ sum_by (λ x. cond (p x) (f x) 0) xs
sum_of_filter f p [] = refl
sum_of_filter f p (x ∷ xs) = step (p x) ∙ (let first = sum_by-cons (λ y. cond (p y) (f y) 0) x xs in let rest = sum_of_filter f p xs in omega (arith, first, rest))
  where
    step : (b : Bool) → sum_by f (cond b (x ∷ filter p xs) (filter p xs)) ≡ cond b (f x) 0 + sum_by f (filter p xs)
    step true = sum_by-cons f x (filter p xs)
    step false = omega arith

-- the least is at most the number that it starts from
pub least_start : (v : ℕ → ℕ) (most : ℕ) (xs : List ℕ) → least_over most v xs ≤ most
least_start v most [] = omega arith
least_start v most (x ∷ xs) = (let more = least_start v (min most (v x)) xs in omega (arith, more))

-- and at most that of each member
pub least_member : (v : ℕ → ℕ) (most : ℕ) (xs : List ℕ) (u : ℕ) → is_member nat_eq xs u ≡ true → least_over most v xs ≤ v u
least_member v most [] u m = absurd (both_ways false refl m)
least_member v most (x ∷ xs) u m = elim (or_cases (nat_eq u x) (is_member nat_eq xs u) m) [
  | inl e ↦ (let same = ap v (eqb-true u x e) in let more = least_start v (min most (v x)) xs in omega (arith, same, more))
  | inr later ↦ least_member v (min most (v x)) xs u later
]

-- what is at most each of these is at most the least
pub least_from : (v : ℕ → ℕ) (most m : ℕ) (xs : List ℕ) → m ≤ most → ((u : ℕ) → is_member nat_eq xs u ≡ true → m ≤ v u) → m ≤ least_over most v xs
least_from v most m [] l h = l
least_from v most m (x ∷ xs) l h =
    least_from v (min most (v x)) m xs (let here = h x (or_left (nat_eq x x) (is_member nat_eq xs x) (number_test.self x)) in omega (arith, here, l))
    (λ u k. h u (or_right (nat_eq u x) (is_member nat_eq xs u) k))

-- two lists with the same members have one least number
pub least_of_members : (v : ℕ → ℕ) (most : ℕ) (xs ys : List ℕ) → ((u : ℕ) → is_member nat_eq xs u ≡ true → is_member nat_eq ys u ≡ true)
    → ((u : ℕ) → is_member nat_eq ys u ≡ true → is_member nat_eq xs u ≡ true) → least_over most v xs ≡ least_over most v ys
least_of_members v most xs ys there back =
    let down = least_from v most (least_over most v xs) ys (least_start v most xs) (λ u m. least_member v most xs u (back u m)) in
    let up = least_from v most (least_over most v ys) xs (least_start v most ys) (λ u m. least_member v most ys u (there u m)) in
    omega (arith, down, up)
