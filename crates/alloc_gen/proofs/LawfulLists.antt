-- Made lists are lawful: each column once, and `none` last.
use Rattle.std.proofs.Common.{◌≡◌, ℕ, zero, suc, ◌+◌, ◌-◌, ◌*◌, ◌%◌, ◌<◌, ◌≤◌, ◌++◌, ◌∷◌, [], List, All, nat_eq, length, take, get_or, ap, refl, ◌∙◌, arith}
use Rattle.std.specs.Prelude.{slice_get}
use Rattle.std.specs.Cmp.{nat_eq_equiv}
use Rattle.std.specs.List.{range_with_len, swap, IsDistinct}
use Rattle.std.specs.List.Sorted.{IsPermutation}
use Rattle.std.proofs.lemmas.Bool.{ne_eqb}
use Rattle.std.proofs.lemmas.List.{length_push}
use Rattle.std.proofs.lemmas.List.Elements.{All-map, All-push, All-take}
use Rattle.std.proofs.lemmas.List.Folds.{list_any_none}
use Rattle.std.proofs.lemmas.List.FromFn.{length-range_with_len, get_or-range_with_len, length-map-range_with_len}
use Rattle.std.proofs.lemmas.List.Sorted.{IsPermutation-refl, IsPermutation-swap, IsPermutation-trans, All-permutation}
use Rattle.std.proofs.lemmas.Map.Keys.{IsDistinct-IsPermutation, IsDistinct-push}
use Rattle.definitions.specs.Values.{IsListUpTo}
use Rattle.definitions.proofs.Lists.{second_at}
use Rattle.definitions.proofs.Members.{distinct_take, number_test}
use Rattle.definitions.proofs.Ranges.{distinct_range}
use Rattle.alloc_gen.specs.MadeLists.{shuffled, list_size, made_list, made_lists}
use Rattle.alloc_gen.specs.Words.{words_from}
use Rattle.alloc_gen.proofs.Shuffles.{length-shuffled}

-- exchanges permute
shuffled_permutes : (word : ℕ → ℕ) (m j : ℕ) → j ≤ m → IsPermutation (range_with_len 0 m) (shuffled word m j)
unfolding shuffled
shuffled_permutes word m zero h = IsPermutation-refl (range_with_len 0 m)
shuffled_permutes word m (suc j) h =
    let many = length-shuffled word m j in
    let here : j < length (shuffled word m j) = omega arith in
    let there : j + word j % (m - j) < length (shuffled word m j) = omega arith in
    IsPermutation-trans (range_with_len 0 m) (shuffled word m j) (swap (shuffled word m j) j (j + word j % (m - j)))
    (shuffled_permutes word m j (omega arith))
    (IsPermutation-swap (shuffled word m j) (swap (shuffled word m j) j (j + word j % (m - j))) j (j + word j % (m - j)) here there refl)

shuffled_distinct : (word : ℕ → ℕ) (m j : ℕ) → j ≤ m → IsDistinct nat_eq (shuffled word m j)
shuffled_distinct word m j h = IsDistinct-IsPermutation nat_eq number_test.turned (range_with_len 0 m) (shuffled word m j) (shuffled_permutes word m j h) (distinct_range 0 m)

-- the numbers of a range from 0 are below its end
pub range_below : (n : ℕ) → All (λ i. i < n) (range_with_len 0 n)
range_below n k d l = let at = get_or-range_with_len 0 n k d (omega (arith, l, length-range_with_len 0 n)) in omega (arith, at, l, length-range_with_len 0 n)

shuffled_below : (word : ℕ → ℕ) (m j : ℕ) → j ≤ m → All (λ a. a < m) (shuffled word m j)
shuffled_below word m j h = All-permutation (λ a. a < m) (range_with_len 0 m) (shuffled word m j) (shuffled_permutes word m j h) (range_below m)

-- a list of distinct columns below that of `none`, and then `none`
ended_list : (none : ℕ) (front : List ℕ) → IsDistinct nat_eq front → All (λ a. a < none) front → IsListUpTo none (front ++ none ∷ [])
ended_list none front apart below = record {
  apart = IsDistinct-push nat_eq_equiv front none apart (list_any_none (nat_eq none) front (λ k d l. ne_eqb none (get_or front k d) (λ e. (let b = below k d l in absurd (omega (arith, b, e))))));
  known = All-push (λ a. a ≤ none) front none (λ k d l. (let b = below k d l in omega (arith, b))) (omega arith);
  last = (let place : length (front ++ none ∷ []) - 1 ≡ length front + 0 = omega (arith, length_push front none) in ap (slice_get (front ++ none ∷ [])) place ∙ second_at front (none ∷ []) 0);
}

made_list_lawful : (word : ℕ → ℕ) (m : ℕ) → IsListUpTo m (made_list word m)
unfolding made_list
made_list_lawful word m =
    let size : list_size m ≤ m = omega arith in
    let order = shuffled word m (list_size m) in
    ended_list m (take (list_size m) order) (distinct_take nat_eq (list_size m) order (shuffled_distinct word m (list_size m) size)) (All-take (λ a. a < m) (list_size m) order (shuffled_below word m (list_size m) size))

pub made_lists_lawful : (word : ℕ → ℕ) (n m : ℕ) → All (IsListUpTo m) (made_lists word n m)
unfolding made_lists
made_lists_lawful word n m =
    All-map (IsListUpTo m) (λ i. made_list (words_from word (i * list_size m)) m) (range_with_len 0 n) (λ k d l. made_list_lawful (words_from word (get_or (range_with_len 0 n) k d * list_size m)) m)

pub length-made_lists : (word : ℕ → ℕ) (n m : ℕ) → length (made_lists word n m) ≡ n
unfolding made_lists
length-made_lists word n m = length-map-range_with_len (λ i. made_list (words_from word (i * list_size m)) m) 0 n
