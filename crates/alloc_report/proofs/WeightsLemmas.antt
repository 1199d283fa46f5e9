-- The greatest and the least of some numbers are among them, and bound them.
use Rattle.std.proofs.Common.{◌≡◌, ℕ, suc, ◌<◌, ◌≤◌, ◌⊎◌, List, [], ◌∷◌, length, refl, inl, inr, arith, All}
use Rattle.std.specs.Prelude.{Contains, fold, max, min}
use Rattle.std.proofs.lemmas.Bool.{cases_lt}
use Rattle.std.proofs.lemmas.List.Elements.{All-cons, All-nil}
use Rattle.alloc_report.specs.Laws.{IsGreatest, IsLeast}
use Rattle.alloc_report.specs.Summary.{greatest_of, least_of}

-- what is the first of the numbers, or among those after it
first_among : (n r : ℕ) (numbers : List ℕ) → r ≡ n → Contains (n ∷ numbers) r
first_among n r numbers same = (0, omega arith, omega arith)

later_among : (n r : ℕ) (numbers : List ℕ) → Contains numbers r → Contains (n ∷ numbers) r
later_among n r numbers (k, within, here) = (suc k, omega arith, here)

-- a running greatest bounds what it ran over, and it is one of them or what it began with
greatest_bounds : (a : ℕ) (numbers : List ℕ) → (a ≤ fold max a numbers) × All (λ m. m ≤ fold max a numbers) numbers
greatest_bounds a [] = (omega arith, All-nil (λ m. m ≤ a))
greatest_bounds a (n ∷ numbers) =
    let rest = greatest_bounds (max a n) numbers in
    (omega (arith, rest.0), All-cons (λ m. m ≤ fold max (max a n) numbers) n numbers (omega (arith, rest.0)) rest.1)

greatest_reached : (a : ℕ) (numbers : List ℕ) → (fold max a numbers ≡ a) ⊎ Contains numbers (fold max a numbers)
greatest_reached a [] = inl refl
greatest_reached a (n ∷ numbers) = elim (greatest_reached (max a n) numbers) [
  | inl same ↦ elim (cases_lt a n) [
    | inl less ↦ inr (first_among n (fold max (max a n) numbers) numbers (omega (arith, same)))
    | inr more ↦ inl (omega (arith, same))
  ]
  | inr among ↦ inr (later_among n (fold max (max a n) numbers) numbers among)
]

pub greatest : (numbers : List ℕ) → 0 < length numbers → IsGreatest (greatest_of numbers) numbers
greatest [] some = absurd (omega arith)
greatest (n ∷ numbers) some =
    let bounds = greatest_bounds (max 0 n) numbers in
    record {
      among = elim (greatest_reached (max 0 n) numbers) [
        | inl same ↦ first_among n (fold max (max 0 n) numbers) numbers (omega (arith, same))
        | inr among ↦ later_among n (fold max (max 0 n) numbers) numbers among
      ];
      bound = (greatest_bounds 0 (n ∷ numbers)).1;
    }

-- the same of a running least
least_bounds : (a : ℕ) (numbers : List ℕ) → (fold min a numbers ≤ a) × All (λ m. fold min a numbers ≤ m) numbers
least_bounds a [] = (omega arith, All-nil (λ m. a ≤ m))
least_bounds a (n ∷ numbers) =
    let rest = least_bounds (min a n) numbers in
    (omega (arith, rest.0), All-cons (λ m. fold min (min a n) numbers ≤ m) n numbers (omega (arith, rest.0)) rest.1)

least_reached : (a : ℕ) (numbers : List ℕ) → (fold min a numbers ≡ a) ⊎ Contains numbers (fold min a numbers)
least_reached a [] = inl refl
least_reached a (n ∷ numbers) = elim (least_reached (min a n) numbers) [
  | inl same ↦ elim (cases_lt a n) [
    | inl less ↦ inl (omega (arith, same))
    | inr more ↦ inr (first_among n (fold min (min a n) numbers) numbers (omega (arith, same)))
  ]
  | inr among ↦ inr (later_among n (fold min (min a n) numbers) numbers among)
]

pub least : (numbers : List ℕ) → 0 < length numbers → IsLeast (least_of numbers) numbers
least [] some = absurd (omega arith)
least (n ∷ numbers) some =
    let bounds = least_bounds n numbers in
    record {
      among = elim (least_reached n numbers) [
        | inl same ↦ first_among n (fold min n numbers) numbers same
        | inr among ↦ later_among n (fold min n numbers) numbers among
      ];
      bound = All-cons (λ m. fold min n numbers ≤ m) n numbers bounds.0 bounds.1;
    }
