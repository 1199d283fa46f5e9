-- The first fault: of records that are each checked against those before them, of tests in order, of places in order.
-- The project's own.
use Rattle.std.specs.Prelude.{◌≡◌, ◌<◌, ◌≤◌, ◌+◌, ◌-◌, ◌⊎◌, ◌↔◌, ℕ, zero, suc, Bool, List, [], ◌∷◌, ◌++◌, Option, Some, None, option_map, length, take, slice_get, if◌then◌else◌}
use Rattle.std.specs.Option.{option_or}

-- the first finding of `look` at so many places from `start` on
abbrev pub first_in : {F : Type 0} → (ℕ → Option F) → ℕ → ℕ → Option F
first_in look start zero = None
first_in look start (suc count) = option_or (look start) (first_in look (start + 1) count)

-- the number of the record after these, from 1, and what is wrong with it
abbrev pub numbered : {R K : Type 0} → List R → Option K → Option (ℕ × K)
numbered before k = option_map (λ k. (length before + 1, k)) k

-- the first fault of the records that come after those before: each is checked against all before it, and the end against all
unfoldable pub fault_after : {R K : Type 0} → (List R → R → Option K) → (List R → Option K) → List R → List R → Option (ℕ × K)
fault_after check at_end before [] = numbered before (at_end before)
fault_after check at_end before (r ∷ rs) = option_or (numbered before (check before r)) (fault_after check at_end (before ++ r ∷ []) rs)

-- each of the first n records is lawful
abbrev pub AreLawful : {R K : Type 0} → (List R → R → Option K) → List R → ℕ → Type 0
AreLawful {R} check rows n = (j : ℕ) (q : R) → j < n → slice_get rows j ≡ Some q → check (take j rows) q ≡ None

-- record n is the first unlawful one, and k its fault; or all are lawful, n is one past the last, and k is the fault at the end
abbrev pub IsFirstFault : {R K : Type 0} → (List R → R → Option K) → (List R → Option K) → List R → ℕ → K → Type 0
IsFirstFault {R} check at_end rows n k =
    ((i : ℕ) × (r : R) × (n ≡ i + 1) × (slice_get rows i ≡ Some r) × (check (take i rows) r ≡ Some k) × AreLawful check rows i)
    ⊎ ((n ≡ length rows + 1) × (at_end rows ≡ Some k) × AreLawful check rows (length rows))

-- the fault of the first test that fails, or what comes after the tests
abbrev pub tests : {K : Type 0} → List (Bool × K) → Option K → Option K
tests [] after = after
tests (t ∷ ts) after = if t.0 then tests ts after else Some t.1

-- the first fault of fields, each of which is checked against those before it
abbrev pub first_among : {F K : Type 0} → (List F → F → Option K) → List F → Option K
first_among check fields = option_map (λ f. f.1) (fault_after check (λ _. None) [] fields)

-- `look` finds nothing at these places
abbrev pub NoFinding : {F : Type 0} → (ℕ → Option F) → ℕ → ℕ → Type 0
NoFinding look start count = (k : ℕ) → start ≤ k → k < start + count → look k ≡ None

-- f is found at one of these places, and nothing at those before it
abbrev pub IsFirstFinding : {F : Type 0} → (ℕ → Option F) → ℕ → ℕ → F → Type 0
IsFirstFinding look start count f =
    (k : ℕ) × (start ≤ k) × (k < start + count) × (look k ≡ Some f) × NoFinding look start (k - start)

-- `first_in` gives the first finding, and nothing exactly where there is none
abbrev pub FirstInLaw : Type 0 → Type 0
FirstInLaw F = (look : ℕ → Option F) (start count : ℕ)
    → ((first_in look start count ≡ None) ↔ NoFinding look start count)
    × ((f : F) → (first_in look start count ≡ Some f) ↔ IsFirstFinding look start count f)

-- the fault that is found from the left is the first one
abbrev pub FirstFaultLaw : Type 0 → Type 0 → Type 0
FirstFaultLaw R K = (check : List R → R → Option K) (at_end : List R → Option K) (rows : List R) (n : ℕ) (k : K)
    → (fault_after check at_end [] rows ≡ Some (n, k)) ↔ IsFirstFault check at_end rows n k
