-- Ranges of numbers: which numbers they have, and that none is there twice.
use Rattle.std.proofs.Common.{◌≡◌, ℕ, suc, zero, ◌+◌, ◌<◌, ◌≤◌, true, false, refl, inl, inr, arith}
use Rattle.std.specs.Prelude.{nat_eq}
use Rattle.std.specs.List.{IsDistinct, range_with_len}
use Rattle.std.specs.Set.{is_member}
use Rattle.std.proofs.lemmas.Bool.{both_ways, or_cases, or_left, or_right, or_from, eqb-true, eq-eqb, ne_eqb, cases_order}
use Rattle.definitions.proofs.Members.{distinct_none, distinct_more}

-- each number of a range is a member of it
pub member_of_range : (s n x : ℕ) → s ≤ x → x < s + n → is_member nat_eq (range_with_len s n) x ≡ true
member_of_range s zero x p q = absurd (omega arith)
member_of_range s (suc n) x p q = elim (cases_order x s) [
  | inl same ↦ or_left (nat_eq x s) (is_member nat_eq (range_with_len (s + 1) n) x) (eq-eqb x s same)
  | inr (inl less) ↦ absurd (omega arith)
  | inr (inr more) ↦ or_right (nat_eq x s) (is_member nat_eq (range_with_len (s + 1) n) x) (member_of_range (s + 1) n x (omega arith) (omega arith))
]

-- a member of a range lies in it
pub range_of_member : (s n x : ℕ) → is_member nat_eq (range_with_len s n) x ≡ true → (s ≤ x) × (x < s + n)
range_of_member s zero x m = absurd (both_ways false refl m)
range_of_member s (suc n) x m = elim (or_cases (nat_eq x s) (is_member nat_eq (range_with_len (s + 1) n) x) m) [
  | inl e ↦ (let same : x ≡ s = eqb-true x s e in (omega (arith, same), omega (arith, same)))
  | inr later ↦ (let r = range_of_member (s + 1) n x later in (omega (arith, r.0), omega (arith, r.1)))
]

-- a number before a range isn't in it
pub below_range : (s n x : ℕ) → x < s → is_member nat_eq (range_with_len s n) x ≡ false
below_range s zero x p = refl
below_range s (suc n) x p =
    or_from (nat_eq x s) (is_member nat_eq (range_with_len (s + 1) n) x) (ne_eqb x s (λ e. absurd (omega arith))) (below_range (s + 1) n x (omega arith))

-- a range has no repeats
pub distinct_range : (s n : ℕ) → IsDistinct nat_eq (range_with_len s n)
distinct_range s zero = distinct_none nat_eq
distinct_range s (suc n) = distinct_more nat_eq s (range_with_len (s + 1) n) (below_range (s + 1) n s (omega arith)) (distinct_range (s + 1) n)
