-- A matrix meets quotas, or it has one first set that breaks them.
use Rattle.std.proofs.Common.{◌≡◌, ◌⊎◌, ◌*◌, ◌-◌, ◌<◌, ◌≤◌, ℕ, inl, inr, Some, Result, Ok, Err, refl, sym, ◌∙◌, ap, subst, arith}
use Rattle.std.specs.Prelude.{slice_get}
use Rattle.std.proofs.lemmas.Bool.{cases_order}
use Rattle.std.proofs.lemmas.Option.{get_or_from_slice_get, slice_get_within}
use Rattle.definitions.specs.declared.Infeasible.{Infeasible}
use Rattle.definitions.specs.Sets.{FamilyValue, ScaledValue, SetValue, IsFeasible, IsFirstInfeasible, IsSetFeasible, set_sum, units_of}
use Rattle.alloc_readings.specs.Quotas.{MeetsOrNot}

feasible_at : (f : FamilyValue) (x : ScaledValue) (k : ℕ) (s : SetValue) → IsFeasible f x → slice_get f.sets k ≡ Some s → IsSetFeasible x s
feasible_at f x k s feasible found = subst (IsSetFeasible x) (get_or_from_slice_get f.sets k s s found) (feasible k s (slice_get_within f.sets k s found))

-- a set within its quotas doesn't break them
unbroken : (sum low high : ℕ) → (sum < low) ⊎ (high < sum) → low ≤ sum → sum ≤ high → ⊥
unbroken sum low high (inl below) least most = absurd (omega arith)
unbroken sum low high (inr above) least most = absurd (omega arith)

breaks_there : (f : FamilyValue) (x : ScaledValue) (number total : ℕ) (h : IsFirstInfeasible f x number total) → IsSetFeasible x h.failing → ⊥
breaks_there f x number total h fits =
    let sum : total ≡ set_sum (units_of x) h.failing.cells = h.is_sum in
    unbroken total (h.failing.floor * x.denominator) (h.failing.ceiling * x.denominator) h.breaks
    (subst (λ n. h.failing.floor * x.denominator ≤ n) (sym sum) fits.0) (subst (λ n. n ≤ h.failing.ceiling * x.denominator) (sym sum) fits.1)

-- where a set breaks its quotas the matrix isn't feasible
pub not_feasible : (f : FamilyValue) (x : ScaledValue) (number total : ℕ) → IsFirstInfeasible f x number total → IsFeasible f x → ⊥
not_feasible f x number total h feasible = breaks_there f x number total h (feasible_at f x (number - 1) h.failing feasible h.found)

-- no set before the first breaks its quotas
earlier : (f : FamilyValue) (x : ScaledValue) (a b m n : ℕ) → IsFirstInfeasible f x a m → IsFirstInfeasible f x b n → a < b → ⊥
earlier f x a b m n h k less =
    let known : 0 < a = h.known in
    breaks_there f x a m h (k.before (a - 1) h.failing (omega (arith, known, less)) h.found)

same_sum : (f : FamilyValue) (x : ScaledValue) (a b m n : ℕ) → IsFirstInfeasible f x a m → IsFirstInfeasible f x b n → a ≡ b → m ≡ n
same_sum f x a b m n h k same =
    let there : slice_get f.sets (a - 1) ≡ Some k.failing = ap (λ (c : ℕ). slice_get f.sets (c - 1)) same ∙ k.found in
    let one : h.failing ≡ k.failing = sym (get_or_from_slice_get f.sets (a - 1) h.failing h.failing h.found) ∙ get_or_from_slice_get f.sets (a - 1) k.failing h.failing there in
    h.is_sum ∙ ap (λ (s : SetValue). set_sum (units_of x) s.cells) one ∙ sym k.is_sum

same_set : (a b m n : ℕ) → a ≡ b → m ≡ n → ◌≡◌ {A = Infeasible} (record { set = a; sum = m }) (record { set = b; sum = n })
same_set a b m n p q = cc

one_infeasible : (f : FamilyValue) (x : ScaledValue) (d e : Infeasible) → IsFirstInfeasible f x d.set d.sum → IsFirstInfeasible f x e.set e.sum → d ≡ e
one_infeasible f x d e h k = elim (cases_order d.set e.set) [
  | inl same ↦ same_set d.set e.set d.sum e.sum same (same_sum f x d.set e.set d.sum e.sum h k same)
  | inr (inl less) ↦ absurd (earlier f x d.set e.set d.sum e.sum h k less)
  | inr (inr more) ↦ absurd (earlier f x e.set d.set e.sum d.sum k h more)
]

pub one_meeting : (f : FamilyValue) (x : ScaledValue) (r s : Result (Unit {0}) Infeasible) → MeetsOrNot f x r → MeetsOrNot f x s → r ≡ s
one_meeting f x (Ok u) (Ok v) h k = refl
one_meeting f x (Ok u) (Err e) h k = absurd (not_feasible f x e.set e.sum k h)
one_meeting f x (Err e) (Ok u) h k = absurd (not_feasible f x e.set e.sum h k)
one_meeting f x (Err d) (Err e) h k = ap Err (one_infeasible f x d e h k)
