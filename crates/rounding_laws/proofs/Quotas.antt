-- Rounding keeps quotas.
use Rattle.std.proofs.Common.{◌≡◌, ℕ, ◌*◌, ◌<◌, ◌≤◌, List, length, get_or, subst, arith}
use Rattle.std.specs.Prelude.{slice_index}
use Rattle.std.proofs.lemmas.List.{get_or-map, length-map}
use Rattle.definitions.specs.declared.Cell.{Cell}
use Rattle.definitions.specs.Sets.{SetValue, FamilyValue, ScaledValue, cells_of, unit_at, set_sum, IsFeasible, MeetsQuotas}
use Rattle.definitions.specs.Rounding.{Rounds, IsRounded}
use Rattle.rounding_laws.proofs.Rounded.{rounded_within}

-- a whole matrix that rounds a feasible one meets every quota
pub keeps_quotas : (f : FamilyValue) (x : ScaledValue) (m : List ℕ) → 0 < x.denominator → x.columns ≡ f.columns
    → IsFeasible f x → Rounds f.columns (cells_of f) x.units x.denominator m → MeetsQuotas f m
keeps_quotas f x m one same feasible rounds k d short =
    let s : SetValue = get_or f.sets k d in
    let at : get_or (cells_of f) k s.cells ≡ s.cells = get_or-map (λ (q : SetValue). q.cells) f.sets k d s.cells short in
    let many : k < length (cells_of f) = omega (arith, length-map f.sets (λ (q : SetValue). q.cells)) in
    let sums : IsRounded (set_sum (unit_at f.columns x.units) s.cells) x.denominator (set_sum (unit_at f.columns m) s.cells) =
    subst (λ (c : List Cell). IsRounded (set_sum (unit_at f.columns x.units) c) x.denominator (set_sum (unit_at f.columns m) c)) at (rounds.sums k s.cells many) in
    let within : (s.floor * x.denominator ≤ set_sum (unit_at f.columns x.units) s.cells) × (set_sum (unit_at f.columns x.units) s.cells ≤ s.ceiling * x.denominator) =
    subst (λ (n : ℕ). (s.floor * x.denominator ≤ set_sum (unit_at n x.units) s.cells) × (set_sum (unit_at n x.units) s.cells ≤ s.ceiling * x.denominator)) same (feasible k d short) in
    rounded_within s.floor s.ceiling (set_sum (unit_at f.columns x.units) s.cells) x.denominator (set_sum (unit_at f.columns m) s.cells) one sums within.0 within.1

-- it has at most one unit where that has at most one whole unit
pub small_cell : (columns d i : ℕ) (sets : List (List Cell)) (y m : List ℕ) → 0 < d → Rounds columns sets y d m
    → i < length y → slice_index y i ≤ d → slice_index m i ≤ 1
small_cell columns d i sets y m one rounds short small =
    (rounded_within 0 1 (get_or y i 0) d (get_or m i 0) one (rounds.cells i short) (omega arith) (omega arith)).1
