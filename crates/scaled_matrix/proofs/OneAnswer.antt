-- Given shares have one answer at most besides want of memory: one scaled matrix, or one fault.
use Rattle.std.proofs.Common.{◌≡◌, ℕ, ◌+◌, ◌-◌, ◌*◌, ◌<◌, ◌≤◌, ◌^◌, ◌∙◌, ◌⊎◌, inl, inr, List, length, get_or, take, refl, sym, ap, subst, arith}
use Rattle.std.specs.Prelude.{sum, min, Result, Ok, Err}
use Rattle.std.proofs.Math.Nat.{eq_of_mul-eq-mul_right}
use Rattle.std.proofs.lemmas.Bool.{cases_order}
use Rattle.std.proofs.lemmas.List.{same_lists, length-map, get_or_default}
use Rattle.std.proofs.lemmas.List.Sums.{sum_by-take-le}
use Rattle.std.proofs.lemmas.Nat.{same_from_place}
use Rattle.std.proofs.lemmas.Option.{slice_get-get_or}
use Rattle.definitions.specs.Values.{Ratio, SharesValue}
use Rattle.definitions.specs.Sets.{ScaledValue, IsScaledMatrix}
use Rattle.definitions.specs.Scaling.{IsLeastCommonDenominator, IsScaled}
use Rattle.scaled_matrix.specs.declared.scaling.ScaleFault.{ScaleFault}
use Rattle.scaled_matrix.specs.declared.scaling.ScaleFault.TheVariants.{TooFine, OverTotal, NoMemory}
use Rattle.scaled_matrix.specs.Entries.{IsShares}
use Rattle.scaled_matrix.specs.Scaling.{IsEntryOf, IsTooFineAt, IsOverTotalAt, IsTooFine, IsOverTotal, IsScaleFault, IsScaleAnswer, IsDueTo, unit_of, units_in}
use Rattle.scaled_matrix.proofs.Denominators.{one_least, front_le, fronts_rise, least_there}
use Rattle.scaled_matrix.proofs.Units.{units_exact, sums_rise}

-- there are as many units as entries
many_units : (given : SharesValue) (x : ScaledValue) → IsScaled given x → length x.units ≡ length given.entries
many_units given x scaled =
    scaled.shape ∙ ap (λ n. n * x.columns) scaled.agents ∙ ap (λ n. length given.agents * n) scaled.columns ∙ sym scaled.entries

-- so they are the entries in units
pub units_are : (given : SharesValue) (x : ScaledValue) → IsShares given → IsScaled given x → x.units ≡ units_in x.denominator given.entries
units_are given x lawful scaled =
    let d = x.denominator in
    let entries = given.entries in
    let many = many_units given x scaled in
    let many' : length (units_in d entries) ≡ length entries = length-map entries (unit_of d) in
    same_lists x.units (units_in d entries) (many ∙ sym many')
    (λ k n within.
    let zero_there : Ratio = record { num = 0; den = 1 } in
    let s : Ratio = get_or entries k zero_there in
    let known : k < length entries = omega arith in
    let found = slice_get-get_or entries k zero_there known in
    let positive : 0 < s.den = (lawful.lawful k zero_there known).positive in
    let here : get_or x.units k 0 * s.den ≡ s.num * d = scaled.units k s found in
    let there = units_exact d entries lawful.lawful scaled.least.common k s found in
    let same : get_or x.units k 0 ≡ get_or (units_in d entries) k 0 =
    eq_of_mul-eq-mul_right s.den positive (get_or x.units k 0) (get_or (units_in d entries) k 0) (here ∙ sym there) in
    get_or_default x.units k n 0 within ∙ same ∙ get_or_default (units_in d entries) k 0 n (omega arith))

-- two scaled matrices of the same shares are equal
pub one_scaled_matrix : (given : SharesValue) (x y : ScaledValue) → IsShares given → IsScaled given x → IsScaled given y → x ≡ y
one_scaled_matrix given x y lawful scaled scaled' =
    let one : x.denominator ≡ y.denominator = one_least given.entries x.denominator y.denominator scaled.least scaled'.least in
    let agents : x.agents ≡ y.agents = scaled.agents ∙ sym scaled'.agents in
    let columns : x.columns ≡ y.columns = scaled.columns ∙ sym scaled'.columns in
    let units : x.units ≡ y.units =
    units_are given x lawful scaled ∙ ap (λ d. units_in d given.entries) one ∙ sym (units_are given y lawful scaled') in
    same_parts x.denominator y.denominator x.agents y.agents x.columns y.columns x.units y.units one agents columns units
  where
    same_parts : (d e a b c f : ℕ) (us vs : List ℕ) → d ≡ e → a ≡ b → c ≡ f → us ≡ vs
        → ◌≡◌ {A = ScaledValue} (record { denominator = d; agents = a; columns = c; units = us }) (record { denominator = e; agents = b; columns = f; units = vs })
    same_parts d e a b c f us vs p q r s = cc

-- what is too fine at an entry is too fine
pub too_fine_from_entry : (given : SharesValue) (denominator agent column : ℕ) → IsShares given → IsTooFineAt given denominator agent column → IsTooFine given
too_fine_from_entry given denominator agent column lawful h =
    let whole = least_there given.entries lawful.lawful in
    let le : h.after ≤ whole.0 = front_le given.entries (h.k + 1) whole.0 h.after whole.1 h.after_least in
    let passes = h.after_passes in
    record { denominator = whole.0; least = whole.1; passes = omega arith }

-- what is too much at an entry is too much in all
pub over_total_from_entry : (given : SharesValue) (agent column : ℕ) → IsOverTotalAt given agent column → IsOverTotal given
over_total_from_entry given agent column h =
    let part = sum_by-take-le (λ (n : ℕ). n) (units_in h.denominator given.entries) (h.k + 1) in
    let after = h.after in
    record { denominator = h.denominator; least = h.least; passes = omega (arith, part, after) }

-- shares with a least common denominator up to 2^116 are not too fine
fine_enough : (given : SharesValue) (d : ℕ) → IsLeastCommonDenominator given.entries d → d ≤ 2 ^ 116 → IsTooFine given → ⊥
fine_enough given d least fits h =
    let one : h.denominator ≡ d = one_least given.entries h.denominator d h.least least in
    let passes = h.passes in
    absurd (omega arith)

-- scaled shares are not too much in all
within_total : (given : SharesValue) (x : ScaledValue) → IsShares given → IsScaled given x → IsScaledMatrix x → IsOverTotal given → ⊥
within_total given x lawful scaled matrix h =
    let one : h.denominator ≡ x.denominator = one_least given.entries h.denominator x.denominator h.least scaled.least in
    let units : x.units ≡ units_in h.denominator given.entries =
    units_are given x lawful scaled ∙ ap (λ d. units_in d given.entries) (sym one) in
    let whole : sum x.units ≡ sum (units_in h.denominator given.entries) = ap sum units in
    let passes = h.passes in
    let total = matrix.total in
    absurd (omega arith)

-- where shares are scaled, there is no fault but want of memory
pub no_fault_beside_matrix : (given : SharesValue) (x : ScaledValue) (fault : ScaleFault) → IsShares given → IsScaled given x → IsScaledMatrix x
    → IsScaleFault given fault → fault ≡ NoMemory
no_fault_beside_matrix given x (TooFine denominator agent column) lawful scaled matrix h =
    absurd (fine_enough given x.denominator scaled.least matrix.limit (too_fine_from_entry given denominator agent column lawful h))
no_fault_beside_matrix given x (OverTotal agent column) lawful scaled matrix h = absurd (within_total given x lawful scaled matrix (over_total_from_entry given agent column h))
no_fault_beside_matrix given x NoMemory lawful scaled matrix h = refl

-- an entry has one place
one_place : (given : SharesValue) (k a b c d : ℕ) → IsEntryOf given k a b → IsEntryOf given k c d → (a ≡ c) × (b ≡ d)
one_place given k a b c d h h' =
    let at = h.place in
    let at' = h'.place in
    let first = h.known_agent in
    let first' = h'.known_agent in
    let second = h.known_column in
    let second' = h'.known_column in
    let in_row = h.within in
    let in_row' = h'.within in
    let same = same_from_place (a - 1) (b - 1) (c - 1) (d - 1) (length given.objects) (omega arith) (omega arith) (sym at ∙ at') in
    let rows = same.0 in
    let columns = same.1 in
    (omega arith, omega arith)

-- the first entry at which shares are too fine is one
too_fine_once : (given : SharesValue) (d e a b a' b' : ℕ) (h : IsTooFineAt given d a b) (h' : IsTooFineAt given e a' b') → h.k < h'.k → ⊥
too_fine_once given d e a b a' b' h h' before =
    let le = fronts_rise given.entries (h.k + 1) h'.k h.after h'.before (omega arith) h.after_least h'.before_least in
    let passes = h.after_passes in
    let fits = h'.before_fits in
    absurd (omega arith)

one_too_fine : (given : SharesValue) (d e a b a' b' : ℕ) → IsTooFineAt given d a b → IsTooFineAt given e a' b' → (d ≡ e) × (a ≡ a') × (b ≡ b')
one_too_fine given d e a b a' b' h h' = elim (cases_order h.k h'.k) [
  | inl same ↦
      let place = one_place given h.k a b a' b' h.entry (subst (λ k. IsEntryOf given k a' b') (sym same) h'.entry) in
      let after : h.after ≡ h'.after =
      one_least (take (h.k + 1) given.entries) h.after h'.after h.after_least
      (subst (λ k. IsLeastCommonDenominator (take (k + 1) given.entries) h'.after) (sym same) h'.after_least) in
      (h.carried ∙ ap (λ n. min n (2 ^ 128 - 1)) after ∙ sym h'.carried, place.0, place.1)
  | inr (inl before) ↦ absurd (too_fine_once given d e a b a' b' h h' before)
  | inr (inr later) ↦ absurd (too_fine_once given e d a' b' a b h' h later)
]

-- and so is the first at which they are too much in all
over_total_once : (units : List ℕ) (most j k : ℕ) → most < sum (take (j + 1) units) → sum (take k units) ≤ most → j < k → ⊥
over_total_once units most j k passes fits before =
    let le = sums_rise units (j + 1) k (omega arith) in
    absurd (omega arith)

one_over_total : (given : SharesValue) (a b a' b' : ℕ) → IsOverTotalAt given a b → IsOverTotalAt given a' b' → (a ≡ a') × (b ≡ b')
one_over_total given a b a' b' h h' =
    let d = h.denominator in
    let units = units_in d given.entries in
    let one : h'.denominator ≡ d = one_least given.entries h'.denominator d h'.least h.least in
    let before' : sum (take h'.k units) ≤ 1000 * d = subst (λ n. sum (take h'.k (units_in n given.entries)) ≤ 1000 * n) one h'.before in
    let after' : 1000 * d < sum (take (h'.k + 1) units) = subst (λ n. 1000 * n < sum (take (h'.k + 1) (units_in n given.entries))) one h'.after in
    elim (cases_order h.k h'.k) [
      | inl same ↦ one_place given h.k a b a' b' h.entry (subst (λ k. IsEntryOf given k a' b') (sym same) h'.entry)
      | inr (inl before) ↦ absurd (over_total_once units (1000 * d) h.k h'.k h.after before' before)
      | inr (inr later) ↦ absurd (over_total_once units (1000 * d) h'.k h.k after' h.before later)
    ]

-- two faults of the same shares are equal, or one is want of memory
pub one_fault : (given : SharesValue) (e f : ScaleFault) → IsShares given → IsScaleFault given e → IsScaleFault given f → (e ≡ NoMemory) ⊎ ((f ≡ NoMemory) ⊎ (e ≡ f))
one_fault given (TooFine d a b) (TooFine e a' b') lawful h h' =
    let same = one_too_fine given d e a b a' b' h h' in
    let p = same.0 in
    let q = same.1 in
    let r = same.2 in
    inr (inr (cc (p, q, r)))
one_fault given (TooFine d a b) (OverTotal a' b') lawful h h' = absurd (fine_enough given h'.denominator h'.least h'.fits (too_fine_from_entry given d a b lawful h))
one_fault given (TooFine d a b) NoMemory lawful h h' = inr (inl refl)
one_fault given (OverTotal a b) (TooFine e a' b') lawful h h' = absurd (fine_enough given h.denominator h.least h.fits (too_fine_from_entry given e a' b' lawful h'))
one_fault given (OverTotal a b) (OverTotal a' b') lawful h h' =
    let same = one_over_total given a b a' b' h h' in
    let p = same.0 in
    let q = same.1 in
    inr (inr (cc (p, q)))
one_fault given (OverTotal a b) NoMemory lawful h h' = inr (inl refl)
one_fault given NoMemory f lawful h h' = inl refl

-- two answers for the same shares are equal, or one is want of memory
pub one_answer : (given : SharesValue) (r s : Result ScaledValue ScaleFault) → IsShares given → IsScaleAnswer given r → IsScaleAnswer given s
    → (r ≡ Err NoMemory) ⊎ ((s ≡ Err NoMemory) ⊎ (r ≡ s))
one_answer given (Ok x) (Ok y) lawful h h' = inr (inr (ap Ok (one_scaled_matrix given x y lawful h.0 h'.0)))
one_answer given (Ok x) (Err f) lawful h h' = inr (inl (ap Err (no_fault_beside_matrix given x f lawful h.0 h.1 h')))
one_answer given (Err e) (Ok y) lawful h h' = inl (ap Err (no_fault_beside_matrix given y e lawful h'.0 h'.1 h))
one_answer given (Err e) (Err f) lawful h h' = elim (one_fault given e f lawful h h') [
  | inl first ↦ inl (ap Err first)
  | inr (inl second) ↦ inr (inl (ap Err second))
  | inr (inr same) ↦ inr (inr (ap Err same))
]

-- each answer is due
pub answer_is_due : (given : SharesValue) (r : Result ScaledValue ScaleFault) → IsShares given → IsScaleAnswer given r → IsDueTo given r
answer_is_due given (Ok x) lawful h = (fine_enough given x.denominator h.0.least h.1.limit, within_total given x lawful h.0 h.1)
answer_is_due given (Err (TooFine denominator agent column)) lawful h = too_fine_from_entry given denominator agent column lawful h
answer_is_due given (Err (OverTotal agent column)) lawful h = (fine_enough given h.denominator h.least h.fits, over_total_from_entry given agent column h)
answer_is_due given (Err NoMemory) lawful h = tt
