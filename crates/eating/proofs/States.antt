-- The state from moment to moment, as the code has it.
use Rattle.std.proofs.Common.{◌≡◌, ℕ, ◌+◌, ◌*◌, ◌<◌, ◌≤◌, List, length, get_or, ap, sym, ◌∙◌, subst, arith, inl, inr, mul_comm, mul_assoc}
use Rattle.std.specs.Prelude.{slice_index, ◌/◌, ◌==◌, ◌^◌, count_by}
use Rattle.std.proofs.Math.Nat.{mul-div_cancel', eq_of_mul-eq-mul_right, mul-lt-mul_of_pos_left}
use Rattle.std.proofs.lemmas.Bool.{cases_lt}
use Rattle.std.proofs.lemmas.List.{length-replicate, get_or-replicate, get_or_past}
use Rattle.definitions.specs.Values.{Market}
use Rattle.definitions.specs.Eating.{eaten_by, moment_at, limit_cells, limit_ceiling, IsLowestTerms}
use Rattle.eating_laws.proofs.Right.{IsRightBelow}
use Rattle.frac128.specs.Lcm.{IsBeyond}
use Rattle.frac128.specs.Fraction.{numerator, denominator}
use Rattle.frac128.specs.declared.fractions.Fraction.{Fraction}
use Rattle.eating.specs.declared.progress.Progress.{Progress}
use Rattle.eating.specs.Plan.{LineValue, AreLinesOf, IsSmall}
use Rattle.eating.specs.Seats.{AreSoFar, AreSeats, seat_speed}
use Rattle.eating.specs.Steps.{AreAdvanced, IsEarliest, IsWithin}
use Rattle.eating.specs.Runs.{AreDue, IsAt, IsHeld, IsMoving, IsRunOf, IsSeated, IsSteady, IsStepTo}
use Rattle.eating.specs.Answers.{IsTooFineIn}
use Rattle.eating.proofs.Stepping.{step_right, step_left, step_lowest, step_full}
use Rattle.eating.proofs.Dues.{none_due}
use Rattle.eating.proofs.Moving.{steady_held}
use Rattle.eating.proofs.Running.{limit_small, at_within, seated, so_far_after, seats_so_far, first_so_far, open_falls}
use Rattle.eating.proofs.Rounds.{first_right, first_rests, first_lowest, beyond_too_fine}

-- the state over other names of the same numbers and lists
moved : (market : Market) (lines : List LineValue) (are : AreLinesOf market lines) (small : IsSmall market) (mid new : Progress) → IsSeated lines mid new
    → (D n : ℕ) → mid.unit ≡ D → mid.at ≡ n → IsRightBelow market D (n + 1) mid.moments.items
    → ((j : ℕ) → j < length mid.moments.items → moment_at mid.moments.items j ≡ D → slice_index mid.rests.items j + eaten_by market D mid.moments.items (limit_cells market j) n ≡ limit_ceiling market j * D)
    → IsLowestTerms D mid.moments.items → D ≤ 2 ^ 116 → length mid.rests.items ≡ length mid.moments.items → IsAt market lines new
moved market lines are small mid new s D n unit at right left lowest fine many =
    seated market lines are small new (right_at new.unit new.at new.moments.items (s.unit ∙ unit) (s.at ∙ at) s.moments)
    (left_at new.unit new.at new.moments.items new.rests.items (s.unit ∙ unit) (s.at ∙ at) s.moments s.rests)
    (subst (λ e. IsLowestTerms new.unit e) (sym s.moments) (subst (λ d. IsLowestTerms d mid.moments.items) (sym (s.unit ∙ unit)) lowest))
    (omega (arith, fine, s.unit, unit)) (ap length s.rests ∙ many ∙ sym (ap length s.moments)) (s.many ∙ sym (ap length s.moments))
    (subst (λ e. AreSeats new.unit e lines new.places.items) (sym s.moments) (subst (λ d. AreSeats d mid.moments.items lines new.places.items) (sym s.unit) s.seats)) s.speeds
  where
    right_at : (d m : ℕ) (e : List ℕ) → d ≡ D → m ≡ n → e ≡ mid.moments.items → IsRightBelow market d (m + 1) e
    right_at d m e p q t = subst (λ x. IsRightBelow market x (m + 1) e) (sym p) (subst (λ x. IsRightBelow market D (x + 1) e) (sym q) (subst (λ x. IsRightBelow market D (n + 1) x) (sym t) right))

    left_at : (d m : ℕ) (e r : List ℕ) → d ≡ D → m ≡ n → e ≡ mid.moments.items → r ≡ mid.rests.items
        → (j : ℕ) → j < length e → moment_at e j ≡ d → slice_index r j + eaten_by market d e (limit_cells market j) m ≡ limit_ceiling market j * d
    left_at d m e r p q t u =
        subst (λ x. (j : ℕ) → j < length e → moment_at e j ≡ x → slice_index r j + eaten_by market x e (limit_cells market j) m ≡ limit_ceiling market j * x) (sym p)
        (subst (λ x. (j : ℕ) → j < length e → moment_at e j ≡ D → slice_index r j + eaten_by market D e (limit_cells market j) x ≡ limit_ceiling market j * D) (sym q)
        (subst (λ x. (j : ℕ) → j < length x → moment_at x j ≡ D → slice_index r j + eaten_by market D x (limit_cells market j) n ≡ limit_ceiling market j * D) (sym t)
        (subst (λ x. (j : ℕ) → j < length mid.moments.items → moment_at mid.moments.items j ≡ D → slice_index x j + eaten_by market D mid.moments.items (limit_cells market j) n ≡ limit_ceiling market j * D) (sym u) left)))

module _ (market : Market) (lines : List LineValue) where
  -- in the beginning nobody eats
  pub start_zero : (s : Progress) → IsRunOf market lines s → (j : ℕ) → slice_index s.speeds.items j ≡ 0
  start_zero s h j = elim (cases_lt j (length market.limits)) [
    | inl inside ↦ ap (λ xs. get_or xs j 0) h.start.speeds ∙ get_or-replicate (length market.limits) j 0 0 inside
    | inr past ↦ get_or_past s.speeds.items j 0 (omega (arith, past, ap length h.start.speeds, length-replicate {A = ℕ} (length market.limits) 0))
  ]

  pub start_size : (s : Progress) → IsRunOf market lines s → length s.moments.items ≡ length market.limits
  start_size s h = ap length h.start.moments ∙ length-replicate (length market.limits) 1

  pub start_due : (s : Progress) → IsRunOf market lines s → AreDue s
  start_due s h = none_due s.unit s.at (length market.limits) s.moments.items s.rests.items s.speeds.items s.dues (start_size s h) h.start.dues (start_zero s h)

  -- each agent is at the first place
  pub start_place : (s : Progress) → IsRunOf market lines s → (i : ℕ) → slice_index s.places.items i ≡ 0
  start_place s h i = elim (cases_lt i (length lines)) [
    | inl inside ↦ ap (λ xs. get_or xs i 0) h.start.places ∙ get_or-replicate (length lines) i 0 0 inside
    | inr past ↦ get_or_past s.places.items i 0 (omega (arith, past, ap length h.start.places, length-replicate {A = ℕ} (length lines) 0))
  ]

  pub start_so_far : (s mid : Progress) → IsRunOf market lines s → mid.places.items ≡ s.places.items → AreSoFar mid.unit mid.moments.items lines mid.places.items
  start_so_far s mid h same = first_so_far mid.unit (length market.limits) (length lines) mid.moments.items lines mid.places.items h.lines_of.limits (omega arith) (same ∙ h.start.places)

  pub start_moving : (s mid sat : Progress) → IsRunOf market lines s → mid.places.items ≡ s.places.items → IsSteady mid → IsHeld mid sat → sat.places.items ≡ mid.places.items
      → ((j : ℕ) → slice_index sat.speeds.items j ≡ seat_speed lines mid.places.items j) → AreDue sat → IsMoving lines 0 sat
  start_moving s mid sat h same steady held places speeds dues = record {
    steady = steady_held mid sat held steady;
    dues = dues;
    so_far = start_so_far s sat h (places ∙ same);
    done = λ k line less. absurd (omega arith);
    speeds = λ j. speeds j ∙ ap (λ xs. seat_speed lines xs j) (sym places);
  }

  -- the first step needs little
  pub start_within : (s : Progress) → IsRunOf market lines s → IsWithin s.unit s.at s.moments.items s.rests.items s.speeds.items
  start_within s h = record {
    before_end = omega (arith, h.start.unit, h.start.at);
    fine = omega (arith, h.start.unit);
    many_rests = h.start.many_rests ∙ sym many;
    many_speeds = ap length h.start.speeds ∙ length-replicate (length market.limits) 0 ∙ sym many;
    few = (let few = h.small.few in omega (arith, few, many));
    within = λ j. (let one = unit_at j in omega (arith, one, h.start.unit));
    rest_within = λ j l o. (let inside : j < length market.limits = omega (arith, l, many) in
        let few = limit_small market j h.small inside in omega (arith, few, h.start.rests j inside, h.start.unit));
    speed_within = λ j. (let none = start_zero s h j in omega (arith, none));
  }
    where
      many : length s.moments.items ≡ length market.limits
      many = ap length h.start.moments ∙ length-replicate (length market.limits) 1

      unit_at : (j : ℕ) → slice_index s.moments.items j ≤ 1
      unit_at j = elim (cases_lt j (length market.limits)) [
        | inl inside ↦ (let is = ap (λ xs. get_or xs j 0) h.start.moments ∙ get_or-replicate (length market.limits) j 1 0 inside in omega (arith, is))
        | inr past ↦ (let is = get_or_past s.moments.items j 0 (omega (arith, past, many)) in omega (arith, is))
      ]

  -- the state at moment 0
  pub start_at : (s mid new : Progress) → IsRunOf market lines s → mid.unit ≡ 1 * s.unit → mid.at ≡ 1 * s.at + 0
      → AreAdvanced s.unit 1 0 (1 * s.at + 0) s.moments.items s.rests.items s.speeds.items mid.moments.items mid.rests.items → IsSeated lines mid new → IsAt market lines new
  start_at s mid new h unit at limits seats =
      moved market lines h.lines_of h.small mid new seats 1 0 (omega (arith, unit, h.start.unit)) (omega (arith, at, h.start.at))
      (first_right market s.moments.items s.rests.items s.speeds.items mid.moments.items mid.rests.items many one h.start.rests first)
      (first_rests market s.moments.items s.rests.items s.speeds.items mid.moments.items mid.rests.items many one h.start.rests first)
      (first_lowest mid.moments.items) (omega arith) (first.many_rests ∙ sym first.many)
    where
      many : length s.moments.items ≡ length market.limits
      many = ap length h.start.moments ∙ length-replicate (length market.limits) 1

      one : (j : ℕ) → j < length s.moments.items → slice_index s.moments.items j ≡ 1
      one j l = ap (λ xs. get_or xs j 0) h.start.moments ∙ get_or-replicate (length market.limits) j 1 0 (omega (arith, l, many))

      first : AreAdvanced 1 1 0 0 s.moments.items s.rests.items s.speeds.items mid.moments.items mid.rests.items
      first =
          subst (λ n. AreAdvanced 1 1 0 n s.moments.items s.rests.items s.speeds.items mid.moments.items mid.rests.items) (omega (arith, h.start.at))
          (subst (λ d. AreAdvanced d 1 0 (1 * s.at + 0) s.moments.items s.rests.items s.speeds.items mid.moments.items mid.rests.items) h.start.unit limits)

  module _ (old mid : Progress) (m : Fraction) (h : IsAt market lines old) (next : IsEarliest old.unit old.at (length old.moments.items) old.moments.items old.rests.items old.speeds.items m)
      (step : IsStepTo old mid m) where
    one : step.factor * old.unit ≡ mid.unit
    one = sym step.unit

    two : mid.unit / denominator m * denominator m ≡ mid.unit
    two = mul_comm (mid.unit / denominator m) (denominator m) ∙ mul-div_cancel' (denominator m) step.least.second

    sum : step.factor * old.at + step.step ≡ numerator m * (mid.unit / denominator m)
    sum =
        sym step.at
        ∙ eq_of_mul-eq-mul_right (denominator m) m.positive mid.at (numerator m * (mid.unit / denominator m))
        (step.value ∙ ap (λ n. numerator m * n) (sym two) ∙ sym (mul_assoc (numerator m) (mid.unit / denominator m) (denominator m)))

    -- the state at the next moment
    pub next_at : AreLinesOf market lines → IsSmall market → (new : Progress) → IsSeated lines mid new → IsAt market lines new
    next_at are small new seats =
        moved market lines are small mid new seats (step.factor * old.unit) (step.factor * old.at + step.step) step.unit step.at
        (step_right market old.unit old.at old.moments.items old.rests.items old.speeds.items h.ready h.lowest m next mid.unit step.least step.factor (mid.unit / denominator m) step.step one two sum mid.moments.items mid.rests.items step.limits)
        (step_left market old.unit old.at old.moments.items old.rests.items old.speeds.items h.ready h.lowest m next mid.unit step.least step.factor (mid.unit / denominator m) step.step one two sum mid.moments.items mid.rests.items step.limits)
        (step_lowest market old.unit old.at old.moments.items old.rests.items old.speeds.items h.ready h.lowest m next mid.unit step.least step.factor (mid.unit / denominator m) step.step one two sum mid.moments.items mid.rests.items step.limits)
        (omega (arith, step.fine, one)) (step.limits.many_rests ∙ sym step.limits.many)

    pub next_so_far : AreLinesOf market lines → AreSoFar mid.unit mid.moments.items lines mid.places.items
    next_so_far are =
        subst (λ d. AreSoFar d mid.moments.items lines mid.places.items) one
        (subst (λ places. AreSoFar (step.factor * old.unit) mid.moments.items lines places) (sym step.places)
        (so_far_after old.unit step.factor step.step (step.factor * old.at + step.step) (length market.limits) old.moments.items old.rests.items old.speeds.items mid.moments.items mid.rests.items lines old.places.items step.positive h.ready.right.size are.limits step.limits
        (seats_so_far old.unit old.moments.items lines old.places.items h.seats)))

    pub next_moving : AreLinesOf market lines → IsSteady mid → AreDue mid → IsMoving lines 0 mid
    next_moving are steady dues = record {
      steady = steady;
      dues = dues;
      so_far = next_so_far are;
      done = λ k line less. absurd (omega arith);
      speeds = λ j. ap (λ xs. get_or xs j 0) step.speeds ∙ h.speeds j ∙ ap (λ xs. seat_speed lines xs j) (sym step.places);
    }

    -- fewer limits are open then
    pub next_fewer : (new : Progress) → IsSeated lines mid new → count_by (λ x. x == new.unit) new.moments.items < count_by (λ x. x == old.unit) old.moments.items
    next_fewer new seats =
        subst (λ e. count_by (λ x. x == new.unit) e < count_by (λ x. x == old.unit) old.moments.items) (sym seats.moments)
        (subst (λ d. count_by (λ x. x == d) mid.moments.items < count_by (λ x. x == old.unit) old.moments.items) (sym (seats.unit ∙ step.unit))
        (open_falls old.unit (step.factor * old.unit) next.limit old.moments.items mid.moments.items step.limits.many next.known was_open next.is_open
        (λ e. (let full = step_full market old.unit old.at old.moments.items old.rests.items old.speeds.items h.ready h.lowest m next mid.unit step.least step.factor (mid.unit / denominator m) step.step one two sum mid.moments.items mid.rests.items step.limits in
        let right = step_right market old.unit old.at old.moments.items old.rests.items old.speeds.items h.ready h.lowest m next mid.unit step.least step.factor (mid.unit / denominator m) step.step one two sum mid.moments.items mid.rests.items step.limits in
        let reach : step.factor * old.at + step.step + 1 ≤ step.factor * old.unit = right.reach in
        omega (arith, full, e, reach)))))
      where
        was_open : (j : ℕ) → j < length old.moments.items → get_or mid.moments.items j 0 ≡ step.factor * old.unit → get_or old.moments.items j 0 ≡ old.unit
        was_open j l e = elim (h.ready.right.said j l) [
          | inl early ↦
              let below : get_or old.moments.items j 0 < old.unit = (let r : old.at + 1 ≤ old.unit = h.ready.right.reach in omega arith) in
              let full = (step.limits.each j l).full (λ same. omega arith) in
              let less : step.factor * get_or old.moments.items j 0 < step.factor * old.unit = mul-lt-mul_of_pos_left below step.positive in
              absurd (omega (arith, full, less, e))
          | inr same ↦ same
        ]

-- where the step is too fine
pub step_beyond : (market : Market) (lines : List LineValue) (s : Progress) (m : Fraction) → AreLinesOf market lines → IsSmall market → IsAt market lines s
    → IsEarliest s.unit s.at (length s.moments.items) s.moments.items s.rests.items s.speeds.items m → (lcm : ℕ) → IsBeyond s.unit (denominator m) (2 ^ 116) lcm → IsTooFineIn market lcm
step_beyond market lines s m are small h next lcm beyond =
    beyond_too_fine market s.unit s.at s.moments.items s.rests.items s.speeds.items h.ready h.lowest h.fine (at_within market lines are small s h).speed_within m next lcm beyond
