-- From moment to moment: the state of eating.
use Rattle.std.proofs.Common.{◌≡◌, ◌≢◌, ℕ, suc, zero, ◌+◌, ◌-◌, ◌*◌, ◌<◌, ◌≤◌, List, [], ◌∷◌, true, false, cond, Option, length, take, get_or, replicate, ap, sym, ◌∙◌, subst, arith, inl, inr, mul_comm}
use Rattle.std.specs.Prelude.{slice_index, ◌==◌, ◌⊎◌, ◌^◌, count_by}
use Rattle.std.specs.Option.{option_map_or}
use Rattle.std.proofs.Math.Nat.{mul-add, mul-lt-mul_of_pos_left, mul-le-mul_right}
use Rattle.std.proofs.lemmas.Bool.{cases_lt, eq-eqb, ne_eqb, cases_Bool, eqb-true}
use Rattle.std.proofs.lemmas.Option.{slice_get-get_or}
use Rattle.std.proofs.lemmas.List.{get_or_past, take_all, length-replicate, get_or-replicate}
use Rattle.std.proofs.lemmas.List.Sums.{sum_by-cons}
use Rattle.definitions.specs.Values.{Limit, Market}
use Rattle.definitions.specs.Eating.{eaten_by, moment_at, limit_cells, limit_ceiling, IsEatingTable, IsLowestTerms}
use Rattle.eating_laws.proofs.Right.{IsRightBelow}
use Rattle.eating_laws.proofs.Holders.{least_of}
use Rattle.eating.specs.declared.progress.Progress.{Progress}
use Rattle.eating.specs.Plan.{LineValue, holders_at, AreLines, AreLinesOf, IsSmall}
use Rattle.eating.specs.Seats.{AreSoFar, AreSeats, seat_speed}
use Rattle.eating.specs.Steps.{AreAdvanced, IsNoneNext, IsWithin}
use Rattle.eating.specs.Runs.{IsAt}
use Rattle.eating.proofs.Between.{end_table}
use Rattle.eating.proofs.Seating.{seats_speed, seat_bound}

-- no ceiling is above 1,000
pub limit_small : (market : Market) (j : ℕ) → IsSmall market → j < length market.limits → limit_ceiling market j ≤ 1000
limit_small market j h l =
    let d : Limit = record { ceiling = 0; cells = [] } in
    subst (λ (o : Option Limit). option_map_or (λ (s : Limit). s.ceiling) o 0 ≤ 1000) (sym (slice_get-get_or market.limits j d l)) (h.ceilings j d l)

-- no speed is above 1,000
pub speeds_small : (lines : List LineValue) (places : List ℕ) (limits j : ℕ) → AreLines limits lines → seat_speed lines places j ≤ 1000
speeds_small lines places limits j h =
    let k = length lines + length places in
    let bound = seat_bound lines places k j (λ i line e q. (h.each i line e).once q j) in
    let is = ap (λ xs. seat_speed xs (take k places) j) (take_all k lines (omega arith)) ∙ ap (λ ys. seat_speed lines ys j) (take_all k places (omega arith)) in
    omega (arith, bound, is, h.demands)

module _ (market : Market) (lines : List LineValue) (are : AreLinesOf market lines) (small : IsSmall market) where
  pub at_within : (s : Progress) → IsAt market lines s → IsWithin s.unit s.at s.moments.items s.rests.items s.speeds.items
  at_within s h = record {
    before_end = (let k : s.at + 1 ≤ s.unit = h.ready.right.reach in omega arith);
    fine = h.fine;
    many_rests = h.many_rests;
    many_speeds = h.many_speeds;
    few = (let few = small.few in omega (arith, few, h.ready.right.size));
    within = λ j. within j;
    rest_within = λ j l o. (let left = h.ready.left j l o in
        let few : limit_ceiling market j * s.unit ≤ 1000 * s.unit = mul-le-mul_right s.unit (limit_small market j small (omega (arith, l, h.ready.right.size))) in omega (arith, left, few));
    speed_within = λ j. (let one = speeds_small lines s.places.items (length market.limits) j are.limits in omega (arith, one, h.speeds j));
  }
    where
      within : (j : ℕ) → slice_index s.moments.items j ≤ s.unit
      within j = elim (cases_lt j (length s.moments.items)) [
        | inl inside ↦ said (h.ready.right.said j inside)
        | inr past ↦ (let none = get_or_past s.moments.items j 0 past in omega (arith, none))
      ]
        where
          said : {x : ℕ} → (x < s.at + 1) ⊎ (x ≡ s.unit) → x ≤ s.unit
          said (inl k) = (let r : s.at + 1 ≤ s.unit = h.ready.right.reach in omega arith)
          said (inr k) = omega arith

  -- the state once the agents are seated
  pub seated : (s : Progress) → IsRightBelow market s.unit (s.at + 1) s.moments.items
      → ((j : ℕ) → j < length s.moments.items → moment_at s.moments.items j ≡ s.unit → slice_index s.rests.items j + eaten_by market s.unit s.moments.items (limit_cells market j) s.at ≡ limit_ceiling market j * s.unit)
      → IsLowestTerms s.unit s.moments.items → s.unit ≤ 2 ^ 116 → length s.rests.items ≡ length s.moments.items → length s.speeds.items ≡ length s.moments.items
      → AreSeats s.unit s.moments.items lines s.places.items → ((j : ℕ) → slice_index s.speeds.items j ≡ seat_speed lines s.places.items j) → IsAt market lines s
  seated s right left lowest fine many_rests many_speeds seats speeds = record {
    ready = record {
      right = right;
      left = left;
      fast = λ j l. speeds j ∙ seats_speed market s.unit s.at s.moments.items right.size (λ i k. said (right.said i k)) (let r : s.at + 1 ≤ s.unit = right.reach in omega arith) j (omega (arith, l, right.size)) lines s.places.items are seats;
    };
    lowest = lowest;
    fine = fine;
    many_rests = many_rests;
    many_speeds = many_speeds;
    seats = seats;
    speeds = speeds;
  }
    where
      said : {x : ℕ} → (x < s.at + 1) ⊎ (x ≡ s.unit) → (x ≤ s.at) ⊎ (x ≡ s.unit)
      said (inl k) = inl (omega arith)
      said (inr k) = inr k

  -- where no open limit is full before the end
  pub at_end : (s : Progress) → IsAt market lines s → IsNoneNext s.unit s.at (length s.moments.items) s.moments.items s.rests.items s.speeds.items → IsEatingTable market s.unit s.moments.items
  at_end s h none =
      end_table market s.unit s.at s.moments.items (λ j. slice_index s.rests.items j) (λ j. slice_index s.speeds.items j) h.ready
      (λ j l o.
      let v = slice_index s.speeds.items j in
      let reach : s.at + 1 ≤ s.unit = h.ready.right.reach in
      let split : v * s.unit ≡ v * s.at + v * (s.unit - s.at) = ap (λ n. v * n) (let f : s.unit ≡ s.at + (s.unit - s.at) = omega arith in f) ∙ mul-add v s.at (s.unit - s.at) in
      omega (arith, none j l o, split, mul_comm s.unit v, mul_comm s.at v))

-- a place that isn't open stays so
full_stays : (U c : ℕ) (e e' holders : List ℕ) → 0 < c → ((k : ℕ) → k < length holders → (get_or e (get_or holders k 0) 0 ≢ U) → get_or e' (get_or holders k 0) 0 ≡ c * get_or e (get_or holders k 0) 0)
    → least_of U e holders < U → least_of (c * U) e' holders < c * U
unfolding least_of
full_stays U c e e' [] p h less = absurd (omega arith)
full_stays U c e e' (x ∷ holders) p h less = elim (cases_lt (get_or e x 0) U) [
  | inl here ↦
      let more : c * get_or e x 0 < c * U = mul-lt-mul_of_pos_left here p in
      let is : get_or e' x 0 ≡ c * get_or e x 0 = h 0 (omega arith) (λ same. omega arith) in
      omega arith
  | inr open_here ↦ (let rest = full_stays U c e e' holders p (λ k l. h (suc k) (omega arith)) (omega arith) in omega arith)
]

-- after a step each agent's place is still one before which no place is open
pub so_far_after : (U f s at limits : ℕ) (e r v e' r' : List ℕ) (lines : List LineValue) (places : List ℕ) → 0 < f → length e ≡ limits → AreLines limits lines → AreAdvanced U f s at e r v e' r'
    → AreSoFar U e lines places → AreSoFar (f * U) e' lines places
so_far_after U f s at limits e r v e' r' lines places p size are limits_after far = record {
  many = far.many;
  each = λ i line h. record {
    inside = (far.each i line h).inside;
    before = λ k l. full_stays U f e e' (holders_at line k) p
        (λ q m apart. (limits_after.each (get_or (holders_at line k) q 0) (let w = (are.each i line h).inside k q 0 m in omega (arith, w, size))).full apart)
        ((far.each i line h).before k l);
  };
}

pub seats_so_far : (U : ℕ) (e : List ℕ) (lines : List LineValue) (places : List ℕ) → AreSeats U e lines places → AreSoFar U e lines places
seats_so_far U e lines places h = record { many = h.many; each = λ i line e. (h.each i line e).so_far }

-- in the beginning each agent is at its first place
pub first_so_far : (U limits agents : ℕ) (e : List ℕ) (lines : List LineValue) (places : List ℕ) → AreLines limits lines → length lines ≡ agents → places ≡ replicate agents 0 → AreSoFar U e lines places
first_so_far U limits agents e lines places are many is = record {
  many = ap length is ∙ length-replicate agents 0 ∙ sym many;
  each = λ i line h. (let zero_is : slice_index places i ≡ 0 = at i in record {
    inside = (let some = (are.each i line h).some in omega (arith, zero_is, some));
    before = λ k l. absurd (omega (arith, zero_is, l));
  });
}
  where
    at : (i : ℕ) → slice_index places i ≡ 0
    at i = ap (λ xs. get_or xs i 0) is ∙ elim (cases_lt i agents) [
      | inl inside ↦ get_or-replicate agents i 0 0 inside
      | inr past ↦ get_or_past (replicate agents 0) i 0 (omega (arith, length-replicate {A = ℕ} agents 0))
    ]

-- fewer limits are open after a step
open_le : (U U' : ℕ) (e e' : List ℕ) → length e' ≡ length e → ((j : ℕ) → j < length e → get_or e' j 0 ≡ U' → get_or e j 0 ≡ U) → count_by (λ m. m == U') e' ≤ count_by (λ m. m == U) e
open_le U U' [] [] many h = omega arith
open_le U U' [] (y ∷ e') many h = absurd (omega arith)
open_le U U' (x ∷ e) [] many h = absurd (omega arith)
open_le U U' (x ∷ e) (y ∷ e') many h =
    omega (arith, sum_by-cons (λ m. cond (m == U') 1 0) y e', sum_by-cons (λ m. cond (m == U) 1 0) x e, open_le U U' e e' (omega arith) (λ j l k. h (suc j) (omega arith) k), bit (cases_Bool (y == U')))
  where
    bit : ((y == U') ≡ true) ⊎ ((y == U') ≡ false) → cond {A = ℕ} (y == U') 1 0 ≤ cond {A = ℕ} (x == U) 1 0
    bit (inl e) = (let on = ap {B = ℕ} (λ b. cond b 1 0) (eq-eqb x U (h 0 (omega arith) (eqb-true y U' e))) in let off = ap {B = ℕ} (λ b. cond b 1 0) e in omega (arith, on, off))
    bit (inr e) = (let off = ap {B = ℕ} (λ b. cond b 1 0) e in omega (arith, off))

pub open_falls : (U U' limit : ℕ) (e e' : List ℕ) → length e' ≡ length e → limit < length e → ((j : ℕ) → j < length e → get_or e' j 0 ≡ U' → get_or e j 0 ≡ U)
    → get_or e limit 0 ≡ U → get_or e' limit 0 ≢ U' → count_by (λ m. m == U') e' < count_by (λ m. m == U) e
open_falls U U' limit [] e' many l h is apart = absurd (omega arith)
open_falls U U' limit (x ∷ e) [] many l h is apart = absurd (omega arith)
open_falls U U' zero (x ∷ e) (y ∷ e') many l h is apart =
    let on = ap {B = ℕ} (λ b. cond b 1 0) (eq-eqb x U is) in
    let off = ap {B = ℕ} (λ b. cond b 1 0) (ne_eqb y U' apart) in
    omega (arith, sum_by-cons (λ m. cond (m == U') 1 0) y e', sum_by-cons (λ m. cond (m == U) 1 0) x e, on, off, open_le U U' e e' (omega arith) (λ j l k. h (suc j) (omega arith) k))
open_falls U U' (suc limit) (x ∷ e) (y ∷ e') many l h is apart =
    omega (arith, sum_by-cons (λ m. cond (m == U') 1 0) y e', sum_by-cons (λ m. cond (m == U) 1 0) x e, open_falls U U' limit e e' (omega arith) (omega arith) (λ j l k. h (suc j) (omega arith) k) is apart, bit (cases_Bool (y == U')))
  where
    bit : ((y == U') ≡ true) ⊎ ((y == U') ≡ false) → cond {A = ℕ} (y == U') 1 0 ≤ cond {A = ℕ} (x == U) 1 0
    bit (inl e) = (let on = ap {B = ℕ} (λ b. cond b 1 0) (eq-eqb x U (h 0 (omega arith) (eqb-true y U' e))) in let off = ap {B = ℕ} (λ b. cond b 1 0) e in omega (arith, on, off))
    bit (inr e) = (let off = ap {B = ℕ} (λ b. cond b 1 0) e in omega (arith, off))
