-- The agents move on, one after the other.
use Rattle.std.proofs.Common.{◌≡◌, ℕ, ◌+◌, ◌*◌, ◌<◌, ◌≤◌, List, Some, length, set, take, get_or, refl, ap, sym, ◌∙◌, subst, inl, inr, arith}
use Rattle.std.specs.Prelude.{count_by, ◌==◌, slice_get, slice_index}
use Rattle.std.proofs.lemmas.Bool.{cases_eq, cases_lt}
use Rattle.std.proofs.lemmas.List.{get_or-set_same, get_or-set_other, length-set}
use Rattle.std.proofs.lemmas.Option.{same_Some, slice_get_within}
use Rattle.eating.specs.declared.progress.Progress.{Progress}
use Rattle.eating.specs.Plan.{LineValue, holders_at}
use Rattle.eating.specs.Runs.{AreDue, IsHeld, IsMoving, IsSeated, IsSteady}
use Rattle.eating.specs.Seats.{AreSeats, AreSoFar, IsSeat, IsSoFar, seat_speed}
use Rattle.eating.proofs.Seating.{seat_done, seat_more, seat_moved}

-- what is held stays steady
pub steady_held : (old new : Progress) → IsHeld old new → IsSteady old → IsSteady new
steady_held old new h s = record {
  before_end = (let p = s.before_end in omega (arith, p, h.unit, h.at));
  fine = (let p = s.fine in omega (arith, p, h.unit));
  many_rests = ap length h.rests ∙ s.many_rests ∙ sym (ap length h.moments);
  many_speeds = h.many ∙ s.many_speeds ∙ sym (ap length h.moments);
  rest_within = λ j l o. (let inside : j < length old.moments.items = omega (arith, l, ap length h.moments) in
      let was = s.rest_within j inside (sym (ap (λ xs. get_or xs j 0) h.moments) ∙ o ∙ h.unit) in
      let same = ap (λ xs. get_or xs j 0) h.rests in
      omega (arith, was, same, ap (λ n. 1000 * n) h.unit));
}

pub held_none : (a : Progress) → IsHeld a a
held_none a = record { unit = refl; at = refl; moments = refl; rests = refl; many = refl }

pub held_on : (a b c : Progress) → IsHeld a b → IsHeld b c → IsHeld a c
held_on a b c h k = record { unit = k.unit ∙ h.unit; at = k.at ∙ h.at; moments = k.moments ∙ h.moments; rests = k.rests ∙ h.rests; many = k.many ∙ h.many }

-- one agent more sits down
pub sat_down : (lines : List LineValue) (places : List ℕ) (k j : ℕ) (line : LineValue) → slice_get lines k ≡ Some line → k < length places → get_or places k 0 ≡ 0
    → (old new demand : ℕ) (holders : List ℕ) → demand ≡ line.demand → holders ≡ holders_at line 0 → old ≡ seat_speed (take k lines) (take k places) j
    → new ≡ old + demand * count_by (λ h. h == j) holders → new ≡ seat_speed (take (k + 1) lines) (take (k + 1) places) j
sat_down lines places k j line is l first old new demand holders d h before after =
    after ∙ ap (λ n. n + demand * count_by (λ h. h == j) holders) before ∙ ap (λ n. seat_speed (take k lines) (take k places) j + n * count_by (λ h. h == j) holders) d
    ∙ ap (λ xs. seat_speed (take k lines) (take k places) j + line.demand * count_by (λ h. h == j) xs) (h ∙ ap (λ q. holders_at line q) (sym first)) ∙ sym (seat_more lines places k j line is l)

module _ (lines : List LineValue) (k : ℕ) (line : LineValue) (is : slice_get lines k ≡ Some line) (old : Progress) (moving : IsMoving lines k old) where
  pub place_known : k < length lines → k < length old.places.items
  place_known l = omega (arith, l, moving.so_far.many)

  -- it is in its seat already
  pub moved_none : IsSeat old.unit old.moments.items line (slice_index old.places.items k) → IsMoving lines (k + 1) old
  moved_none seat = record {
    steady = moving.steady;
    dues = moving.dues;
    so_far = moving.so_far;
    done = λ i x less at. elim (cases_lt i k) [
      | inl before ↦ moving.done i x before at
      | inr more ↦
          let same : k ≡ i = omega arith in
          let here : slice_get lines i ≡ Some line = subst (λ n. slice_get lines n ≡ Some line) same is in
          let one : line ≡ x = same_Some line x (sym here ∙ at) in
          subst (λ y. IsSeat old.unit old.moments.items y (slice_index old.places.items i)) one (subst (λ n. IsSeat old.unit old.moments.items line (slice_index old.places.items n)) same seat)
    ];
    speeds = moving.speeds;
  }

  -- it has a new seat
  module _ (inside : k < length old.places.items) (place : ℕ) (seat : IsSeat old.unit old.moments.items line place) where
    new_so_far : AreSoFar old.unit old.moments.items lines (set old.places.items k place)
    new_so_far = record {
      many = length-set old.places.items k place ∙ moving.so_far.many;
      each = λ i x at. elim (cases_eq i k) [
        | inl same ↦
            let here : slice_get lines i ≡ Some line = subst (λ n. slice_get lines n ≡ Some line) (sym same) is in
            let one : line ≡ x = same_Some line x (sym here ∙ at) in
            subst (λ y. IsSoFar old.unit old.moments.items y (slice_index (set old.places.items k place) i)) one
            (subst (λ n. IsSoFar old.unit old.moments.items line n) (sym (ap (λ n. get_or (set old.places.items k place) n 0) same ∙ get_or-set_same old.places.items k place 0 inside)) seat.so_far)
        | inr other ↦ subst (IsSoFar old.unit old.moments.items x) (sym (get_or-set_other old.places.items k i place 0 other)) (moving.so_far.each i x at)
      ];
    }

    pub moved_on : (new : Progress) → IsHeld old new → AreDue new → new.places.items ≡ set old.places.items k place
        → ((j : ℕ) → slice_index new.speeds.items j ≡ seat_speed lines (set old.places.items k place) j) → IsMoving lines (k + 1) new
    moved_on new h dues places speeds = record {
      steady = steady_held old new h moving.steady;
      dues = dues;
      so_far =
          subst (λ xs. AreSoFar new.unit new.moments.items lines xs) (sym places)
          (subst (λ e. AreSoFar new.unit e lines (set old.places.items k place)) (sym h.moments) (subst (λ U. AreSoFar U old.moments.items lines (set old.places.items k place)) (sym h.unit) new_so_far));
      done = λ i x less at. subst (λ xs. IsSeat new.unit new.moments.items x (slice_index xs i)) (sym places)
          (subst (λ e. IsSeat new.unit e x (slice_index (set old.places.items k place) i)) (sym h.moments)
          (subst (λ U. IsSeat U old.moments.items x (slice_index (set old.places.items k place) i)) (sym h.unit)
          (seat_done old.unit old.moments.items lines old.places.items k line place is inside seat moving.done i x less at)));
      speeds = λ j. speeds j ∙ ap (λ xs. seat_speed lines xs j) (sym places);
    }

    -- the speeds once its demand has moved along
    pub speeds_moved : (j mid new demand demand' : ℕ) (from to : List ℕ) → demand ≡ line.demand → demand' ≡ line.demand → from ≡ holders_at line (slice_index old.places.items k) → to ≡ holders_at line place
        → mid + demand * count_by (λ h. h == j) from ≡ slice_index old.speeds.items j → new ≡ mid + demand' * count_by (λ h. h == j) to
        → new ≡ seat_speed lines (set old.places.items k place) j
    speeds_moved j mid new demand demand' from to d d' f t before after =
        let moved = seat_moved lines old.places.items k j line place is inside in
        let one : demand * count_by (λ h. h == j) from ≡ line.demand * count_by (λ h. h == j) (holders_at line (get_or old.places.items k 0)) =
        ap (λ n. n * count_by (λ h. h == j) from) d ∙ ap (λ xs. line.demand * count_by (λ h. h == j) xs) f in
        let two : demand' * count_by (λ h. h == j) to ≡ line.demand * count_by (λ h. h == j) (holders_at line place) =
        ap (λ n. n * count_by (λ h. h == j) to) d' ∙ ap (λ xs. line.demand * count_by (λ h. h == j) xs) t in
        omega (arith, before, after, moving.speeds j, moved, one, two)

-- once all have moved, each is in its seat
pub all_seated : (lines : List LineValue) (n : ℕ) (old new : Progress) → length lines ≤ n → IsHeld old new → IsSteady old → IsMoving lines n new → IsSeated lines old new
all_seated lines n old new past h steady moving = record {
  seats = record {
    many = moving.so_far.many;
    each = λ i line is. subst (λ e. IsSeat old.unit e line (slice_index new.places.items i)) h.moments
        (subst (λ U. IsSeat U new.moments.items line (slice_index new.places.items i)) h.unit (moving.done i line (let l = slice_get_within lines i line is in omega (arith, l, past)) is));
  };
  many = h.many ∙ steady.many_speeds;
  speeds = moving.speeds;
  unit = h.unit;
  at = h.at;
  moments = h.moments;
  rests = h.rests;
}

-- and so from any state with the same moment
pub seated_through : (lines : List LineValue) (mid sat new : Progress) → IsHeld mid sat → IsSeated lines sat new → IsSeated lines mid new
seated_through lines mid sat new h s = record {
  seats = subst (λ e. AreSeats mid.unit e lines new.places.items) h.moments (subst (λ U. AreSeats U sat.moments.items lines new.places.items) h.unit s.seats);
  many = s.many ∙ ap length h.moments;
  speeds = s.speeds;
  unit = s.unit ∙ h.unit;
  at = s.at ∙ h.at;
  moments = s.moments ∙ h.moments;
  rests = s.rests ∙ h.rests;
}
