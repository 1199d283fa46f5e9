-- How limits stay due, from step to step and from speed to speed.
use Rattle.std.proofs.Common.{◌≡◌, ◌≢◌, ℕ, ◌+◌, ◌*◌, ◌<◌, ◌≤◌, List, Option, Some, None, length, set, replicate, ap, sym, ◌∙◌, subst, inl, inr, arith, mul-le-mul_left}
use Rattle.std.specs.Prelude.{slice_index, slice_index_or, MatchOption, ◌^◌}
use Rattle.std.proofs.Math.Nat.{eq_of_mul-eq-mul_left, mul-lt-mul_of_pos_left}
use Rattle.std.proofs.lemmas.Bool.{cases_eq, cases_lt}
use Rattle.std.proofs.lemmas.List.{get_or-set_same, get_or-set_other, get_or-replicate, length-replicate}
use Rattle.frac128.specs.Fraction.{numerator, denominator}
use Rattle.frac128.specs.declared.fractions.Fraction.{Fraction}
use Rattle.eating.specs.declared.due.Due.{Due}
use Rattle.eating.specs.Dues.{AreDueAt, IsDue, IsSteadyAt}
use Rattle.eating.specs.Steps.{AreAdvanced, IsAdvanced, IsKey, IsWithin}

-- a step over a finer unit leaves a moment as it is, since rest and speed change together
key_scaled : (U u f s r v r' : ℕ) → 1 ≤ f → r' + v * s ≡ f * r → (o : Option Fraction) → MatchOption o (U * v ≤ u * v + r) (IsKey U u r v)
    → MatchOption o (f * U * v ≤ (f * u + s) * v + r') (IsKey (f * U) (f * u + s) r' v)
key_scaled U u f s r v r' p left None h = (let more : f * (U * v) ≤ f * (u * v + r) = mul-le-mul_left f h in omega (arith, more, left))
key_scaled U u f s r v r' p left (Some m) h = record {
  before_end = (let less : f * (u * v + r) < f * (U * v) = mul-lt-mul_of_pos_left h.before_end p in omega (arith, less, left));
  value =
      let one : f * (numerator m * (U * v)) ≡ f * ((u * v + r) * denominator m) = ap (λ n. f * n) h.value in
      let two : (r' + v * s) * denominator m ≡ f * r * denominator m = ap (λ n. n * denominator m) left in
      omega (arith, one, two);
}

-- what is open after a step was open before
was_open : (U f s at e r v e' r' : ℕ) → 1 ≤ f → IsAdvanced U f s at e r v e' r' → e' ≡ f * U → e ≡ U
was_open U f s at e r v e' r' p step is = elim (cases_eq e U) [
  | inl same ↦ same
  | inr other ↦ eq_of_mul-eq-mul_left f p e U (sym (step.full other) ∙ is)
]

-- after a step a limit is due as before, or never again if it is full now
due_after : (U u f s e r v e' r' : ℕ) (o o' : Option Fraction) → 1 ≤ f → f * u + s < f * U → IsAdvanced U f s (f * u + s) e r v e' r'
    → (e' ≡ f * u + s → o' ≡ None) → (e' ≢ f * u + s → o' ≡ o) → IsDue U u e r v o → IsDue (f * U) (f * u + s) e' r' v o'
due_after U u f s e r v e' r' o o' p before step closed kept due = record { if_open = if_open; if_full = if_full }
  where
    some_left : e ≡ U → e' ≢ f * u + s → 0 < r'
    some_left was apart = elim (cases_lt 0 r') [
      | inl some ↦ some
      | inr none ↦ absurd (apart (step.now was (omega arith)))
    ]

    if_open : e' ≡ f * U → MatchOption o' (f * U * v ≤ (f * u + s) * v + r') (IsKey (f * U) (f * u + s) r' v)
    if_open is =
        let apart : e' ≢ f * u + s = λ same. omega arith in
        let was = was_open U f s (f * u + s) e r v e' r' p step is in
        subst (λ k. MatchOption k (f * U * v ≤ (f * u + s) * v + r') (IsKey (f * U) (f * u + s) r' v)) (sym (kept apart)) (key_scaled U u f s r v r' p (step.left was) o (due.if_open was))

    if_full : e' ≢ f * U → o' ≡ None
    if_full other = elim (cases_eq e' (f * u + s)) [
      | inl now ↦ closed now
      | inr apart ↦ kept apart ∙ due.if_full (λ was. other (step.later was (some_left was apart)))
    ]

-- the same of all limits
pub dues_after : (U u f s at : ℕ) (e r v e' r' : List ℕ) (k k' : List Due) → 1 ≤ f → at ≡ f * u + s → f * u + s < f * U → AreAdvanced U f s at e r v e' r' → length k' ≡ length k
    → ((d : Due) (j : ℕ) → j < length e → slice_index e' j ≡ at → (slice_index_or k' j d).moment ≡ None)
    → ((d : Due) (j : ℕ) → j < length e → slice_index e' j ≢ at → slice_index_or k' j d ≡ slice_index_or k j d)
    → AreDueAt U u e r v k → AreDueAt (f * U) (f * u + s) e' r' v k'
dues_after U u f s at e r v e' r' k k' p is before step many closed kept due = record {
  many = many ∙ due.many ∙ sym step.many;
  each = λ d j l. (let inside : j < length e = omega (arith, l, step.many) in
      due_after U u f s (slice_index e j) (slice_index r j) (slice_index v j) (slice_index e' j) (slice_index r' j) (slice_index_or k j d).moment (slice_index_or k' j d).moment p before
      (subst (λ n. IsAdvanced U f s n (slice_index e j) (slice_index r j) (slice_index v j) (slice_index e' j) (slice_index r' j)) is (step.each j inside))
      (λ now. closed d j inside (now ∙ sym is)) (λ apart. ap (λ (x : Due). x.moment) (kept d j inside (λ now. apart (now ∙ is)))) (due.each d j inside));
}

-- another speed of one limit, with the key that it makes
pub due_set : (U u : ℕ) (e r v : List ℕ) (k k' : List Due) (n w : ℕ) → n < length e → n < length v → length k' ≡ length k
    → ((d : Due) (j : ℕ) → j ≢ n → slice_index_or k' j d ≡ slice_index_or k j d)
    → ((d : Due) → IsDue U u (slice_index e n) (slice_index r n) w (slice_index_or k' n d).moment) → AreDueAt U u e r v k → AreDueAt U u e r (set v n w) k'
due_set U u e r v k k' n w l inside many other here due = record {
  many = many ∙ due.many;
  each = λ d j m. elim (cases_eq j n) [
    | inl same ↦
        subst (λ i. IsDue U u (slice_index e i) (slice_index r i) (slice_index (set v n w) i) (slice_index_or k' i d).moment) (sym same)
        (subst (λ x. IsDue U u (slice_index e n) (slice_index r n) x (slice_index_or k' n d).moment) (sym (get_or-set_same v n w 0 inside)) (here d))
    | inr apart ↦
        subst (λ x. IsDue U u (slice_index e j) (slice_index r j) x (slice_index_or k' j d).moment) (sym (get_or-set_other v n j w 0 apart))
        (subst (λ (x : Due). IsDue U u (slice_index e j) (slice_index r j) (slice_index v j) x.moment) (sym (other d j apart)) (due.each d j m))
  ];
}

-- of a full limit any speed makes the same key
pub due_full : (U u e r v w : ℕ) (o : Option Fraction) → e ≢ U → IsDue U u e r v o → IsDue U u e r w o
due_full U u e r v w o full due = record { if_open = λ is. absurd (full is); if_full = due.if_full }

-- and of an open one it makes its own
pub due_open : (U u e r w r' : ℕ) (o : Option Fraction) → e ≡ U → r' ≡ r → MatchOption o (U * w ≤ u * w + r') (IsKey U u r' w) → IsDue U u e r w o
due_open U u e r w r' o is same key = record {
  if_open = λ _. subst (λ n. MatchOption o (U * w ≤ u * w + n) (IsKey U u n w)) same key;
  if_full = λ other. absurd (other is);
}

-- where nothing is eaten, no limit is due
pub none_due : (U u n : ℕ) (e r v : List ℕ) (k : List Due) → length e ≡ n → k ≡ replicate n (record { moment = None }) → ((j : ℕ) → slice_index v j ≡ 0) → AreDueAt U u e r v k
none_due U u n e r v k size is zero = record {
  many = ap length is ∙ length-replicate n (record { moment = None }) ∙ sym size;
  each = λ d j l. (let never : (slice_index_or k j d).moment ≡ None = ap (λ xs. (slice_index_or xs j d).moment) is ∙ ap (λ (x : Due). x.moment) (get_or-replicate n j (record { moment = None }) d (omega (arith, l, size))) in record {
    if_open = λ _. subst (λ o. MatchOption o (U * slice_index v j ≤ u * slice_index v j + slice_index r j) (IsKey U u (slice_index r j) (slice_index v j))) (sym never) (let z = zero j in let y = ap (λ x. U * x) z in omega (arith, y));
    if_full = λ _. never;
  });
}

-- after a step nothing is too large
pub steady_after : (U u f s at : ℕ) (e r v v' e' r' : List ℕ) → IsWithin U u e r v → 1 ≤ f → at ≡ f * u + s → f * u + s < f * U → f * U ≤ 2 ^ 116 → v' ≡ v → AreAdvanced U f s at e r v e' r'
    → IsSteadyAt (f * U) (f * u + s) e' r' v'
steady_after U u f s at e r v v' e' r' h p is before fine same step = record {
  before_end = before;
  fine = fine;
  many_rests = step.many_rests ∙ sym step.many;
  many_speeds = ap length same ∙ h.many_speeds ∙ sym step.many;
  rest_within = λ j l o. (let inside : j < length e = omega (arith, l, step.many) in
      let was = was_open U f s at (slice_index e j) (slice_index r j) (slice_index v j) (slice_index e' j) (slice_index r' j) p (step.each j inside) o in
      let left = (step.each j inside).left was in
      let few : f * slice_index r j ≤ f * (1000 * U) = mul-le-mul_left f (h.rest_within j inside was) in
      omega (arith, left, few));
}
