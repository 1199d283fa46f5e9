-- The earliest moment is that of a limit whose key no other comes before.
use Rattle.std.proofs.Common.{◌≡◌, ℕ, ◌+◌, ◌*◌, ◌<◌, ◌≤◌, List, Option, Some, None, length, ap, sym, ◌∙◌, subst, inl, inr, arith, mul-le-mul_left}
use Rattle.std.specs.Prelude.{slice_index, slice_index_or, MatchOption}
use Rattle.std.proofs.lemmas.Bool.{cases_eq}
use Rattle.std.proofs.lemmas.Option.{none-some}
use Rattle.frac128.specs.Fraction.{numerator, denominator}
use Rattle.frac128.specs.declared.fractions.Fraction.{Fraction}
use Rattle.eating.specs.declared.due.Due.{Due}
use Rattle.eating.specs.Dues.{AreDueAt, IsDue}
use Rattle.eating.specs.Orders.{IsNoLaterThan, through}
use Rattle.eating.specs.Steps.{IsKey, IsNoLater, IsNext}
use Rattle.eating.proofs.Keys.{key_below_one}

key_small : (U u r v : ℕ) (m : Fraction) → IsKey U u r v m → numerator m < denominator m
key_small U u r v m h = key_below_one (numerator m) (denominator m) (U * v) (u * v + r) h.value h.before_end m.positive

-- a moment before the end is no later than one that isn't
late : (U u r v : ℕ) (m : Fraction) → numerator m < denominator m → U * v ≤ u * v + r → IsNoLater U u r v m
late U u r v m less h =
    let one : U * v * numerator m ≤ U * v * denominator m = mul-le-mul_left (U * v) (let k : numerator m ≤ denominator m = omega arith in k) in
    let two : denominator m * (U * v) ≤ denominator m * (u * v + r) = mul-le-mul_left (denominator m) h in
    omega (arith, one, two)

-- an open limit whose key doesn't come before the moment isn't full before it
no_later : (U u r v : ℕ) (m : Fraction) → numerator m < denominator m → (o : Option Fraction) → MatchOption o (U * v ≤ u * v + r) (IsKey U u r v) → IsNoLaterThan (Some m) o → IsNoLater U u r v m
no_later U u r v m small None h first = late U u r v m small h
no_later U u r v m small (Some y) h first =
    through (numerator y) (denominator y) (numerator m) (denominator m) (U * v) (u * v + r) y.positive first (let same = h.value in omega (arith, same))

-- no key comes before this one, which is that of limit t
module _ (U u : ℕ) (e r v : List ℕ) (t : ℕ) (known : t < length e) (due : ℕ → Option Fraction)
    (each : (j : ℕ) → j < length e → IsDue U u (slice_index e j) (slice_index r j) (slice_index v j) (due j)) where
  next_from : (o : Option Fraction) → o ≡ due t → ((j : ℕ) → j < length e → IsNoLaterThan o (due j)) → IsNext U u (length e) e r v o
  next_from None is first = λ j l o. none j (due j) (first j l) ((each j l).if_open o)
    where
      none : (j : ℕ) (k : Option Fraction) → IsNoLaterThan None k → MatchOption k (U * slice_index v j ≤ u * slice_index v j + slice_index r j) (IsKey U u (slice_index r j) (slice_index v j))
          → U * slice_index v j ≤ u * slice_index v j + slice_index r j
      none j None p h = h
      none j (Some y) p h = absurd p
  next_from (Some m) is first = record {
    limit = t;
    known = known;
    is_open = is_open;
    key = key;
    least = λ j l o. no_later U u (slice_index r j) (slice_index v j) m (key_small U u (slice_index r t) (slice_index v t) m key) (due j) ((each j l).if_open o) (first j l);
  }
    where
      is_open : slice_index e t ≡ U
      is_open = elim (cases_eq (slice_index e t) U) [
        | inl same ↦ same
        | inr other ↦ absurd (none-some m (sym ((each t known).if_full other) ∙ sym is))
      ]

      key : IsKey U u (slice_index r t) (slice_index v t) m
      key = subst (λ o. MatchOption o (U * slice_index v t ≤ u * slice_index v t + slice_index r t) (IsKey U u (slice_index r t) (slice_index v t))) (sym is) ((each t known).if_open is_open)

-- the key at the top
pub next_due : (U u : ℕ) (e r v : List ℕ) (dues : List Due) → AreDueAt U u e r v dues → (t : ℕ) (key : Due) → t < length dues → ((d : Due) → key ≡ slice_index_or dues t d)
    → ((d : Due) (j : ℕ) → j < length dues → IsNoLaterThan (slice_index_or dues t d).moment (slice_index_or dues j d).moment) → IsNext U u (length e) e r v key.moment
next_due U u e r v dues h t key known is first =
    next_from U u e r v t (omega (arith, known, h.many)) (λ j. (slice_index_or dues j key).moment) (h.each key) key.moment (ap (λ (k : Due). k.moment) (is key))
    (λ j l. subst (λ (k : Due). IsNoLaterThan k.moment (slice_index_or dues j key).moment) (sym (is key)) (first key j (omega (arith, l, h.many))))

-- where there is no limit, none is next
pub next_none : (U u : ℕ) (e r v : List ℕ) → length e ≡ 0 → IsNext U u (length e) e r v None
next_none U u e r v none = λ j l o. absurd (omega (arith, none, l))
