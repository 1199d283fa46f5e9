-- The first place at which an agent envies another, found along its list.
use Rattle.std.proofs.Common.{◌≡◌, ℕ, zero, suc, ◌+◌, ◌<◌, ◌≤◌, ◌∙◌, cond, Option, Some, None, length, refl, sym, ap, inl, inr, arith, subst}
use Rattle.std.specs.Prelude.{MatchOption}
use Rattle.std.proofs.lemmas.Bool.{cases_lt, lt-ltb, le-ltb}
use Rattle.definitions.specs.declared.Cell.{Cell}
use Rattle.definitions.specs.Sets.{prefix_sum}
use Rattle.definitions.specs.Values.{ProblemValue, list_at}
use Rattle.definitions.specs.Fairness.{Envies}
use Rattle.definitions.proofs.FirstFaults.{none-is-in, found-is-first}
use Rattle.fairness_core.specs.declared.point.EnvyPoint.{EnvyPoint}
use Rattle.fairness_core.specs.Envy.{envy_look, first_envy, IsEnvyPoint}

module _ (p : ProblemValue) (x : Cell → ℕ) (i j : ℕ) where
  abbrev own_at : ℕ → ℕ
  own_at k = prefix_sum x i (list_at p i) k

  abbrev other_at : ℕ → ℕ
  other_at k = prefix_sum x j (list_at p i) k

  abbrev point_at : ℕ → EnvyPoint
  point_at k = record { place = k + 1; own = own_at (k + 1); other = other_at (k + 1) }

  -- the other has no more here
  pub look_none : (k own other : ℕ) → own ≡ own_at (k + 1) → other ≡ other_at (k + 1) → other ≤ own → envy_look p x i j k ≡ None
  look_none k own other e f l = ap (λ b. cond b (Some (point_at k)) None) (le-ltb (own_at (k + 1)) (other_at (k + 1)) (omega (arith, e, f, l)))

  -- the other has more here
  pub look_some : (k own other : ℕ) → own ≡ own_at (k + 1) → other ≡ other_at (k + 1) → own < other
      → envy_look p x i j k ≡ Some (record { place = k + 1; own = own; other = other })
  look_some k own other e f l =
      ap (λ b. cond b (Some (point_at k)) None) (lt-ltb (own_at (k + 1)) (other_at (k + 1)) (omega (arith, e, f, l)))
      ∙ ap (λ n. Some (record { place = k + 1; own = n; other = other_at (k + 1) })) (sym e)
      ∙ ap (λ n. Some (record { place = k + 1; own = own; other = n })) (sym f)

  -- where nothing is found the other has no more
  none_less : (k : ℕ) → envy_look p x i j k ≡ None → other_at (k + 1) ≤ own_at (k + 1)
  none_less k e = elim (cases_lt (own_at (k + 1)) (other_at (k + 1))) [
    | inl less ↦ absurd (none (sym (ap (λ b. cond b (Some (point_at k)) None) (lt-ltb (own_at (k + 1)) (other_at (k + 1)) less)) ∙ e))
    | inr more ↦ more
  ]
    where
      none : Some (point_at k) ≡ None → ⊥
      none h = cc

  -- what is found has both sums, of which the other's is more
  found_is : (k : ℕ) (point : EnvyPoint) → envy_look p x i j k ≡ Some point → (point_at k ≡ point) × (own_at (k + 1) < other_at (k + 1))
  found_is k point e = elim (cases_lt (own_at (k + 1)) (other_at (k + 1))) [
    | inl less ↦ (same (sym (ap (λ b. cond b (Some (point_at k)) None) (lt-ltb (own_at (k + 1)) (other_at (k + 1)) less)) ∙ e), less)
    | inr more ↦ absurd (none (sym (ap (λ b. cond b (Some (point_at k)) None) (le-ltb (own_at (k + 1)) (other_at (k + 1)) more)) ∙ e))
  ]
    where
      same : Some (point_at k) ≡ Some point → point_at k ≡ point
      same h = cc

      none : ◌≡◌ {A = Option EnvyPoint} None (Some point) → ⊥
      none h = cc

  -- no place is the first exactly where the one doesn't envy the other
  pub none_envies : first_envy p x i j ≡ None → Envies p x i j → ⊥
  none_envies e (zero, inside, more) = omega (arith, more)
  none_envies e (suc k, inside, more) =
      let less = none_less k (none-is-in (envy_look p x i j) 0 (length (list_at p i)) e k (omega arith) (omega (arith, inside))) in
      let here : suc k ≡ k + 1 = omega arith in
      let own : own_at (suc k) ≡ own_at (k + 1) = ap own_at here in
      let other : other_at (suc k) ≡ other_at (k + 1) = ap other_at here in
      omega (arith, less, own, other, more)

  -- the first place at which the one envies the other
  pub first_is : (point : EnvyPoint) → first_envy p x i j ≡ Some point → IsEnvyPoint p x i j point
  first_is point e =
      let (k, low, high, found, before) = found-is-first (envy_look p x i j) 0 (length (list_at p i)) point e in
      let here = found_is k point found in
      subst (IsEnvyPoint p x i j) here.0 (record {
        counted = omega arith;
        within = omega (arith, high);
        own = refl;
        other = refl;
        more = here.1;
        before = earlier k (λ m l. before m (omega arith) (omega (arith, l)));
      })
    where
      earlier : (k : ℕ) → ((m : ℕ) → m < k → envy_look p x i j m ≡ None) → (n : ℕ) → n < k + 1 → other_at n ≤ own_at n
      earlier k before zero l = omega arith
      earlier k before (suc n) l =
          let less = none_less n (before n (omega (arith, l))) in
          let here : suc n ≡ n + 1 = omega arith in
          let own : own_at (suc n) ≡ own_at (n + 1) = ap own_at here in
          let other : other_at (suc n) ≡ other_at (n + 1) = ap other_at here in
          omega (arith, less, own, other)

  -- either way
  pub point_clause : (o : Option EnvyPoint) → o ≡ first_envy p x i j → MatchOption o (Envies p x i j → ⊥) (IsEnvyPoint p x i j)
  point_clause None e = none_envies (sym e)
  point_clause (Some point) e = first_is point (sym e)

-- who has an envy point envies
pub envies_at : (p : ProblemValue) (x : Cell → ℕ) (i j : ℕ) (point : EnvyPoint) → IsEnvyPoint p x i j point → Envies p x i j
envies_at p x i j point h = (point.place, h.within, omega (arith, h.own, h.other, h.more))
