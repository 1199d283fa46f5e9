-- Prices pass exactly where the matrix is a random assignment that they certify, and what follows.
use Rattle.std.proofs.Common.{◌≡◌, Option, Some, None, refl, sym, ◌∙◌, ap, ◌↔◌}
use Rattle.std.specs.Option.{option_or}
use Rattle.certificate_laws.proofs.Duality.{no_more_worth}
use Rattle.certificate_laws.proofs.Dominance.{undominated}
use Rattle.certificate_laws.proofs.OffLists.{undominated_off_lists}
use Rattle.definitions.specs.Sets.{units_of, ScaledValue, IsScaledMatrix}
use Rattle.definitions.specs.Values.{ProblemValue, IsProblem, PricesValue}
use Rattle.definitions.specs.Assignment.{IsRandomAssignment}
use Rattle.definitions.specs.Certificate.{HasShapeOf, Certifies}
use Rattle.definitions.proofs.Passed.{both-pass}
use Rattle.cert_check.specs.declared.faults.Fault.{Fault}
use Rattle.cert_check.specs.declared.verdicts.Verdict.{Verdict}
use Rattle.cert_check.specs.declared.verdicts.Verdict.TheVariants.{Pass}
use Rattle.cert_check.specs.PricePass.{IsWorthMost, IsUndominated, IsUndominatedOffLists}
use Rattle.cert_check.specs.Verdicts.{verdict_of}
use Rattle.cert_check.specs.PriceFaults.{IsMatrixOf, row_fault, off_list_fault, ceiling_fault, cap_fault, falling_fault, full_fault, best_fault, first_price_fault}
use Rattle.cert_check.proofs.Assigned.{assigned, unassigned}
use Rattle.cert_check.proofs.Certified.{certified, uncertified}

-- the verdict passes exactly where there is no fault
pub passes : (o : Option Fault) → verdict_of o ≡ Pass → o ≡ None
passes None e = refl
passes (Some f) e = cc e

pub neither : {F : Type 0} (a b : Option F) → a ≡ None → b ≡ None → option_or a b ≡ None
neither a b e f = ap (λ o. option_or o b) e ∙ f

module _ (p : ProblemValue) (x : ScaledValue) (y : PricesValue) (h : IsProblem p) (m : IsScaledMatrix x) (s : IsMatrixOf p x) (f : HasShapeOf p y) where
  pub prices_pass : first_price_fault p x y ≡ None → IsRandomAssignment p x.denominator (units_of x) × Certifies p x.denominator (units_of x) y
  prices_pass e =
      let (a, e1) = both-pass (row_fault p x) _ e in
      let (b, e2) = both-pass (off_list_fault p x) _ e1 in
      let (c, e3) = both-pass (ceiling_fault p x) _ e2 in
      let (d, e4) = both-pass (cap_fault p x) _ e3 in
      let (k, e5) = both-pass (falling_fault p y) _ e4 in
      let (l, n) = both-pass (full_fault p x y) (best_fault p x y) e5 in
      (assigned p x h m s a b c d, certified p x y h m s f k l n)

  pub pass_prices : IsRandomAssignment p x.denominator (units_of x) → Certifies p x.denominator (units_of x) y → first_price_fault p x y ≡ None
  pass_prices r c =
      let (a, b, e, d) = unassigned p x h m s r in
      let (k, l, n) = uncertified p x y h m s f c in
      neither (row_fault p x) _ a (neither (off_list_fault p x) _ b (neither (ceiling_fault p x) _ e (neither (cap_fault p x) _ d (neither (falling_fault p y) _ k (neither (full_fault p x y) (best_fault p x y) l n)))))

module _ (p : ProblemValue) (x : ScaledValue) (y : PricesValue) (h : IsProblem p) (m : IsScaledMatrix x) (s : IsMatrixOf p x) (f : HasShapeOf p y) where
  -- of a verdict: it passes exactly so, and then no assignment is worth more or dominates
  pub verdict_passes : (v : Verdict) → v ≡ verdict_of (first_price_fault p x y)
      → (v ≡ Pass) ↔ (IsRandomAssignment p x.denominator (units_of x) × Certifies p x.denominator (units_of x) y)
  verdict_passes v e = (
    λ t. prices_pass p x y h m s f (passes (first_price_fault p x y) (sym e ∙ t)),
    λ w. e ∙ ap verdict_of (pass_prices p x y h m s f w.0 w.1),
  )

  pub passed_worth : (v : Verdict) → v ≡ verdict_of (first_price_fault p x y) → v ≡ Pass → IsWorthMost p y x.denominator (units_of x)
  passed_worth v w t e other r =
      let (a, c) = (verdict_passes v w).0 t in
      no_more_worth p y x.denominator (units_of x) e other h a c r

  pub passed_undominated : (v : Verdict) → v ≡ verdict_of (first_price_fault p x y) → v ≡ Pass → IsUndominated p x.denominator (units_of x)
  passed_undominated v w t e other r d =
      let (a, c) = (verdict_passes v w).0 t in
      undominated p y x.denominator (units_of x) e other h a c r d

  pub passed_off_lists : (v : Verdict) → v ≡ verdict_of (first_price_fault p x y) → v ≡ Pass → IsUndominatedOffLists p x.denominator (units_of x)
  passed_off_lists v w t e other one rows kept d =
      let (a, c) = (verdict_passes v w).0 t in
      undominated_off_lists p y x.denominator (units_of x) e other h a c one rows kept d
