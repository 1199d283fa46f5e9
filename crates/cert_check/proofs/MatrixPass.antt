-- A matrix passes exactly where it is the one that is due.
use Rattle.std.proofs.Common.{◌≡◌, ℕ, List, [], ◌∷◌, map, ap, sym, refl, ◌∙◌, None, ◌↔◌}
use Rattle.std.specs.List.{AllByRecursion}
use Rattle.std.proofs.lemmas.Bool.{eq-eqb, eqb-true, not_from_true}
use Rattle.definitions.specs.Sets.{cell_of, units_of, unit_at, all_cells, IsCellWithin, ScaledValue, IsScaledMatrix}
use Rattle.definitions.proofs.Cells.{all_within}
use Rattle.definitions.proofs.Sums.{all_units}
use Rattle.definitions.proofs.Passed.{both-pass}
use Rattle.cert_check.specs.declared.verdicts.Verdict.{Verdict}
use Rattle.cert_check.specs.declared.verdicts.Verdict.TheVariants.{Pass}
use Rattle.cert_check.specs.Verdicts.{verdict_of}
use Rattle.cert_check.specs.MatrixFaults.{HaveOneShape, AreSame, denominator_fault, entry_look, entry_fault, first_matrix_fault}
use Rattle.cert_check.proofs.Quiet.{quiet, silent, not_false, quiet_in, silent_in}
use Rattle.cert_check.proofs.PricePass.{passes, neither}

map_same : {X Y : Type 0} (P : X → Type 0) (f g : X → Y) (xs : List X) → ((x : X) → P x → f x ≡ g x) → AllByRecursion P xs → map f xs ≡ map g xs
map_same P f g [] h a = refl
map_same P f g (x ∷ xs) h a = ap (λ y. y ∷ map f xs) (h x a.0) ∙ ap (λ ys. g x ∷ ys) (map_same P f g xs h a.1)

module _ (x y : ScaledValue) (m : IsScaledMatrix x) (n : IsScaledMatrix y) (s : HaveOneShape x y) where
  matrix_pass : first_matrix_fault x y ≡ None → AreSame x y
  matrix_pass e =
      let (a, b) = both-pass (denominator_fault x y) (entry_fault x y) e in
      let each : map (units_of x) (all_cells x.agents x.columns) ≡ map (units_of y) (all_cells x.agents x.columns) =
      map_same (IsCellWithin x.agents x.columns) (units_of x) (units_of y) (all_cells x.agents x.columns)
      (λ c w. eqb-true (units_of x c) (units_of y c) (not_false _ (quiet _ _ (quiet_in (entry_look x y) (λ _. x.columns) x.agents b c.agent c.object w.0 w.1)))) (all_within x.agents x.columns) in
      let same : map (units_of y) (all_cells x.agents x.columns) ≡ map (units_of y) (all_cells y.agents y.columns) =
      ap (λ k. map (units_of y) (all_cells k x.columns)) s.agents ∙ ap (λ k. map (units_of y) (all_cells y.agents k)) s.columns in
      record {
        denominator = eqb-true x.denominator y.denominator (not_false _ (quiet _ _ a));
        units = sym (all_units x.agents x.columns x.units m.shape) ∙ each ∙ same ∙ all_units y.agents y.columns y.units n.shape;
      }

  pass_matrix : AreSame x y → first_matrix_fault x y ≡ None
  pass_matrix w =
      neither (denominator_fault x y) (entry_fault x y) (silent _ _ (not_from_true _ (eq-eqb x.denominator y.denominator w.denominator)))
      (silent_in (entry_look x y) (λ _. x.columns) x.agents (λ i a l k.
      let units : units_of x (cell_of i a) ≡ units_of y (cell_of i a) =
      ap (λ j. unit_at j x.units (cell_of i a)) s.columns ∙ ap (λ (us : List ℕ). unit_at y.columns us (cell_of i a)) w.units in
      silent _ _ (not_from_true _ (eq-eqb (units_of x (cell_of i a)) (units_of y (cell_of i a)) units))))

  pub matrix_verdict : (v : Verdict) → v ≡ verdict_of (first_matrix_fault x y) → (v ≡ Pass) ↔ AreSame x y
  matrix_verdict v e = (λ t. matrix_pass (passes (first_matrix_fault x y) (sym e ∙ t)), λ w. e ∙ ap verdict_of (pass_matrix w))
