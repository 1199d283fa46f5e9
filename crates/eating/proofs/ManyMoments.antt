-- A first table that is too fine needs many moments.
use Rattle.std.proofs.Common.{◌≡◌, ℕ, ◌+◌, ◌*◌, ◌/◌, ◌<◌, ◌≤◌, ◌^◌, List, [], ◌∷◌, length, map, true, ap, sym, ◌∙◌, subst, inl, inr, arith, mul_comm, mul-le-mul_left}
use Rattle.std.specs.Prelude.{nat_eq}
use Rattle.std.specs.Set.{is_member}
use Rattle.std.proofs.Math.Nat.{mul-add, mul-div_cancel_left}
use Rattle.std.proofs.lemmas.Bool.{eqb-true, eq-eqb, or_cases, or_left, or_right}
use Rattle.std.proofs.lemmas.List.{length-map}
use Rattle.definitions.specs.Values.{Market, ProblemValue, IsProblem, market_of}
use Rattle.definitions.specs.Eating.{moment_at, demand_sum, IsEatingTable, IsLowestTerms, IsPartialTable}
use Rattle.definitions.specs.Certificate.{distinct_moments}
use Rattle.definitions.proofs.Members.{number_test, member_at}
use Rattle.eating_laws.proofs.Bound.{partial_bound}
use Rattle.eating_laws.proofs.Fine.{scale_right, scale_eating, below_from_product}
use Rattle.eating_laws.proofs.Limits.{demands_some}
use Rattle.eating_laws.proofs.Moments.{moment_listed}
use Rattle.eating_laws.proofs.Right.{eating_right, partial_right}
use Rattle.eating_laws.proofs.TooFine.{Agree, agree_scaled, up_to}
use Rattle.eating.specs.Answers.{IsTooFineAt, HasManyMoments}

-- what is in a list is in its image
member_mapped : (f : ℕ → ℕ) (xs : List ℕ) (x : ℕ) → is_member nat_eq xs x ≡ true → is_member nat_eq (map f xs) (f x) ≡ true
member_mapped f [] x h = h
member_mapped f (y ∷ xs) x h = elim (or_cases (nat_eq x y) (is_member nat_eq xs x) h) [
  | inl here ↦ or_left (nat_eq (f x) (f y)) (is_member nat_eq (map f xs) (f x)) (eq-eqb (f x) (f y) (ap f (eqb-true x y here)))
  | inr there ↦ or_right (nat_eq (f x) (f y)) (is_member nat_eq (map f xs) (f x)) (member_mapped f xs x there)
]

-- a table up to a moment m and an eating table of one market
module _ (market : Market) (D D' m : ℕ) (e e' : List ℕ) (partial : IsPartialTable market D m e) (table : IsEatingTable market D' e') where
  agree_upto : Agree D D' (D' * m + 1) e e'
  agree_upto =
      let known = up_to market D m e partial in
      let end : D' * (m + 1) ≤ D' * D = mul-le-mul_left D' (let before : m < D = known.before_end in let next : m + 1 ≤ D = omega arith in next) in
      let one : 1 ≤ D' = table.positive in
      agree_scaled market D D' (D' * m + 1) (D' * m + 1) (D * D') e e' (partial.size ∙ sym table.size)
      (scale_right market D' D m e table.positive (partial_right market D m e partial))
      (eating_right market (D * D') (map (λ x. D * x) e') (scale_eating market D D' e' known.positive table))
      (omega arith) (omega (arith, end, one, mul-add D' m 1, mul_comm D' D))

  -- each moment of the first up to m is a moment of the second before the end, over the first's denominator
  moment_shared : (j : ℕ) → j < length e → moment_at e j ≤ m → is_member nat_eq (map (λ x. D * x / D') (distinct_moments e' D')) (moment_at e j) ≡ true
  moment_shared j l early =
      let one : 0 < D' = (let positive = table.positive in omega arith) in
      let until : D' * moment_at e j ≤ D' * m = mul-le-mul_left D' early in
      let same : D' * moment_at e j ≡ D * moment_at e' j = omega (arith, agree_upto.cut j, until) in
      let end : D' * (m + 1) ≤ D' * D = mul-le-mul_left D' (let before : m < D = partial.before_end in let next : m + 1 ≤ D = omega arith in next) in
      let before : moment_at e' j < D' = below_from_product D (moment_at e' j) D' 0 (omega (arith, same, until, end, one, mul-add D' m 1, mul_comm D' D)) in
      let back : D * moment_at e' j / D' ≡ moment_at e j = ap (λ n. n / D') (sym same) ∙ mul-div_cancel_left (moment_at e j) one in
      subst (λ n. is_member nat_eq (map (λ x. D * x / D') (distinct_moments e' D')) n ≡ true) back
      (member_mapped (λ x. D * x / D') (distinct_moments e' D') (moment_at e' j) (moment_listed D' e' j (omega (arith, l, partial.size, table.size)) before))

  -- so the moments of the second bound the denominator of the first in lowest terms
  bound_by_table : IsLowestTerms D e → 1 ≤ demand_sum market → D ≤ demand_sum market ^ length (distinct_moments e' D')
  bound_by_table lowest eaters =
      subst (λ n. D ≤ demand_sum market ^ n) (length-map (distinct_moments e' D') (λ x. D * x / D'))
      (partial_bound market D m e (map (λ x. D * x / D') (distinct_moments e' D')) partial lowest eaters moment_shared)

-- where a table is too fine, there are many moments
pub many_moments : (p : ProblemValue) (D : ℕ) → IsProblem p → IsTooFineAt p D → HasManyMoments p
many_moments p D h fine = record {
  moments = λ D' e' table. (let bound = bound_by_table (market_of p) D D' fine.moment fine.table e' fine.first.partial table fine.first.lowest (demands_some p h) in omega (arith, bound, above));
  limits = (let bound = partial_bound (market_of p) D fine.moment fine.table fine.table fine.first.partial fine.first.lowest (demands_some p h) (λ j l m. member_at nat_eq number_test fine.table j 0 l) in
      let many = ap (λ n. demand_sum (market_of p) ^ n) fine.first.partial.size in
      omega (arith, bound, many, above));
}
  where
    above : 2 ^ 116 < D
    above = fine.first.above
