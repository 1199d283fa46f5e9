use Rattle.std.proofs.Common.{◌≡◌, false, refl, sym, arith}
use Rattle.std.proofs.lemmas.Bool.{both_ways}
use Rattle.definitions.specs.Values.{demand_at}
use Rattle.fairness_core.proofs.Capped.{alike_from, alike_turned, capped_unlike, stated_alike}
use Rattle.fairness_core.proofs.likeness.alike.Goals as goal

pub returns-then-has_capped_cell : goal.returns-then-has_capped_cell
returns-then-has_capped_cell c = (
  λ t. absurd (both_ways false refl t),
  λ h. absurd (capped_unlike c.args.problem.now c.args.one c.args.other c.demand.ensures.lawful c.if-one-other.false (c.has_capped_cell.ensures.0 c.if-has_capped_cell.true) h),
)

pub returns-then-has_capped_cell-2 : goal.returns-then-has_capped_cell-2
returns-then-has_capped_cell-2 c = (
  λ t. absurd (both_ways false refl t),
  λ h. absurd (capped_unlike c.args.problem.now c.args.other c.args.one c.demand.ensures.lawful (λ e. c.if-one-other.false (sym e)) (c.has_capped_cell-2.ensures.0 c.if-has_capped_cell-2.true)
      (alike_turned c.args.problem.now c.args.one c.args.other h)),
)

pub returns : goal.returns
returns c =
    let demands : demand_at c.args.problem.now c.args.one ≡ demand_at c.args.problem.now c.args.other = omega (arith, c.if-demand.false, c.demand.ensures.value, c.demand-2.ensures.value) in (
      λ t. alike_from c.args.problem.now c.args.one c.args.other c.demand.ensures.lawful demands
          (λ k. both_ways c.has_capped_cell.result c.if-has_capped_cell.false (c.has_capped_cell.ensures.1 k))
          (λ k. both_ways c.has_capped_cell-2.result c.if-has_capped_cell-2.false (c.has_capped_cell-2.ensures.1 k))
          (c.are_held_alike.ensures.alike.0 t),
      λ h. c.are_held_alike.ensures.alike.1 (stated_alike c.args.problem.now c.args.one c.args.other h),
    )
