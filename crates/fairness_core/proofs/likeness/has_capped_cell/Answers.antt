use Rattle.std.proofs.Common.{◌≡◌, length, ap, arith}
use Rattle.std.proofs.lemmas.Bool.{lt-ltb, ltb-true}
use Rattle.definitions.specs.Values.{list_at}
use Rattle.fairness_core.proofs.Capped.{capped_where, capped_needs}
use Rattle.fairness_core.proofs.likeness.has_capped_cell.Goals as goal

pub returns-then-demand-gt1 : goal.returns-then-demand-gt1
returns-then-demand-gt1 c =
    let p = c.args.problem.now in
    let many : length c.list.result.now ≡ length (list_at c.args.problem.now c.args.agent) = ap length c.list.ensures.value in (
      λ t. (let two = ltb-true 1 (length c.list.result.now) t in capped_where p c.args.agent c.list.ensures.lawful c.requires (omega (arith, c.if-demand-gt1.true, c.demand.ensures.value)) (omega (arith, many, two))),
      λ h. (let n = capped_needs p c.args.agent c.list.ensures.lawful c.requires h in lt-ltb 1 (length c.list.result.now) (omega (arith, n.1, many))),
    )
