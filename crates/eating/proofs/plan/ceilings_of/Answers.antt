use Rattle.std.proofs.Common.{◌≡◌, ◌+◌, ◌-◌, ◌++◌, arith, length, replicate, ap, ◌∙◌}
use Rattle.std.proofs.lemmas.List.{take_all}
use Rattle.eating.proofs.Counts.{ceilings_whole}
use Rattle.eating.proofs.plan.ceilings_of.Goals as goal

pub overflow_add-limits : goal.overflow_add-limits
overflow_add-limits c = omega (arith, c.len.ensures, c.in_ok-ceilings.ceilings.small, c.capped_total.ensures.few)

pub returns : goal.returns
returns c =
    let xs = c.in_ok-ceilings.ceilings.items in
    let many : c.len.result ≡ length xs = omega (arith, c.len.ensures, c.in_ok-ceilings.ceilings.ok) in
    let rest : c.len.result + c.capped_total.result - c.in_ok-ceilings.ceilings.len ≡ c.capped_total.result = omega (arith, c.len.ensures) in
    c.in_ok-resize.ensures.items ∙ ap (λ ys. ys ++ replicate (c.len.result + c.capped_total.result - c.in_ok-ceilings.ceilings.len) 1) (take_all (c.len.result + c.capped_total.result) xs (omega (arith, many)))
    ∙ ap (λ n. xs ++ replicate n 1) rest ∙ ceilings_whole c.args.problem.now xs c.capped_total.result c.in_ok-ceilings.ensures c.capped_total.ensures.value
