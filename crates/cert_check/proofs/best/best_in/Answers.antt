use Rattle.std.proofs.Common.{◌≡◌, ◌<◌, ap, length, sym, ◌∙◌, None, arith}
use Rattle.definitions.specs.Values.{list_at, prices_value}
use Rattle.definitions.proofs.FirstFaults.{first-passes, first-found}
use Rattle.cert_check.specs.PriceFaults.{best_look}
use Rattle.definitions.proofs.Problems.{list_short}
use Rattle.cert_check.proofs.best.best_in.Goals as goal

pub returns-in-Some : goal.returns-in-Some
returns-in-Some c =
    let within : c.loop-place.place < length (list_at c.args.problem.now c.args.agent) = omega (arith, ap length c.list.ensures.value) in
    sym (first-found (best_look c.args.problem.now c.args.x.now (prices_value c.args.prices.now) c.args.agent) c.loop-place.place (length (list_at c.args.problem.now c.args.agent)) c.in-Some.fault within (sym c.in-Some.ensures)) ∙ c.loop-place.invariant

pub loop-place-preserved : goal.loop-place-preserved
loop-place-preserved c =
    let none : best_look c.args.problem.now c.args.x.now (prices_value c.args.prices.now) c.args.agent c.loop-place.place ≡ None = sym c.best_at.ensures ∙ c.in_default.is in
    let within : c.loop-place.place < length (list_at c.args.problem.now c.args.agent) = omega (arith, ap length c.list.ensures.value) in
    sym (first-passes (best_look c.args.problem.now c.args.x.now (prices_value c.args.prices.now) c.args.agent) c.loop-place.place (length (list_at c.args.problem.now c.args.agent)) within none) ∙ c.loop-place.invariant

pub overflow_cast-place-end : goal.overflow_cast-place-end
overflow_cast-place-end c = omega (arith, (list_short c.args.problem.now c.args.agent c.requires.priced.problem c.requires.agent).1, ap length c.list.ensures.value)
