use Rattle.std.proofs.Common.{◌≡◌, ◌<◌, ap, length, sym, ◌∙◌, None, arith}
use Rattle.definitions.specs.Values.{list_at, prices_value}
use Rattle.definitions.proofs.FirstFaults.{first-passes, first-found}
use Rattle.cert_check.specs.PriceFaults.{better_look}
use Rattle.definitions.proofs.Problems.{list_short}
use Rattle.cert_check.proofs.best.better_at.Goals as goal

pub returns-in-Some : goal.returns-in-Some
returns-in-Some c =
    let within : c.loop-other.other < length (list_at c.args.problem.now c.args.agent) = omega (arith, ap length c.list.ensures.value) in
    sym (first-found (better_look c.args.problem.now c.args.x.now (prices_value c.args.prices.now) c.args.agent c.args.place) c.loop-other.other (length (list_at c.args.problem.now c.args.agent)) c.in-Some.fault within (sym c.in-Some.ensures)) ∙ c.loop-other.invariant

pub loop-other-preserved : goal.loop-other-preserved
loop-other-preserved c =
    let none : better_look c.args.problem.now c.args.x.now (prices_value c.args.prices.now) c.args.agent c.args.place c.loop-other.other ≡ None = sym c.better_than.ensures ∙ c.in_default.is in
    let within : c.loop-other.other < length (list_at c.args.problem.now c.args.agent) = omega (arith, ap length c.list.ensures.value) in
    sym (first-passes (better_look c.args.problem.now c.args.x.now (prices_value c.args.prices.now) c.args.agent c.args.place) c.loop-other.other (length (list_at c.args.problem.now c.args.agent)) within none) ∙ c.loop-other.invariant

pub overflow_cast-other-end : goal.overflow_cast-other-end
overflow_cast-other-end c = omega (arith, (list_short c.args.problem.now c.args.agent c.requires.priced.problem c.requires.agent).1, ap length c.list.ensures.value)
