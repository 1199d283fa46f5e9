use Rattle.std.proofs.Common.{◌≡◌, ◌∙◌, sym, length, arith}
use Rattle.std.proofs.lemmas.Bool.Decides.{nat_tests}
use Rattle.std.proofs.lemmas.Result.{err_from_is_err_and}
use Rattle.lottery_file.specs.Reading.{held}
use Rattle.lottery_file.proofs.CheckFacts.{give-early, give-nothing}
use Rattle.lottery_file.proofs.checks.read_give.Goals as goal

pub returns-in_err-need-2 : goal.returns-in_err-need-2
unfolding held
returns-in_err-need-2 c =
    let four : length c.args.row.now ≡ 4 = grind (arith, nat_tests) in
    let agent = rw c.field.ensures at c.in_ok-agent.ensures in
    let object = rw c.field-2.ensures at c.in_ok-object.ensures in
    let p = err_from_is_err_and c.from_residual-in_err-need-2.result c.from_residual-in_err-need-2.ensures.1 in
    rw (p.1, p.2, c.in_err-need-2.ensures.1) (give-early (held c.args.state.now) c.args.row.now _ _ four agent object (sym c.precedes.ensures ∙ c.in_err-need-2.ensures.0))

pub returns-in_err-need-3 : goal.returns-in_err-need-3
unfolding held
returns-in_err-need-3 c =
    let four : length c.args.row.now ≡ 4 = grind (arith, nat_tests) in
    let agent = rw c.field.ensures at c.in_ok-agent.ensures in
    let object = rw c.field-2.ensures at c.in_ok-object.ensures in
    let count = rw c.field-3.ensures at c.in_ok-count.ensures in
    let p = err_from_is_err_and c.from_residual-in_err-need-3.result c.from_residual-in_err-need-3.ensures.1 in
    rw (p.1, p.2, c.in_err-need-3.ensures.1) (give-nothing (held c.args.state.now) c.args.row.now _ _ _ four agent object (sym c.precedes.ensures ∙ c.in_ok-need-2.ensures) count c.in_err-need-3.ensures.0)
