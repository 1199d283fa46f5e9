use Rattle.std.proofs.Common.{◌∙◌, ◌<◌, ◌-◌, length, arith}
use Rattle.std.proofs.lemmas.Bool.Decides.{nat_tests}
use Rattle.lottery_file.proofs.PieceFacts.{follows-give}
use Rattle.lottery_file.proofs.totals.follows_gives.Goals as goal

pub returns : goal.returns
returns c =
    let some : 0 < length c.args.gives.now = grind (arith, nat_tests) in
    c.comes_after.ensures ∙ follows-give c.args.agent c.args.column c.args.gives.now (length c.args.gives.now - 1) _ (omega (arith, some))
