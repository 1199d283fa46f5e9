use Rattle.std.proofs.Common.{FitsSigned, ◌∙◌, sym, subst, refl, rules, w64}
use Rattle.std.proofs.lemmas.Int.{to_z-of_z}
use mir.Val.{SFits}
use Rattle.definitions.specs.Values.{prices_value}
use Rattle.cert_check.proofs.Gains.{price_read, read_fits, gain_read, gain_fits}
use Rattle.cert_check.proofs.best.gain.Goals as goal

pub overflow_cast-result-2 : goal.overflow_cast-result-2
overflow_cast-result-2 c =
    let price = price_read c.args.problem.now (prices_value c.args.prices.now) c.args.agent c.args.place c.args.row.now c.list.result.now c.requires.priced.problem c.requires.row c.requires.agent c.requires.place c.list.ensures.value in
    read_fits c.args.problem.now (prices_value c.args.prices.now) c.args.agent c.args.place c.requires.priced.problem c.requires.priced.shape c.requires.priced.small c.requires.agent c.requires.place _ price

pub overflow_sub-result : goal.overflow_sub-result
overflow_sub-result c =
    let price = price_read c.args.problem.now (prices_value c.args.prices.now) c.args.agent c.args.place c.args.row.now c.list.result.now c.requires.priced.problem c.requires.row c.requires.agent c.requires.place c.list.ensures.value in
    let fits : SFits w64 c.worth.result = search rules in
    let worth = to_z-of_z w64 c.worth.result fits ∙ c.worth.ensures in
    let gain = gain_read c.args.problem.now (prices_value c.args.prices.now) c.args.agent c.args.place c.requires.priced.problem c.requires.priced.shape c.requires.priced.small c.requires.agent c.requires.place _ _ _ worth price refl in
    subst (FitsSigned w64) (sym gain) (gain_fits c.args.problem.now (prices_value c.args.prices.now) c.args.agent c.args.place c.requires.priced.problem c.requires.priced.shape c.requires.priced.small c.requires.agent c.requires.place)

pub returns : goal.returns
returns c =
    let price = price_read c.args.problem.now (prices_value c.args.prices.now) c.args.agent c.args.place c.args.row.now c.list.result.now c.requires.priced.problem c.requires.row c.requires.agent c.requires.place c.list.ensures.value in
    let fits : SFits w64 c.worth.result = search rules in
    let worth = to_z-of_z w64 c.worth.result fits ∙ c.worth.ensures in
    let gain = gain_read c.args.problem.now (prices_value c.args.prices.now) c.args.agent c.args.place c.requires.priced.problem c.requires.priced.shape c.requires.priced.small c.requires.agent c.requires.place _ _ _ worth price refl in
    let whole = gain_fits c.args.problem.now (prices_value c.args.prices.now) c.args.agent c.args.place c.requires.priced.problem c.requires.priced.shape c.requires.priced.small c.requires.agent c.requires.place in
    to_z-of_z w64 _ (subst (FitsSigned w64) (sym gain) whole) ∙ gain
