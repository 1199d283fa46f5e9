use Rattle.std.proofs.Common.{subst}
use Rattle.std.proofs.lemmas.Result.{err_from_is_err_and}
use Rattle.definitions.specs.Eaters.{market_of_eater}
use Rattle.eating.specs.Answers.{IsTooFineIn}
use Rattle.eating.proofs.Kept.{eaten_of_problem}
use Rattle.eating.proofs.ManyMoments.{many_moments}
use Rattle.eating.proofs.answer.eat.Goals as goal

pub returns-clause-eaten : goal.returns-clause-eaten
returns-clause-eaten c =
    let eater = c.in_ok-eater.ensures in
    let eaten = c.in_ok-finish.ensures.eaten in
    (eaten.0, eaten_of_problem c.args.problem.now eater.lawful _ eater.kept eaten.0 _ eaten.1)

pub returns-in_err-finish-clause-refused : goal.returns-in_err-finish-clause-refused
returns-in_err-finish-clause-refused c =
    let told = err_from_is_err_and c.from_residual-in_err-finish.result c.from_residual-in_err-finish.ensures.1 in
    rw (told.1, told.2) (subst (λ v. IsTooFineIn (market_of_eater v) c.in_err-finish.field-0.0.denominator) c.in_ok-eater.ensures.kept c.in_err-finish.ensures.too_fine)

pub returns-in_err-finish-clause-bound : goal.returns-in_err-finish-clause-bound
returns-in_err-finish-clause-bound c =
    let told = err_from_is_err_and c.from_residual-in_err-finish.result c.from_residual-in_err-finish.ensures.1 in
    let D = c.in_err-finish.field-0.0.denominator in
    let fine = subst (λ v. IsTooFineIn (market_of_eater v) D) c.in_ok-eater.ensures.kept c.in_err-finish.ensures.too_fine in
    rw (told.1, told.2) (many_moments c.args.problem.now D c.in_ok-eater.ensures.lawful fine)
