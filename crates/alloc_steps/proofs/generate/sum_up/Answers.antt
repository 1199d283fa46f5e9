use Rattle.std.proofs.Common.{◌∙◌, refl, subst, sym}
use Rattle.alloc_outcomes.proofs.AnswersLemmas.{after, itself}
use Rattle.alloc_outcomes.proofs.StepsLemmas.{steps-in, steps-refused, steps-short}
use Rattle.alloc_steps.specs.Generate.{IsSummary, SummaryAnswers}
use Rattle.alloc_steps.proofs.GenerateLemmas.{summary_part}
use Rattle.alloc_steps.proofs.generate.sum_up.Goals as goal
use Rattle.definitions.specs.Lotteries.{Solves}
use Rattle.definitions.specs.Sets.{IsBihierarchy, IsFamily}
use Rattle.lottery_file.specs.Lotteries.{lottery_value}

pub trees_apart-requires-clause-lawful : goal.trees_apart-requires-clause-lawful
trees_apart-requires-clause-lawful g c = subst IsFamily (sym c.family.ensures.value) c.family.ensures.lawful.family

pub trees_apart-requires-clause-apart : goal.trees_apart-requires-clause-apart
trees_apart-requires-clause-apart g c = subst IsBihierarchy (sym c.family.ensures.value) c.requires.apart

pub returns-in_err-trees : goal.returns-in_err-trees
returns-in_err-trees g c = steps-short g.K.Sink _ _ c.from_residual.ensures.1

pub returns-in_err-eaten : goal.returns-in_err-eaten
returns-in_err-eaten g c =
    steps-refused g.K.Sink _ _ (itself (SummaryAnswers c.args.problem.now)) c.in_err-eaten.ensures c.from_residual-in_err-eaten.ensures.1

pub returns-in_err-prices : goal.returns-in_err-prices
returns-in_err-prices g c = steps-short g.K.Sink _ _ c.from_residual-in_err-prices.ensures.1

pub returns-in_err-lottery : goal.returns-in_err-lottery
returns-in_err-lottery g c = steps-short g.K.Sink _ _ c.from_residual-in_err-lottery.ensures.1

pub summary-requires-clause-rows : goal.summary-requires-clause-rows
summary-requires-clause-rows g c = c.in_ok-lottery.ensures.lottery.rows

pub summary-requires-clause-columns : goal.summary-requires-clause-columns
summary-requires-clause-columns g c = c.in_ok-lottery.ensures.lottery.columns

pub returns-in_err-text : goal.returns-in_err-text
returns-in_err-text g c = steps-short g.K.Sink _ _ c.from_residual-in_err-text.ensures.1

pub returns : goal.returns
returns g c =
    let eaten = after (itself (SummaryAnswers c.args.problem.now)) c.in_ok-eaten.eaten c.in_ok-eaten.ensures in
    let good : IsSummary (Solves c.args.problem.now) c.deref.result.now = record {
      lottery = lottery_value c.in_ok-lottery.lottery;
      plain = refl;
      has = c.in_ok-lottery.ensures;
      is = c.deref.ensures.value ∙ c.in_ok-text.ensures;
    } in
    steps-in g.K.Sink (summary_part (Solves c.args.problem.now) c.deref.result.now good eaten) c.write_text.ensures
