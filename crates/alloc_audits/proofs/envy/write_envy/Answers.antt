use Rattle.std.proofs.Common.{◌∙◌, ℕ, List, ap, length}
use Rattle.std.proofs.lemmas.List.{length_push}
use Rattle.alloc_outcomes.specs.Answers.{IsText}
use Rattle.alloc_outcomes.proofs.AnswersLemmas.{itself, text_part}
use Rattle.alloc_outcomes.proofs.StepsLemmas.{steps-in, steps-short}
use Rattle.alloc_audits.specs.Envy.{envy_due}
use Rattle.alloc_audits.proofs.EnvyLemmas.{envy_due-is}
use Rattle.alloc_audits.proofs.envy.write_envy.Goals as goal
use Rattle.definitions.specs.Texts.{null_name}
use Rattle.lottery_file.specs.Lotteries.{lottery_value}

pub envy_of_shares-requires-clause-agents : goal.envy_of_shares-requires-clause-agents
envy_of_shares-requires-clause-agents g c =
    let s = c.requires in
    s.lottery.rows ∙ ap (λ (names : List (List ℕ)). length names) s.agents

pub envy_of_shares-requires-clause-columns : goal.envy_of_shares-requires-clause-columns
envy_of_shares-requires-clause-columns g c =
    let s = c.requires in
    s.lottery.columns ∙ ap (λ (names : List (List ℕ)). length names) s.columns ∙ length_push c.args.problem.now.objects null_name

pub returns-in_err-text : goal.returns-in_err-text
returns-in_err-text g c = steps-short g.K.Sink _ _ c.from_residual.ensures.1

pub returns : goal.returns
returns g c =
    let p = c.args.problem.now in
    let l = lottery_value c.args.lottery.now in
    let due = envy_due-is p l c.deref.result.now (c.deref.ensures.value ∙ c.in_ok-text.ensures) in
    steps-in g.K.Sink (text_part (envy_due p l) c.deref.result.now due (itself (IsText (envy_due p l)))) c.write_text.ensures
