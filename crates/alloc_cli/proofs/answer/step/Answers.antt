use Rattle.std.proofs.Common.{◌≡◌, ◌∙◌, ap, length, subst, sym}
use Rattle.alloc_cli.specs.Load.{bytes_of}
use Rattle.alloc_cli.specs.Outcomes.{meaning_of_none, meaning_of_three, Answers}
use Rattle.alloc_cli.specs.Words.{file_count}
use Rattle.alloc_cli.specs.declared.words.Command.{Command}
use Rattle.alloc_cli.proofs.OutcomesLemmas.{on_none_given, on_three_given}
use Rattle.alloc_cli.proofs.answer.step.Goals as goal
use Rattle.alloc_outcomes.specs.Steps.{Steps}
use Rattle.alloc_outcomes.proofs.StepsLemmas.{steps-in}

pub returns-in-Zero : goal.returns-in-Zero
returns-in-Zero g c =
    let given = c.args.given.now in
    let count : length given ≡ 0 = c.requires.count ∙ ap file_count c.in-Zero.is in
    let part = on_none_given (meaning_of_none c.in-Zero.none).answers given count in
    let P : Command → Type 0 = λ command. Steps g.K.Sink (Answers command (bytes_of given)) c.args.out.now c.step_none.new.out c.step_none.result in
    subst P (sym c.in-Zero.is) (steps-in g.K.Sink part c.step_none.ensures)

pub returns-in-Three : goal.returns-in-Three
returns-in-Three g c =
    let given = c.args.given.now in
    let count : length given ≡ 3 = c.requires.count ∙ ap file_count c.in-Three.is in
    let part = on_three_given (meaning_of_three c.in-Three.three).answers given _ _ _ _ _ _ count c.index-given-0-in-Three.is c.index-given-1-in-Three.is c.index-given-2.is
    c.deref-in-Three.ensures.value c.deref-in-Three-2.ensures.value c.deref-in-Three-3.ensures.value in
    let P : Command → Type 0 = λ command. Steps g.K.Sink (Answers command (bytes_of given)) c.args.out.now c.step_three.new.out c.step_three.result in
    subst P (sym c.in-Three.is) (steps-in g.K.Sink part c.step_three.ensures)
