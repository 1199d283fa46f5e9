use Rattle.std.proofs.Common.{◌≡◌, ◌≢◌, ◌∙◌, sym, ap, subst, length, arith, Some}
use Rattle.std.proofs.lemmas.Bool.Decides.{nat_tests}
use Rattle.lottery_file.specs.Said.{Before, add_word}
use Rattle.lottery_file.specs.Reading.{held, StopsAt}
use Rattle.lottery_file.proofs.FieldFacts.{stop-kept}
use Rattle.lottery_file.proofs.RecordFacts.{blank-passes, known-check}
use Rattle.lottery_file.proofs.records.take_record.Goals as goal

pub returns-then-is_empty : goal.returns-then-is_empty
returns-then-is_empty c =
    let none : length c.args.row.now ≡ 0 = grind (arith, nat_tests) in
    blank-passes (held c.args.state.now) c.args.row.now none

pub returns-in_err-take_word : goal.returns-in_err-take_word
unfolding held
returns-in_err-take_word c =
    let some : length c.args.row.now ≢ 0 = grind (arith, nat_tests) in
    let word = rw c.field.ensures at (sym c.in_ok-word.ensures.ok_part ∙ c.word_of.ensures) in
    let same = known-check (held c.args.state.now) c.args.row.now c.in_ok-word.word some (sym c.in_ok-need.ensures ∙ c.is_text.ensures) word (sym c.may_follow.ensures ∙ c.in_ok-need-2.ensures) (sym c.is_due.ensures ∙ c.in_ok-need-3.ensures) in
    stop-kept _ c.from_residual-in_err-take_word.result c.in_err-take_word.field-0.0 _ c.from_residual-in_err-take_word.ensures.1 (subst (StopsAt c.in_err-take_word.field-0.0) same c.in_err-take_word.ensures)

pub returns : goal.returns
unfolding held add_word
returns c =
    let some : length c.args.row.now ≢ 0 = grind (arith, nat_tests) in
    let word = rw c.field.ensures at (sym c.in_ok-word.ensures.ok_part ∙ c.word_of.ensures) in
    let same = known-check (held c.args.state.now) c.args.row.now c.in_ok-word.word some (sym c.in_ok-need.ensures ∙ c.is_text.ensures) word (sym c.may_follow.ensures ∙ c.in_ok-need-2.ensures) (sym c.is_due.ensures ∙ c.in_ok-need-3.ensures) in
    (sym same ∙ c.in_ok-take_word.ensures.0, rw (← word) (ap (λ (b : Before). record b { last = Some c.in_ok-word.word }) c.in_ok-take_word.ensures.1))
