use Rattle.std.proofs.Common.{◌∙◌, ◌<◌, Some, length, sym, ap, arith}
use Rattle.std.proofs.lemmas.Bool.{not-false, not-true}
use Rattle.table_text.proofs.KnownNames.{none-there}
use Rattle.alloc_input.proofs.Choices.{take-blank, take-null, take-column, unknown-choice, repeated-choice, known-column}
use Rattle.alloc_input.proofs.Stamps.{stamps-set, list-set}
use Rattle.alloc_input.proofs.Stops.{failed, passed, passed-is, stopped-on}
use Rattle.alloc_input.proofs.prefs.choices.take_choice.Goals as goal

pub returns-then-is_empty-clause-taken : goal.returns-then-is_empty-clause-taken
returns-then-is_empty-clause-taken c = λ earlier after. take-blank _ _ _ _ _ c.if-is_empty.ensures after

pub returns-then-is_null-clause-taken : goal.returns-then-is_null-clause-taken
returns-then-is_null-clause-taken c = λ earlier after. take-null _ _ _ _ _ c.if-is_empty.ensures (not-true _ (passed _ _ c.in_ok-need.ensures.0)) c.if-is_null.ensures after

pub returns-in_err-column-clause-taken : goal.returns-in_err-column-clause-taken
returns-in_err-column-clause-taken c = λ earlier after.
    let closed = not-true _ (passed _ _ c.in_ok-need.ensures.0) in
    let lawful = passed-is _ _ _ c.in_ok-need-2.ensures.0 c.lawful_name.ensures in
    let unknown = failed _ _ _ c.in_err-column.ensures in
    stopped-on _ _ _ _ c.from_residual-in_err-column.ensures.1
    (unknown-choice _ _ _ _ _ c.if-is_empty.ensures closed c.if-is_null.ensures lawful (sym (none-there _ unknown.0)) after ∙ ap (λ k. Some k) unknown.1)

pub is_stamped-requires : goal.is_stamped-requires
is_stamped-requires c =
    let l = known-column c.args.objects.now c.args.field.now c.in_ok-column.column (sym c.in_ok-column.ensures.1) in
    omega (arith, l, c.requires.stamps.wide)

pub returns-in_err-need-3-clause-taken : goal.returns-in_err-need-3-clause-taken
returns-in_err-need-3-clause-taken c = λ earlier after.
    let known = sym c.in_ok-column.ensures.1 in
    let l = known-column c.args.objects.now c.args.field.now c.in_ok-column.column known in
    let closed = not-true _ (passed _ _ c.in_ok-need.ensures.0) in
    let lawful = passed-is _ _ _ c.in_ok-need-2.ensures.0 c.lawful_name.ensures in
    let repeated = failed _ _ _ c.in_err-need-3.ensures in
    let on = sym (not-false _ repeated.0) ∙ c.is_stamped.ensures ∙ c.requires.shown c.in_ok-column.column (omega (arith, l, c.requires.stamps.wide)) in
    stopped-on _ _ _ _ c.from_residual-in_err-need-3.ensures.1
    (repeated-choice _ _ _ _ _ _ c.if-is_empty.ensures closed c.if-is_null.ensures lawful known after ∙ rw (← on) (ap (λ k. Some k) repeated.1))

pub returns-clause-taken : goal.returns-clause-taken
returns-clause-taken c = λ earlier after.
    let known = sym c.in_ok-column.ensures.1 in
    let l = known-column c.args.objects.now c.args.field.now c.in_ok-column.column known in
    let within : c.in_ok-column.column < length c.args.stamps.now = omega (arith, l, c.requires.stamps.wide) in
    let closed = not-true _ (passed _ _ c.in_ok-need.ensures.0) in
    let lawful = passed-is _ _ _ c.in_ok-need-2.ensures.0 c.lawful_name.ensures in
    let off = sym (not-true _ (passed _ _ c.in_ok-need-3.ensures.0)) ∙ c.is_stamped.ensures ∙ c.requires.shown c.in_ok-column.column within in
    rw c.in_ok-push.ensures.items (take-column _ _ _ _ _ _ c.if-is_empty.ensures closed c.if-is_null.ensures lawful known off after)

pub returns-clause-stamps : goal.returns-clause-stamps
returns-clause-stamps c =
    let l = known-column c.args.objects.now c.args.field.now c.in_ok-column.column (sym c.in_ok-column.ensures.1) in
    stamps-set _ c.args.agent c.in_ok-column.column c.args.stamps.now (omega (arith, l, c.requires.stamps.wide)) c.requires.stamps

pub returns-clause-shown : goal.returns-clause-shown
returns-clause-shown c =
    let l = known-column c.args.objects.now c.args.field.now c.in_ok-column.column (sym c.in_ok-column.ensures.1) in
    rw c.in_ok-push.ensures.items (list-set c.args.agent c.in_ok-column.column c.args.stamps.now c.args.list.now.items (omega (arith, l, c.requires.stamps.wide)) c.requires.shown)
