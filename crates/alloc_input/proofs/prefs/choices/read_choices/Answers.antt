use Rattle.std.proofs.Common.{◌≡◌, ◌∙◌, ◌<◌, ◌≤◌, refl, arith, drop, length, get_or, [], take}
use Rattle.std.proofs.lemmas.List.{length-drop, take_all, take_more}
use Rattle.std.proofs.lemmas.Result.{err_from_is_err_and}
use Rattle.alloc_input.specs.Prefs.{columns_of, check_choices, check_choice}
use Rattle.definitions.proofs.Passed.{among-here, among-next, among-all, field-after}
use Rattle.alloc_input.proofs.Stops.{stops-here}
use Rattle.alloc_input.proofs.Stamps.{next-stamps, empty-list}
use Rattle.alloc_input.proofs.prefs.choices.read_choices.Goals as goal

pub loop-j-init : goal.loop-j-init
unfolding columns_of
loop-j-init c = record {
  lawful = refl;
  after = (c.new-list.ensures.items, refl);
  stamps = next-stamps _ c.args.others c.args.stamps.now c.requires.stamps;
  shown = rw c.new-list.ensures.items (empty-list _ c.args.others c.args.stamps.now c.requires.stamps);
}

pub returns-in_err-take_choice-clause-read : goal.returns-in_err-take_choice-clause-read
unfolding check_choices
returns-in_err-take_choice-clause-read c =
    let inv = c.loop-j.invariant in
    let fs = drop 1 c.args.row.now in
    let lt : c.loop-j.j < length fs = omega (arith, length-drop 1 c.args.row.now) in
    let x : c.field-choice.result.now ≡ get_or fs c.loop-j.j [] = c.field-choice.ensures ∙ field-after c.args.row.now 1 c.loop-j.j [] in
    let p = err_from_is_err_and c.from_residual.result c.from_residual.ensures.1 in
    rw (p.1, p.2) (stops-here c.in_err-take_choice.field-0.0 _ _ (λ k e. among-here (check_choice c.args.objects.now) fs c.loop-j.j [] k lt inv.lawful e) (rw x at (c.in_err-take_choice.ensures.taken (take c.loop-j.j fs) inv.after)))

pub loop-j-preserved : goal.loop-j-preserved
loop-j-preserved c =
    let inv = c.loop-j.invariant in
    let fs = drop 1 c.args.row.now in
    let lt : c.loop-j.j < length fs = omega (arith, length-drop 1 c.args.row.now) in
    let x : c.field-choice.result.now ≡ get_or fs c.loop-j.j [] = c.field-choice.ensures ∙ field-after c.args.row.now 1 c.loop-j.j [] in
    let t = rw x at (c.in_ok-take_choice.ensures.taken (take c.loop-j.j fs) inv.after) in
    record {
      lawful = among-next (check_choice c.args.objects.now) fs c.loop-j.j [] lt inv.lawful t.0;
      after = rw (take_more fs c.loop-j.j [] lt) t.1;
      stamps = c.in_ok-take_choice.ensures.stamps;
      shown = c.in_ok-take_choice.ensures.shown;
    }

pub returns-clause-read : goal.returns-clause-read
unfolding check_choices
returns-clause-read c =
    let inv = c.loop-j.invariant in
    let fs = drop 1 c.args.row.now in
    let le : length fs ≤ c.loop-j.j = omega (arith, length-drop 1 c.args.row.now) in
    let all = take_all c.loop-j.j fs le in
    let items = c.in_ok-push.ensures.items in
    (among-all (check_choice c.args.objects.now) fs c.loop-j.j le inv.lawful, rw (items, inv.after.0, all, c.len.ensures.value) refl)
