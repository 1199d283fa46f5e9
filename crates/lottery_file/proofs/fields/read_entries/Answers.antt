use Rattle.std.proofs.Common.{◌≡◌, ◌∙◌, ◌<◌, ◌≤◌, ◌+◌, ◌∷◌, sym, refl, ap, arith, drop, length, get_or, [], take, map, ℕ, append_assoc}
use Rattle.std.specs.Prelude.{sum}
use Rattle.std.proofs.lemmas.List.{length-drop, take_all, take_more, append-nil, map-append}
use Rattle.std.proofs.lemmas.List.Sums.{sum_by-append}
use Rattle.definitions.specs.Texts.{number}
use Rattle.lottery_file.specs.Checks.{check_entries}
use Rattle.definitions.proofs.Passed.{among-here, among-next, among-all, field-after}
use Rattle.lottery_file.proofs.FieldFacts.{stop-kept}
use Rattle.lottery_file.specs.declared.faults.Stop.TheVariants as stop
use Rattle.lottery_file.proofs.fields.read_entries.Goals as goal

pub loop-j-init : goal.loop-j-init
loop-j-init c = (refl, sym (append-nil _))

pub returns-in_err-entry : goal.returns-in_err-entry
unfolding check_entries
returns-in_err-entry c =
    let inv = c.loop-j.invariant in
    let fs = drop 2 c.args.row.now in
    let lt : c.loop-j.j < length fs = omega (arith, length-drop 2 c.args.row.now) in
    let x : c.field.result.now ≡ get_or fs c.loop-j.j [] = c.field.ensures ∙ field-after c.args.row.now 2 c.loop-j.j [] in
    let total : sum c.loop-j.units ≡ sum c.args.units.now + sum (map number (take c.loop-j.j fs)) = ap sum inv.1 ∙ sum_by-append (λ (x : ℕ). x) c.args.units.now (map number (take c.loop-j.j fs)) in
    stop-kept _ c.from_residual.result (stop.Unlawful c.in_err-entry.field-0.0) _ c.from_residual.ensures.1
    (among-here _ fs c.loop-j.j [] _ lt inv.0 (rw (x, c.total.ensures, total) at c.in_err-entry.ensures.check))

pub loop-j-preserved : goal.loop-j-preserved
loop-j-preserved c =
    let inv = c.loop-j.invariant in
    let fs = drop 2 c.args.row.now in
    let lt : c.loop-j.j < length fs = omega (arith, length-drop 2 c.args.row.now) in
    let x : c.field.result.now ≡ get_or fs c.loop-j.j [] = c.field.ensures ∙ field-after c.args.row.now 2 c.loop-j.j [] in
    let total : sum c.loop-j.units ≡ sum c.args.units.now + sum (map number (take c.loop-j.j fs)) = ap sum inv.1 ∙ sum_by-append (λ (x : ℕ). x) c.args.units.now (map number (take c.loop-j.j fs)) in
    let read = rw (x, c.total.ensures, total) at c.in_ok-entry.ensures.check in
    let more = map-append number (take c.loop-j.j fs) (get_or fs c.loop-j.j [] ∷ []) in
    (among-next _ fs c.loop-j.j [] lt inv.0 read.0, c.in_ok-push.ensures.ok ∙ rw (read.1, inv.1, take_more fs c.loop-j.j [] lt, more) (append_assoc c.args.units.now (map number (take c.loop-j.j fs)) _))

pub returns : goal.returns
unfolding check_entries
returns c =
    let inv = c.loop-j.invariant in
    let fs = drop 2 c.args.row.now in
    let le : length fs ≤ c.loop-j.j = omega (arith, length-drop 2 c.args.row.now) in
    (among-all _ fs c.loop-j.j le inv.0, inv.1 ∙ rw (take_all c.loop-j.j fs le) refl)
