use Rattle.std.proofs.Common.{◌≡◌, ◌∙◌, ◌<◌, ◌≤◌, sym, refl, arith, drop, length, [], true, ℕ, List}
use Rattle.std.specs.Prelude.{codes}
use Rattle.std.specs.Str.{bytes_eq}
use Rattle.std.proofs.lemmas.List.{length-drop, take_all, take_more}
use Rattle.std.proofs.lemmas.Result.{err_from_is_err_and}
use Rattle.definitions.specs.Texts.{Row, first_field}
use Rattle.definitions.proofs.Passed.{among-here, among-next, among-all, field-after}
use Rattle.alloc_input.specs.Matrices.{check_header, check_heading}
use Rattle.alloc_input.proofs.Stops.{passed-is, stops-here}
use Rattle.alloc_input.proofs.matrix.header.read_header.Goals as goal

word_is : (row : Row) (text : List ℕ) → text ≡ first_field row → true ≡ bytes_eq text (codes "agent") → bytes_eq (first_field row) (codes "agent") ≡ true
word_is row text e h = rw (← e) (sym h)

pub loop-j-init : goal.loop-j-init
loop-j-init c = record { lawful = refl; named = c.new-objects.ensures }

pub returns-in_err-take_heading : goal.returns-in_err-take_heading
unfolding check_header
returns-in_err-take_heading c =
    let inv = c.loop-j.invariant in
    let fs = drop 1 c.args.row.now in
    let lt : c.loop-j.j < length fs = omega (arith, length-drop 1 c.args.row.now) in
    let x = c.field-in-loop-j.ensures ∙ field-after c.args.row.now 1 c.loop-j.j [] in
    let p = err_from_is_err_and c.from_residual-in_err-take_heading.result c.from_residual-in_err-take_heading.ensures.1 in
    rw (p.1, p.2) (stops-here c.in_err-take_heading.field-0.0 _ _ (λ k e. rw (word_is c.args.row.now _ c.field.ensures (passed-is _ _ _ c.in_ok-need.ensures.0 c.is_word.ensures)) (among-here check_heading fs c.loop-j.j [] k lt inv.lawful e)) (rw (inv.named, x) at c.in_err-take_heading.ensures))

pub loop-j-preserved : goal.loop-j-preserved
loop-j-preserved c =
    let inv = c.loop-j.invariant in
    let fs = drop 1 c.args.row.now in
    let lt : c.loop-j.j < length fs = omega (arith, length-drop 1 c.args.row.now) in
    let x = c.field-in-loop-j.ensures ∙ field-after c.args.row.now 1 c.loop-j.j [] in
    let t = rw (inv.named, x) at c.in_ok-take_heading.ensures in
    record { lawful = among-next check_heading fs c.loop-j.j [] lt inv.lawful t.0; named = t.1 ∙ sym (take_more fs c.loop-j.j [] lt) }

pub returns : goal.returns
unfolding check_header
returns c =
    let inv = c.loop-j.invariant in
    let fs = drop 1 c.args.row.now in
    let le : length fs ≤ c.loop-j.j = omega (arith, length-drop 1 c.args.row.now) in
    (rw (word_is c.args.row.now _ c.field.ensures (passed-is _ _ _ c.in_ok-need.ensures.0 c.is_word.ensures)) (among-all check_heading fs c.loop-j.j le inv.lawful), inv.named ∙ take_all c.loop-j.j fs le)
