use Rattle.std.proofs.Common.{◌≡◌, ◌∙◌, ◌<◌, ◌≤◌, refl, arith, drop, length, get_or, []}
use Rattle.std.proofs.lemmas.List.{length-drop, take_all}
use Rattle.std.proofs.lemmas.Result.{err_from_is_err_and}
use Rattle.alloc_input.specs.Stated.{member_of}
use Rattle.alloc_input.specs.Quotas.{check_member, check_members}
use Rattle.definitions.proofs.Passed.{field-after}
use Rattle.alloc_input.proofs.Members.{field_here, field_next, field_end, member_more}
use Rattle.alloc_input.proofs.Stops.{stops-here}
use Rattle.alloc_input.proofs.quotas.labels.read_named.Goals as goal

pub returns-in_err-take_member : goal.returns-in_err-take_member
unfolding check_members
returns-in_err-take_member c =
    let fs = drop 2 c.args.row.now in
    let lt : c.loop-j.j < length fs = omega (arith, length-drop 2 c.args.row.now) in
    let x : c.field_at.result.now ≡ get_or fs c.loop-j.j [] = c.field_at.ensures ∙ field-after c.args.row.now 2 c.loop-j.j [] in
    let p = err_from_is_err_and c.from_residual.result c.from_residual.ensures.1 in
    rw (p.1, p.2) (stops-here c.in_err-take_member.field-0.0 _ _ (λ k e. c.loop-j.invariant.0 ∙ field_here (check_member c.args.bundle c.args.names.now) fs c.loop-j.j k lt e) (rw x at c.in_err-take_member.ensures))

pub loop-j-preserved : goal.loop-j-preserved
loop-j-preserved c =
    let fs = drop 2 c.args.row.now in
    let lt : c.loop-j.j < length fs = omega (arith, length-drop 2 c.args.row.now) in
    let x : c.field_at.result.now ≡ get_or fs c.loop-j.j [] = c.field_at.ensures ∙ field-after c.args.row.now 2 c.loop-j.j [] in
    let t = rw x at c.in_ok-take_member.ensures in (
      c.loop-j.invariant.0 ∙ field_next (check_member c.args.bundle c.args.names.now) fs c.loop-j.j lt t.0,
      member_more (member_of c.args.names.now) fs c.loop-j.j _ _ _ lt refl c.loop-j.invariant.1 t.1,
    )

pub returns : goal.returns
unfolding check_members
returns c =
    let fs = drop 2 c.args.row.now in
    let le : length fs ≤ c.loop-j.j = omega (arith, length-drop 2 c.args.row.now) in (
      c.loop-j.invariant.0 ∙ field_end (check_member c.args.bundle c.args.names.now) fs c.loop-j.j le,
      c.loop-j.invariant.1 ∙ rw (take_all c.loop-j.j fs le) refl,
    )
