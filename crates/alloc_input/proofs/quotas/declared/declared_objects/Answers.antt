use Rattle.std.proofs.Common.{◌∙◌, ◌<◌, [], sym, ap, arith, length, take, get_or}
use Rattle.std.proofs.lemmas.List.{take_more}
use Rattle.alloc_input.specs.Objects.{declared}
use Rattle.alloc_input.proofs.OnceEach.{declared-push}
use Rattle.alloc_input.proofs.quotas.declared.declared_objects.Goals as goal

pub loop-i-init : goal.loop-i-init
unfolding declared
loop-i-init c = c.new-objects.ensures

pub loop-i-preserved : goal.loop-i-preserved
loop-i-preserved c =
    let rows = c.args.rows.now in
    let i = c.loop-i.i in
    let lt : i < length rows = omega (arith, c.len-i-end.ensures) in
    let more = rw (c.at.ensures, c.loop-i.invariant) at c.in_ok-declare.ensures in
    more ∙ declared-push (take i rows) (get_or rows i []) ∙ ap declared (sym (take_more rows i [] lt))
