use Rattle.std.proofs.Common.{◌∙◌, ◌<◌, ◌≤◌, sym, arith, length}
use Rattle.std.proofs.lemmas.Result.{err_from_is_err_and}
use Rattle.alloc_input.proofs.GrowFacts.{part_le, grown-past, grown-limits, grown-values, grown-counted}
use Rattle.alloc_input.proofs.Stops.{stops_along}
use Rattle.alloc_input.proofs.quotas.open_sets.grow.Goals as goal

pub returns-then-at-len-clause-checked : goal.returns-then-at-len-clause-checked
returns-then-at-len-clause-checked c =
    let past : length c.args.sets.now.items ≤ c.args.place = omega (arith, c.len.ensures, c.if-at-len.true) in
    grown-past c.args.size.agents c.args.size.objects c.args.sets.now.items c.args.total.now c.args.place c.args.agents.now c.args.columns.now c.requires past

pub grow_marks-requires-clause-part : goal.grow_marks-requires-clause-part
grow_marks-requires-clause-part c =
    let lt : c.args.place < length c.args.sets.now.items = omega (arith, c.len.ensures, c.if-at-len.false) in
    part_le c.args.size.agents c.args.size.objects c.args.sets.now.items c.args.total.now c.args.place c.index_mut.result.now c.requires lt (sym c.index_mut.ensures.value)

pub returns-in_err-total-clause-checked : goal.returns-in_err-total-clause-checked
returns-in_err-total-clause-checked c =
    let lt : c.args.place < length c.args.sets.now.items = omega (arith, c.len.ensures, c.if-at-len.false) in
    let p = err_from_is_err_and c.from_residual.result c.from_residual.ensures.1 in
    rw (p.1, p.2) (stops_along c.in_err-total.field-0.0 _ _
    (grown-limits c.args.size.agents c.args.size.objects c.args.sets.now.items c.args.total.now c.args.place c.args.agents.now c.args.columns.now c.index_mut.result.now c.requires lt (sym c.index_mut.ensures.value))
    c.in_err-total.ensures)

pub returns-clause-checked : goal.returns-clause-checked
returns-clause-checked c =
    let lt : c.args.place < length c.args.sets.now.items = omega (arith, c.len.ensures, c.if-at-len.false) in
    let here = sym c.index_mut.ensures.value in
    let h = c.in_ok-total.ensures in (
      sym (grown-limits c.args.size.agents c.args.size.objects c.args.sets.now.items c.args.total.now c.args.place c.args.agents.now c.args.columns.now c.index_mut.result.now c.requires lt here) ∙ h.0,
      grown-values c.args.size.agents c.args.size.objects c.args.sets.now.items c.args.total.now c.args.place c.args.agents.now c.args.columns.now c.index_mut.result.now c.requires lt here c.grow_marks.new.marks h.1.0 h.1.1,
    )

pub returns-clause-counted : goal.returns-clause-counted
returns-clause-counted c =
    let lt : c.args.place < length c.args.sets.now.items = omega (arith, c.len.ensures, c.if-at-len.false) in
    let here = sym c.index_mut.ensures.value in
    let h = c.in_ok-total.ensures in
    grown-counted c.args.size.agents c.args.size.objects c.args.sets.now.items c.args.total.now c.args.place c.args.agents.now c.args.columns.now c.index_mut.result.now c.requires lt here c.grow_marks.new.marks h.1.0 h.1.1
    c.in_ok-total.field-0 h.1.2 h.1.3
