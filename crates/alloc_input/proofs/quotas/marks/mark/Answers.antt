use Rattle.std.proofs.Common.{◌≡◌, ◌*◌, refl, arith}
use Rattle.alloc_input.proofs.MarkFacts.{rectangle-all, marked_along}
use Rattle.alloc_input.proofs.quotas.marks.mark.Goals as goal

pub returns-then-marks-clause-checked : goal.returns-then-marks-clause-checked
returns-then-marks-clause-checked c =
    let m = c.args.marks.now in
    let all : m.count ≡ m.agents * m.columns = omega (arith, c.if-marks.true) in
    let full = rectangle-all m.agents m.columns m.rows.items c.args.columns.now m.count c.args.most c.args.agents.now c.requires.marked all c.requires.within in
    (full.0, (full.1, (c.requires.marked, refl, refl)))

pub returns-clause-checked : goal.returns-clause-checked
returns-clause-checked c =
    marked_along c.mark_rows.result c.args.marks.now c.fill.new.marks c.mark_rows.new.marks c.args.agents.now c.args.columns.now c.args.most c.in_ok-fill.ensures.cells c.in_ok-fill.ensures.grown c.mark_rows.ensures.checked
