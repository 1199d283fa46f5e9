use Rattle.std.proofs.Common.{◌<◌, sym, refl, arith, length, []}
use Rattle.std.proofs.lemmas.List.{get_or_read}
use Rattle.alloc_input.proofs.CellFacts.{row_grown, rows_grown, rectangle-past}
use Rattle.alloc_input.proofs.quotas.marks.mark_agent.Goals as goal

pub returns-then-agent-marks-clause-cells : goal.returns-then-agent-marks-clause-cells
returns-then-agent-marks-clause-cells c =
    sym (rectangle-past c.args.marks.now.agents c.args.marks.now.columns c.args.agent c.args.marks.now.rows.items c.args.columns.now c.if-agent-marks.true)

pub returns-clause-cells : goal.returns-clause-cells
returns-clause-cells c =
    let lt : c.args.agent < length c.args.marks.now.rows.items = omega (arith, c.requires.filled, c.if-agent-marks.false) in
    let read = get_or_read c.args.marks.now.rows.items c.args.agent c.index_mut-row.result.now lt c.index_mut-row.ensures.value [] in
    row_grown c.args.marks.now.agents c.args.marks.now.columns c.args.agent c.args.marks.now.rows.items c.args.columns.now c.add_to_row.new.row lt (rw read at c.in_ok-count.ensures.adds)

pub returns-clause-grown : goal.returns-clause-grown
returns-clause-grown c =
    let lt : c.args.agent < length c.args.marks.now.rows.items = omega (arith, c.requires.filled, c.if-agent-marks.false) in
    let read = get_or_read c.args.marks.now.rows.items c.args.agent c.index_mut-row.result.now lt c.index_mut-row.ensures.value [] in (
      rows_grown c.args.marks.now.agents c.args.marks.now.columns c.args.agent c.args.marks.now.rows.items c.args.columns.now c.add_to_row.new.row lt (rw read at c.in_ok-count.ensures.adds)
          c.args.marks.now.count c.in_ok-count.count c.requires.marked c.in_ok-count.ensures.below (rw read at c.in_ok-count.ensures.count),
      refl,
      refl,
    )
