use Rattle.std.proofs.Common.{sym, append-nil, arith}
use Rattle.definitions.specs.Gives.{gives_along}
use Rattle.lottery_file.proofs.WrittenRows.{gives_next}
use Rattle.lottery_file.proofs.body.add_gives.Goals as goal

pub loop-cell-init : goal.loop-cell-init
unfolding gives_along
loop-cell-init c = sym (append-nil _)

pub loop-cell-preserved : goal.loop-cell-preserved
loop-cell-preserved c =
    gives_next c.args.agents.now c.args.columns.now c.args.counts.now c.loop-cell.cell 0 c.args.into.now.items c.loop-cell.into.items _ (omega arith) c.loop-cell.invariant c.in_ok-add_count.ensures
