use Rattle.std.proofs.Common.{◌<◌, ◌≤◌, ◌∙◌, Some, ap, refl, arith, length}
use Rattle.std.proofs.lemmas.Bool.{leb-true, leb-false}
use Rattle.alloc_input.proofs.Stops.{failed, passed, stopped-on}
use Rattle.alloc_input.proofs.CellFacts.{count_is}
use Rattle.alloc_input.proofs.MarkFacts.{rectangle-start, rectangle-next, rectangle-over, rectangle-end}
use Rattle.alloc_input.proofs.quotas.marks.mark_rows.Goals as goal

pub loop-agent-init : goal.loop-agent-init
loop-agent-init c = record {
  cells = rectangle-start c.args.marks.now.agents c.args.marks.now.columns c.args.marks.now.rows.items c.args.columns.now;
  grown = (c.requires.marked, refl, refl);
  filled = c.requires.filled;
  within = c.requires.within;
}

pub returns-in_err-need-clause-checked : goal.returns-in_err-need-clause-checked
returns-in_err-need-clause-checked c =
    let m = c.args.marks.now in
    let inv = c.loop-agent.invariant in
    let grown = c.in_ok-mark_agent.ensures.grown in
    let lt : c.loop-agent.agent-index < length c.args.agents.now = omega arith in
    let next = rectangle-next m.agents m.columns m.rows.items c.args.columns.now _ _ c.loop-agent.agent-index _ c.args.agents.now _ _ lt refl inv.grown.1 inv.grown.2 inv.cells c.in_ok-mark_agent.ensures.cells in
    let many = count_is _ _ c.mark_agent.new.marks.rows.items _ grown.0 in
    let over = failed _ _ _ c.in_err-need.ensures in
    let most = leb-false _ _ over.0 in
    stopped-on _ _ _ _ c.from_residual-in_err-need.ensures.1 (rectangle-over m.agents m.columns m.rows.items c.args.columns.now _ _ _ c.args.agents.now _ next many most ∙ ap (λ k. Some k) over.1)

pub loop-agent-preserved : goal.loop-agent-preserved
loop-agent-preserved c =
    let m = c.args.marks.now in
    let inv = c.loop-agent.invariant in
    let grown = c.in_ok-mark_agent.ensures.grown in
    let lt : c.loop-agent.agent-index < length c.args.agents.now = omega arith in
    let next = rectangle-next m.agents m.columns m.rows.items c.args.columns.now _ _ c.loop-agent.agent-index _ c.args.agents.now _ _ lt refl inv.grown.1 inv.grown.2 inv.cells c.in_ok-mark_agent.ensures.cells in
    record {
      cells = next;
      grown = (grown.0, grown.1 ∙ inv.grown.1, grown.2 ∙ inv.grown.2);
      filled = c.in_ok-mark_agent.ensures.filled;
      within = leb-true _ _ (passed _ _ c.in_ok-need.ensures.0);
    }

pub returns-clause-checked : goal.returns-clause-checked
returns-clause-checked c =
    let m = c.args.marks.now in
    let inv = c.loop-agent.invariant in
    let le : length c.args.agents.now ≤ c.loop-agent.agent-index = omega arith in
    let many = count_is _ _ c.loop-agent.marks.rows.items _ inv.grown.0 in
    let end = rectangle-end m.agents m.columns m.rows.items c.args.columns.now c.loop-agent.agent-index _ c.args.most c.args.agents.now _ le inv.cells many inv.within in
    (end.0, (end.1, inv.grown))
