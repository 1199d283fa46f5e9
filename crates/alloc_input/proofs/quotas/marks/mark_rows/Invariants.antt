use Rattle.std.proofs.Common.{◌≡◌, ◌≤◌, length, take}
use Rattle.alloc_input.specs.Cells.{with_rectangle}
use Rattle.alloc_input.specs.Marked.{IsGrown, marked_cells}
use Rattle.alloc_input.proofs.quotas.marks.mark_rows.Given as goal

abbrev pub invariant-loop-agent : goal.invariant-loop-agent
invariant-loop-agent l = record {
  cells : marked_cells l.marks ≡ with_rectangle l.fn.marks.agents l.fn.marks.columns (take l.agent-index l.agents) l.columns (marked_cells l.fn.marks);
  grown : IsGrown l.fn.marks l.marks;
  filled : length l.marks.rows.items ≡ l.marks.agents;
  within : l.marks.count ≤ l.most;
}
