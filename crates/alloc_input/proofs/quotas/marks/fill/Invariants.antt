use Rattle.std.proofs.Common.{◌≡◌, length}
use Rattle.alloc_input.specs.Marked.{IsGrown, marked_cells}
use Rattle.alloc_input.proofs.quotas.marks.fill.Given as goal

abbrev pub invariant-loop-i : goal.invariant-loop-i
invariant-loop-i l = record {
  cells : marked_cells l.marks ≡ marked_cells l.fn.marks;
  grown : IsGrown l.fn.marks l.marks;
  filled : length l.marks.rows.items ≡ l._i;
  count : l.marks.count ≡ l.fn.marks.count;
}
