use Rattle.std.proofs.Common.{◌≡◌, ◌∙◌, ◌<◌, ◌++◌, ◌∷◌, [], refl, arith, length, length-append, List, ℕ}
use Rattle.alloc_input.proofs.MarkFacts.{cells-after, rows-after}
use Rattle.alloc_input.proofs.quotas.marks.fill.Goals as goal

pub loop-i-preserved : goal.loop-i-preserved
loop-i-preserved c =
    let more : c.push.new.self.items ≡ c.loop-i.marks.rows.items ++ [] ∷ [] = c.in_ok-push.ensures.items ∙ rw c.new.ensures refl in
    let inv = c.loop-i.invariant in
    let m = c.loop-i.marks.agents in
    let n = c.loop-i.marks.columns in
    let lt : length c.loop-i.marks.rows.items < c.loop-i.marks.agents = omega (arith, inv.filled, inv.grown.1) in
    record {
      cells = cells-after m n c.loop-i.marks.rows.items c.push.new.self.items more ∙ inv.cells;
      grown = (rows-after m n c.loop-i.marks.rows.items c.push.new.self.items c.loop-i.marks.count more lt inv.grown.0, inv.grown.1, inv.grown.2);
      filled = rw more (omega (arith, length-append {A = List ℕ}, inv.filled));
      count = inv.count;
    }
