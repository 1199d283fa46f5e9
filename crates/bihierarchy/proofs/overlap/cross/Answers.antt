use Rattle.std.proofs.Common.{length, ◌∙◌, arith}
use Rattle.std.proofs.lemmas.Bool.{le-ltb}
use Rattle.bihierarchy.proofs.Counts.{crosses_none, crosses_within, crosses_without}
use Rattle.bihierarchy.proofs.overlap.cross.Goals as goal

pub returns-then-shared-eq0 : goal.returns-then-shared-eq0
returns-then-shared-eq0 c = crosses_none c.args.a.now c.args.b.now c.requires.first c.requires.second c.shared_cells-shared.result c.shared_cells-shared.ensures (omega arith)

pub returns-then-shared-a : goal.returns-then-shared-a
returns-then-shared-a c = crosses_without c.args.a.now c.args.b.now c.requires.first c.requires.second c.shared_cells-shared.result c.shared_cells-shared.ensures (omega arith) (omega arith)

pub returns-else-shared-a : goal.returns-else-shared-a
returns-else-shared-a c =
    le-ltb c.shared_cells-shared.result (length c.args.a.now) (omega arith)
    ∙ crosses_within c.args.a.now c.args.b.now c.requires.first c.requires.second c.shared_cells-shared.result c.shared_cells-shared.ensures (omega arith) (omega arith)
