use Rattle.std.proofs.Common.{◌+◌, ◌*◌}
use Rattle.peeling.specs.Peelers.{AreGivesBefore}
use Rattle.peeling.proofs.collect.add_row.Given as goal

abbrev pub invariant-loop-object : goal.invariant-loop-object
invariant-loop-object l = AreGivesBefore l.peeler (l.agent * l.peeler.columns + l.object) l.gives.items
