use Rattle.std.proofs.Common.{◌*◌}
use Rattle.peeling.specs.Peelers.{AreGivesBefore}
use Rattle.peeling.proofs.collect.collect_gives.Given as goal

abbrev pub invariant-loop-agent : goal.invariant-loop-agent
invariant-loop-agent l = AreGivesBefore l.peeler (l.agent * l.peeler.columns) l.gives.items
