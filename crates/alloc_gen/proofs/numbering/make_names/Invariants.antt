use Rattle.std.proofs.Common.{◌≡◌}
use Rattle.alloc_gen.specs.Made.{made_names}
use Rattle.alloc_gen.proofs.numbering.make_names.Given as goal

abbrev pub invariant-loop-index : goal.invariant-loop-index
invariant-loop-index l = l.names ≡ made_names l.letter l.index
