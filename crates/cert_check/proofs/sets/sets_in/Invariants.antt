use Rattle.std.proofs.Common.{◌≡◌, ◌-◌, length}
use Rattle.definitions.specs.Firsts.{first_in}
use Rattle.cert_check.specs.PieceFaults.{set_look, pieces_value}
use Rattle.cert_check.proofs.sets.sets_in.Given as goal

abbrev pub invariant-loop-index : goal.invariant-loop-index
invariant-loop-index l = first_in (set_look l.family l.x (pieces_value l.pieces) l.piece) l.index (length l.family.sets - l.index) ≡ first_in (set_look l.family l.x (pieces_value l.pieces) l.piece) 0 (length l.family.sets)
