use Rattle.std.proofs.Common.{◌≡◌, ◌-◌, length, ◌+◌}
use Rattle.definitions.specs.Firsts.{first_in}
use Rattle.cert_check.specs.PieceFaults.{same_look, pieces_value}
use Rattle.cert_check.proofs.same.same_in.Given as goal

abbrev pub invariant-loop-second : goal.invariant-loop-second
invariant-loop-second l = first_in (same_look (pieces_value l.pieces) l.first) l.second (length (pieces_value l.pieces) - l.second) ≡ first_in (same_look (pieces_value l.pieces) l.first) (l.first + 1) (length (pieces_value l.pieces) - (l.first + 1))
