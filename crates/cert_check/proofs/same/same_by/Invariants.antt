use Rattle.std.proofs.Common.{◌≡◌, ◌-◌, length, ℕ, ◌+◌}
use Rattle.definitions.specs.Firsts.{first_in}
use Rattle.cert_check.specs.PieceFaults.{same_look, pieces_value}
use Rattle.cert_check.proofs.same.same_by.Given as goal

abbrev pub invariant-loop-first : goal.invariant-loop-first
invariant-loop-first l = first_in (λ (i : ℕ). first_in (same_look (pieces_value l.pieces) i) (i + 1) (length (pieces_value l.pieces) - (i + 1))) l.first (length (pieces_value l.pieces) - l.first) ≡ first_in (λ (i : ℕ). first_in (same_look (pieces_value l.pieces) i) (i + 1) (length (pieces_value l.pieces) - (i + 1))) 0 (length (pieces_value l.pieces))
