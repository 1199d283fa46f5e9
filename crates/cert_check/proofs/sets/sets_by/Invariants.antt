use Rattle.std.proofs.Common.{◌≡◌, ◌-◌, length, ℕ}
use Rattle.definitions.specs.Firsts.{first_in}
use Rattle.cert_check.specs.PieceFaults.{set_look, pieces_value}
use Rattle.cert_check.proofs.sets.sets_by.Given as goal

abbrev pub invariant-loop-piece : goal.invariant-loop-piece
invariant-loop-piece l = first_in (λ (i : ℕ). first_in (set_look l.family l.x (pieces_value l.pieces) i) 0 (length l.family.sets)) l.piece (length (pieces_value l.pieces) - l.piece) ≡ first_in (λ (i : ℕ). first_in (set_look l.family l.x (pieces_value l.pieces) i) 0 (length l.family.sets)) 0 (length (pieces_value l.pieces))
