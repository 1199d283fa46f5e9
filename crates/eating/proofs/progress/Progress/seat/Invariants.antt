use Rattle.eating.specs.Runs.{IsHeld, IsMoving}
use Rattle.eating.proofs.progress.Progress.seat.Given as goal

abbrev pub invariant-loop-agent : goal.invariant-loop-agent
invariant-loop-agent l = record {
  moving : IsMoving l.lines l.agent l.self;
  held : IsHeld l.fn.self l.self;
}
