use Rattle.eating.proofs.Advancing.{IsAdvancing}
use Rattle.eating.proofs.progress.Progress.advance.Given as goal

abbrev pub invariant-loop-limit : goal.invariant-loop-limit
invariant-loop-limit l = IsAdvancing l.fn.self l.factor l.step l.limit l.self
