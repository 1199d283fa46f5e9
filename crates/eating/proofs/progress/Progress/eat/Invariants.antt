use Rattle.std.specs.Prelude.{count_by, ◌==◌}
use Rattle.definitions.specs.Values.{Market}
use Rattle.eating.specs.Runs.{AreDue, IsAt, IsRunOf}
use Rattle.eating.proofs.progress.Progress.eat.Given as goal

abbrev pub invariant-loop-moment : goal.invariant-loop-moment
invariant-loop-moment l = record {
  at : (market : Market) → IsRunOf market l.fn.lines l.fn.self → IsAt market l.lines l.self;
  dues : AreDue l.self;
}

abbrev pub decreases-loop-moment : goal.decreases-loop-moment
decreases-loop-moment l = count_by (λ m. m == l.self.unit) l.self.moments.items
