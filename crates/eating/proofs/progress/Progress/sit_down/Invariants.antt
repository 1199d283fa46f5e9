use Rattle.std.proofs.Common.{◌≡◌, ℕ, slice_index, take}
use Rattle.eating.specs.Runs.{AreDue, IsHeld}
use Rattle.eating.specs.Seats.{seat_speed}
use Rattle.eating.proofs.progress.Progress.sit_down.Given as goal

abbrev pub invariant-loop-agent : goal.invariant-loop-agent
invariant-loop-agent l = record {
  speeds : (j : ℕ) → slice_index l.self.speeds.items j ≡ seat_speed (take l.agent l.lines) (take l.agent l.fn.self.places.items) j;
  places : l.self.places.items ≡ l.fn.self.places.items;
  held : IsHeld l.fn.self l.self;
  dues : AreDue l.self;
}
