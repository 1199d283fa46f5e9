use Rattle.std.proofs.Common.{◌≡◌, ℕ, ◌+◌, ◌*◌, slice_index, take}
use Rattle.std.specs.Prelude.{count_by, ◌==◌}
use Rattle.eating.specs.Runs.{AreDue, IsHeld}
use Rattle.eating.proofs.progress.Progress.add_speed.Given as goal

abbrev pub invariant-loop-limit : goal.invariant-loop-limit
invariant-loop-limit l = record {
  speeds : (j : ℕ) → slice_index l.self.speeds.items j ≡ slice_index l.fn.self.speeds.items j + l.demand * count_by (λ h. h == j) (take l.limit-index l.holders);
  places : l.self.places.items ≡ l.fn.self.places.items;
  held : IsHeld l.fn.self l.self;
  dues : AreDue l.self;
}
