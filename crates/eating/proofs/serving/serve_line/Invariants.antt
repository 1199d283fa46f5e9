use Rattle.std.proofs.Common.{◌≡◌, ℕ, ◌≤◌, take}
use Rattle.definitions.specs.Eating.{full_at, reached, share}
use Rattle.definitions.specs.Values.{Agent, Market}
use Rattle.eating.specs.Serving.{IsRow, IsServable}
use Rattle.eating.proofs.serving.serve_line.Given as goal

abbrev pub invariant-loop-place : goal.invariant-loop-place
invariant-loop-place l = record {
  within : l.from ≤ l.unit;
  reached : (market : Market) (i : ℕ) (w : Agent) → IsServable market i w l.line l.moments → l.from ≡ reached (full_at l.unit market.limits l.moments i) 0 (take l.place w.list);
  row : (market : Market) (i : ℕ) (w : Agent) → IsServable market i w l.line l.moments → IsRow (share market l.unit l.moments i) (take l.place w.list) l.start l.fn.units l.units;
}
