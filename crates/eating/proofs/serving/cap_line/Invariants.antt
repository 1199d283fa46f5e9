use Rattle.std.proofs.Common.{ℕ, take, drop}
use Rattle.definitions.specs.Eating.{full_at}
use Rattle.definitions.specs.Values.{Agent, Market}
use Rattle.eating.specs.Serving.{IsRow, IsServable}
use Rattle.eating.proofs.serving.cap_line.Given as goal

abbrev pub invariant-loop-place : goal.invariant-loop-place
invariant-loop-place l = (market : Market) (i : ℕ) (w : Agent) → IsServable market i w l.line l.moments
    → IsRow (full_at l.unit (drop l.stated market.limits) (drop l.stated l.moments) i) (take l.place w.list) l.start l.fn.caps l.caps
