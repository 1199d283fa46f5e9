use Rattle.std.proofs.Common.{◌≡◌, ℕ, ◌+◌, ◌*◌, ◌<◌, ◌≤◌, length, slice_index, drop}
use Rattle.definitions.specs.Eating.{full_at}
use Rattle.definitions.specs.Values.{Market}
use Rattle.eating.specs.Serving.{IsServed, IsUncappedOffLists}
use Rattle.eating.proofs.serving.serve_caps.Given as goal

abbrev pub invariant-loop-agent : goal.invariant-loop-agent
invariant-loop-agent l = record {
  done : (market : Market) → IsServed market l.lines l.moments → IsUncappedOffLists market l.stated → (i a : ℕ) → i < l.agent → a < l.columns
      → slice_index l.caps (i * l.columns + a) ≡ full_at l.unit (drop l.stated market.limits) (drop l.stated l.moments) i a;
  rest : (market : Market) → IsServed market l.lines l.moments → IsUncappedOffLists market l.stated → (n : ℕ) → l.agent * l.columns ≤ n → n < length l.fn.caps → slice_index l.caps n ≡ l.unit;
}
