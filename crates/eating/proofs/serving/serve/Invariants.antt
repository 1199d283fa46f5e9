use Rattle.std.proofs.Common.{◌≡◌, ℕ, ◌+◌, ◌*◌, ◌<◌, ◌≤◌, length, slice_index}
use Rattle.definitions.specs.Eating.{share}
use Rattle.definitions.specs.Values.{Market}
use Rattle.eating.specs.Serving.{IsServed}
use Rattle.eating.proofs.serving.serve.Given as goal

abbrev pub invariant-loop-agent : goal.invariant-loop-agent
invariant-loop-agent l = record {
  done : (market : Market) → IsServed market l.lines l.moments → (i a : ℕ) → i < l.agent → a < l.columns → slice_index l.units (i * l.columns + a) ≡ share market l.unit l.moments i a;
  rest : (market : Market) → IsServed market l.lines l.moments → (n : ℕ) → l.agent * l.columns ≤ n → n < length l.fn.units → slice_index l.units n ≡ 0;
}
