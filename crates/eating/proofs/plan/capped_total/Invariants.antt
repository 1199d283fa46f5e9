use Rattle.std.proofs.Common.{◌≡◌, take}
use Rattle.definitions.specs.Values.{market_of}
use Rattle.eating.specs.Caps.{caps_before}
use Rattle.eating.proofs.plan.capped_total.Given as goal

abbrev pub invariant-loop-agent : goal.invariant-loop-agent
invariant-loop-agent l = l.total ≡ caps_before (take l.agent (market_of l.problem).agents)
