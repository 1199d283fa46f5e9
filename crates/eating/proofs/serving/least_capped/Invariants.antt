use Rattle.std.proofs.Common.{◌≡◌, ◌≤◌, drop}
use Rattle.std.specs.Prelude.{min}
use Rattle.eating.specs.Plan.{least_from}
use Rattle.eating.proofs.serving.least_capped.Given as goal

abbrev pub invariant-loop-limit : goal.invariant-loop-limit
invariant-loop-limit l = record {
  low : l.least ≤ l.unit;
  rest : min l.least (least_from l.unit l.moments l.stated (drop l.limit-index l.holders)) ≡ least_from l.unit l.moments l.stated l.holders;
}
