use Rattle.std.proofs.Common.{◌≡◌, ◌≤◌, drop}
use Rattle.std.specs.Prelude.{min}
use Rattle.eating_laws.proofs.Holders.{least_of}
use Rattle.eating.proofs.progress.least_of.Given as goal

abbrev pub invariant-loop-limit : goal.invariant-loop-limit
invariant-loop-limit l = record {
  low : l.least ≤ l.unit;
  rest : min l.least (least_of l.unit l.moments (drop l.limit-index l.holders)) ≡ least_of l.unit l.moments l.holders;
}
