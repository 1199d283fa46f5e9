use Rattle.std.proofs.Common.{◌≡◌, ◌++◌, take}
use Rattle.definitions.specs.Sets.{IsFamily}
use Rattle.definitions.specs.Values.{row_sets}
use Rattle.quota_sets.proofs.rows.add_rows.Given as goal

abbrev pub invariant-loop-agent : goal.invariant-loop-agent
invariant-loop-agent l = record {
  sets : l.family ≡ record l.initial.family { sets = l.initial.family.sets ++ row_sets l.columns (take l.agent l.demands) };
  lawful : IsFamily l.family;
}
