use Rattle.std.proofs.Common.{◌≡◌, ◌++◌, map}
use Rattle.definitions.specs.Sets.{cell_of}
use Rattle.alloc_input.proofs.quotas.numbers.NumberSet.push_cells.Given as goal

abbrev pub invariant-loop-number : goal.invariant-loop-number
invariant-loop-number l = l.cells.items ++ map (cell_of l.agent) l.number-iterator ≡ l.initial.cells.items ++ map (cell_of l.agent) l.self
