-- What two texts read as a problem.
use Rattle.std.specs.Prelude.{ℕ, List, Result, Ok, Err}
use Rattle.alloc_input.specs.Problems.{ProblemReads, ProblemHasFault}
use Rattle.alloc_input.specs.declared.faults.InputFault.{InputFault}
use Rattle.definitions.specs.Values.{ProblemValue}

-- texts of preferences and of quotas read as a problem, or they have this first fault
abbrev pub ProblemTextReads : List ℕ → List ℕ → Result ProblemValue InputFault → Type 0
ProblemTextReads prefs quotas (Ok p) = ProblemReads prefs quotas p
ProblemTextReads prefs quotas (Err fault) =
    ProblemHasFault prefs quotas fault.file fault.record_no fault.kind
