use Rattle.std.proofs.Common.{◌≡◌, ◌-◌, length, ◌+◌}
use Rattle.definitions.specs.Firsts.{first_in}
use Rattle.alloc_audits.specs.NameFaults.{name_look}
use Rattle.alloc_audits.proofs.names.first_difference.Given as goal

abbrev pub invariant-loop-place : goal.invariant-loop-place
invariant-loop-place l = first_in (name_look l.due l.found) l.place ((length l.due + 1) - l.place) ≡ first_in (name_look l.due l.found) 0 (length l.due + 1)
