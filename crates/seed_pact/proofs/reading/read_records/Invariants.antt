use Rattle.std.proofs.Common.{◌≡◌, take, drop}
use Rattle.definitions.specs.Firsts.{fault_after}
use Rattle.seed_pact.specs.Said.{said_by}
use Rattle.seed_pact.specs.Checks.{check_record, check_end, fault_of}
use Rattle.seed_pact.specs.Reading.{held}
use Rattle.seed_pact.proofs.reading.read_records.Given as goal

abbrev pub invariant-loop-i : goal.invariant-loop-i
invariant-loop-i l =
    (fault_of l.rows ≡ fault_after check_record check_end (take l.i l.rows) (drop l.i l.rows))
    × (held l.state ≡ said_by (take l.i l.rows))
