use Rattle.std.proofs.Common.{◌≡◌, ◌+◌, ◌-◌, ◌≤◌, drop, length, take}
use Rattle.definitions.specs.Firsts.{fault_after}
use Rattle.lottery_file.specs.Said.{said_by}
use Rattle.lottery_file.specs.Checks.{check_record, check_end, fault_of}
use Rattle.lottery_file.specs.Reading.{held}
use Rattle.lottery_file.proofs.reading.read_records.Given as goal

abbrev pub invariant-loop-row : goal.invariant-loop-row
invariant-loop-row l =
    (fault_of l.fn.reader ≡ fault_after check_record check_end (take (l.record_no - 1) l.fn.reader) (drop (l.record_no - 1) l.fn.reader))
    × (held l.state ≡ said_by (take (l.record_no - 1) l.fn.reader))
    × (drop (l.record_no - 1) l.fn.reader ≡ l.reader)
    × (1 ≤ l.record_no) × (l.record_no ≤ length l.fn.reader + 1)

abbrev pub decreases-loop-row : goal.decreases-loop-row
decreases-loop-row l = length l.reader
