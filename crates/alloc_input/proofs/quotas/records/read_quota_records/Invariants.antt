use Rattle.std.proofs.Common.{◌≡◌, take, drop, None, length}
use Rattle.definitions.specs.Firsts.{fault_after}
use Rattle.alloc_input.specs.Stated.{setting_of, stated_by}
use Rattle.alloc_input.specs.Quotas.{check_record, quotas_fault}
use Rattle.alloc_input.specs.Reading.{held, IsSound}
use Rattle.alloc_input.proofs.quotas.records.read_quota_records.Given as goal

abbrev pub invariant-loop-i : goal.invariant-loop-i
invariant-loop-i l =
    (quotas_fault (setting_of l.agents l.objects l.solve) l.rows ≡ fault_after (check_record (setting_of l.agents l.objects l.solve)) (λ _. None) (take l.i l.rows) (drop l.i l.rows))
    × (held l.state ≡ stated_by (setting_of l.agents l.objects l.solve) (take l.i l.rows))
    × IsSound (length l.agents) (length l.objects) l.state
