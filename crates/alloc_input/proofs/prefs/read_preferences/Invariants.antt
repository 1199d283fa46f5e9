use Rattle.std.proofs.Common.{◌≡◌, length, take, drop}
use Rattle.definitions.specs.Firsts.{fault_after}
use Rattle.alloc_input.specs.Prefs.{check_record, check_end, fault_of}
use Rattle.alloc_input.specs.PrefsReading.{AreStamps, IsAfter}
use Rattle.alloc_input.proofs.prefs.read_preferences.Given as goal

abbrev pub invariant-loop-i : goal.invariant-loop-i
invariant-loop-i l = record {
  lawful : fault_of l.objects l.rows ≡ fault_after (check_record l.objects) check_end (take l.i l.rows) (drop l.i l.rows);
  after : IsAfter l.objects (take l.i l.rows) l.state;
  stamps : AreStamps (length l.objects) (length l.state.agents) l.stamps.items;
}
