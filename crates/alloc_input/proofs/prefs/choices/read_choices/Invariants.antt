use Rattle.std.proofs.Common.{take, drop, length}
use Rattle.alloc_input.specs.Prefs.{check_choice}
use Rattle.alloc_input.specs.PrefsReading.{AreStamps, IsAfterChoices, ShowList}
use Rattle.definitions.proofs.Passed.{IsLawfulTo}
use Rattle.alloc_input.proofs.prefs.choices.read_choices.Given as goal

abbrev pub invariant-loop-j : goal.invariant-loop-j
invariant-loop-j l = record {
  lawful : IsLawfulTo (check_choice l.objects) (drop 1 l.row) l.j;
  after : IsAfterChoices l.objects (take l.j (drop 1 l.row)) l.list.items l.closed;
  stamps : AreStamps (length l.objects) l.agent l.stamps;
  shown : ShowList l.agent l.stamps l.list.items;
}
