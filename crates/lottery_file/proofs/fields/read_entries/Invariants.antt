use Rattle.std.proofs.Common.{◌≡◌, ◌++◌, ◌+◌, map, take, drop}
use Rattle.std.specs.Prelude.{sum}
use Rattle.definitions.specs.Texts.{number}
use Rattle.lottery_file.specs.Checks.{check_entry}
use Rattle.definitions.proofs.Passed.{IsLawfulTo}
use Rattle.lottery_file.proofs.fields.read_entries.Given as goal

abbrev pub invariant-loop-j : goal.invariant-loop-j
invariant-loop-j l =
    IsLawfulTo (λ earlier. check_entry l.limit (sum l.fn.units + sum (map number earlier))) (drop 2 l.row) l.j
    × (l.units ≡ l.fn.units ++ map number (take l.j (drop 2 l.row)))
