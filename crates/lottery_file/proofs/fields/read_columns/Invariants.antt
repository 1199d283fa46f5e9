use Rattle.std.proofs.Common.{◌≡◌, take, drop}
use Rattle.lottery_file.specs.Checks.{check_column_name}
use Rattle.lottery_file.specs.Lotteries.{AreColumns}
use Rattle.definitions.proofs.Passed.{IsLawfulTo}
use Rattle.lottery_file.proofs.fields.read_columns.Given as goal

abbrev pub invariant-loop-j : goal.invariant-loop-j
invariant-loop-j l = IsLawfulTo check_column_name (drop 1 l.row) l.j × (l.names ≡ take l.j (drop 1 l.row)) × AreColumns l.names
