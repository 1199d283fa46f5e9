use Rattle.std.proofs.Common.{◌≡◌, take}
use Rattle.std.specs.Prelude.{fold}
use Rattle.std.specs.List.{enumerate_from}
use Rattle.lottery_file.specs.Lotteries.{lottery_value}
use Rattle.serde_json.specs.Data.{no_members}
use Rattle.serde_json.specs.View.{members_view}
use Rattle.alloc_report.specs.Summary.{put_column}
use Rattle.alloc_report.proofs.members.expected_of.Given as goal

-- the columns so far
abbrev pub invariant-loop-column : goal.invariant-loop-column
invariant-loop-column l = members_view l.members.entries
    ≡ fold (put_column (lottery_value l.lottery)) no_members (take l.column (enumerate_from 0 l.lottery.columns))
