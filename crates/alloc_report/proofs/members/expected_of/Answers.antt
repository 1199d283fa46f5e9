use Rattle.std.proofs.Common.{◌∙◌, ◌<◌, ◌≤◌, length, ap, arith}
use Rattle.std.specs.Prelude.{fold}
use Rattle.std.specs.List.{enumerate_from}
use Rattle.std.proofs.lemmas.List.{take_all}
use Rattle.std.proofs.lemmas.List.FromFn.{length-enumerate_from}
use Rattle.lottery_file.specs.Lotteries.{lottery_value}
use Rattle.serde_json.specs.Data.{no_members}
use Rattle.alloc_report.specs.Summary.{expected_of, put_column}
use Rattle.alloc_report.proofs.MembersLemmas.{columns_more}
use Rattle.alloc_report.proofs.members.expected_of.Goals as goal

pub loop-column-preserved : goal.loop-column-preserved
loop-column-preserved c =
    let l = lottery_value c.args.lottery.now in
    let within : c.loop-column.column < length l.columns = omega arith in
    (rw (c.name_at.ensures, c.units_in-units.ensures, c.loop-column.invariant) at c.in_ok-put_text_of.ensures) ∙ columns_more l c.loop-column.column within

pub returns : goal.returns
unfolding expected_of
returns c =
    let l = lottery_value c.args.lottery.now in
    let numbered = enumerate_from 0 l.columns in
    let many = length-enumerate_from 0 l.columns in
    let all : length numbered ≤ c.loop-column.column = omega arith in
    c.loop-column.invariant ∙ ap (fold (put_column l) no_members) (take_all c.loop-column.column numbered all)
