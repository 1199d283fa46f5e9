use Rattle.std.proofs.Common.{◌≡◌, ◌<◌, ◌+◌, ◌-◌, sym, arith, length}
use Rattle.csv.proofs.RecordFacts.{prev-first, prev-next}
use Rattle.table_text.proofs.row.start_of.Goals as goal

pub returns-then-index-eq0 : goal.returns-then-index-eq0
returns-then-index-eq0 c = rw c.if-index-eq0.true (sym (prev-first _))

pub returns-else-index-eq0 : goal.returns-else-index-eq0
returns-else-index-eq0 c =
    let one : (c.args.index - 1) + 1 ≡ c.args.index = omega arith in
    let lt : (c.args.index - 1) + 1 < length c.args.ends.now = rw one c.requires in
    sym (rw one at (prev-next 0 c.args.ends.now (c.args.index - 1) 0 lt))
