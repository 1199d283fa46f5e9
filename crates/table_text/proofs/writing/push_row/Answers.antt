use Rattle.std.proofs.Common.{◌<◌, length}
use Rattle.table_text.proofs.WritingFacts.{row_next, stays_more}
use Rattle.table_text.proofs.writing.push_row.Goals as goal

pub loop-i-preserved : goal.loop-i-preserved
loop-i-preserved c =
    let old = c.args.into.now.items in
    let fields = c.args.row.now in
    let lt : c.loop-i.i < length fields = rw (← c.len-i-end.ensures) c.loop-i-test.true in
    record {
      text = row_next old c.loop-i.into.items _ fields c.loop-i.i _ lt c.field.ensures c.loop-i.invariant.text c.in_ok-push_next.ensures.text;
      stays = stays_more old c.loop-i.into.items _ c.loop-i.invariant.stays c.in_ok-push_next.ensures.stays;
    }
