use Rattle.csv.specs.Writing.{escaped}
use Rattle.table_text.proofs.WritingFacts.{quoted_next, stays_more}
use Rattle.table_text.proofs.writing.push_quoted.Goals as goal

pub loop-byte-init : goal.loop-byte-init
unfolding escaped
loop-byte-init c = record { text = c.in_ok-push_byte.ensures.text; stays = c.in_ok-push_byte.ensures.stays }

pub loop-byte-preserved : goal.loop-byte-preserved
loop-byte-preserved c =
    let old = c.args.into.now.items in
    record {
      text = quoted_next old c.loop-byte.into.items _ c.args.field.now c.loop-byte.byte-index c.loop-byte-test.true c.loop-byte.invariant.text c.in_ok-push_escaped.ensures.text;
      stays = stays_more old c.loop-byte.into.items _ c.loop-byte.invariant.stays c.in_ok-push_escaped.ensures.stays;
    }
