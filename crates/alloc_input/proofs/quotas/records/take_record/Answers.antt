use Rattle.std.proofs.Common.{sym}
use Rattle.alloc_input.proofs.Reading.{two_fields}
use Rattle.alloc_input.proofs.Stops.{passed-is}
use Rattle.alloc_input.proofs.quotas.records.take_record.Goals as goal

pub take_word-requires-clause-fields : goal.take_word-requires-clause-fields
take_word-requires-clause-fields c = two_fields c.in_ok-word.word c.args.row.now (sym (passed-is _ _ _ c.in_ok-need-2.ensures.0 c.has_fields.ensures))
