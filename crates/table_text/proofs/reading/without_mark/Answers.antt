use Rattle.table_text.proofs.MarkFacts.{mark-short, mark-off, mark-none}
use Rattle.table_text.proofs.reading.without_mark.Goals as goal

pub returns-then-bytes-lt3 : goal.returns-then-bytes-lt3
returns-then-bytes-lt3 c = mark-short _ c.if-bytes-lt3.true

pub returns-then-begins_with_mark : goal.returns-then-begins_with_mark
returns-then-begins_with_mark c = mark-off _ c.if-bytes-lt3.false c.if-begins_with_mark.ensures

pub returns : goal.returns
returns c = mark-none _ c.if-bytes-lt3.false c.if-begins_with_mark.ensures
