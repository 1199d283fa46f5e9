use Rattle.std.proofs.Common.{◌∙◌, ◌==◌, length, sym, ap}
use Rattle.table_text.proofs.WritingFacts.{blank_more, blank_one}
use Rattle.table_text.proofs.writing.shows_nothing.Goals as goal

pub returns-then-len-ne1 : goal.returns-then-len-ne1
returns-then-len-ne1 c = sym (blank_more c.args.row.now c.requires (λ e. c.if-len-ne1.true (c.len.ensures ∙ e)))

pub returns : goal.returns
returns c = c.is_empty.ensures ∙ ap (λ f. length f == 0) c.field.ensures ∙ sym (blank_one c.args.row.now (sym c.len.ensures ∙ c.if-len-ne1.false))
