use Rattle.std.proofs.Common.{◌∙◌, sym, refl, arith, []}
use Rattle.std.proofs.lemmas.List.Folds.{list_all_more, list_all_at}
use Rattle.std.specs.Str.{is_utf8}
use Rattle.table_text.proofs.row.Row.is_text.Goals as goal

pub returns-then-not-is_text_field : goal.returns-then-not-is_text_field
returns-then-not-is_text_field c = sym (list_all_at is_utf8 c.args.self.now c.loop-i.i [] (omega (arith, c.len-i-end.ensures)) (rw c.field.ensures at (sym c.if-not-is_text_field.ensures)))

pub loop-i-preserved : goal.loop-i-preserved
loop-i-preserved c = list_all_more is_utf8 c.args.self.now c.loop-i.i [] (omega (arith, c.len-i-end.ensures)) ∙ rw (c.loop-i.invariant, rw c.field.ensures at (sym c.if-not-is_text_field.ensures)) refl
