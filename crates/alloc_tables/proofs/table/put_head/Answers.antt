use Rattle.alloc_tables.proofs.TableLemmas.{head_rows-text}
use Rattle.alloc_tables.proofs.table.put_head.Goals as goal

pub returns : goal.returns
returns c = head_rows-text c.args.denominator c.args.objects.now _ _ _ _ c.in_ok-put_number.ensures.ok c.in_ok-put_number-2.ensures.ok c.in_ok-put_columns.ensures
