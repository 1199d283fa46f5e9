use Rattle.std.proofs.Common.{refl, arith, ◌∙◌}
use Rattle.table_text.specs.Rows.{kept_count}
use Rattle.table_text.proofs.RowFacts.{kept_count-step-full, kept_count-step-blank, kept_count-step-none}
use Rattle.table_text.proofs.reading.count_kept.Goals as goal
use Rattle.table_text.proofs.reading.count_kept.Goals.{in-Some+then-not-is_empty, in-Some+else-not-is_empty, in-None}

pub loop-i-init : goal.loop-i-init
unfolding kept_count
loop-i-init c = (refl, omega arith)

pub loop-i-preserved : goal.loop-i-preserved
loop-i-preserved c =
    elim c.match-get.branch [
      | in-Some+then-not-is_empty w ↦ (kept_count-step-full _ _ _ _ w.in-Some.ensures.value w.if-not-is_empty.ensures w.count-is (omega arith), omega arith)
      | in-Some+else-not-is_empty w ↦ (w.count-is ∙ kept_count-step-blank _ _ _ _ w.in-Some.ensures.value w.if-not-is_empty.ensures c.loop-i.invariant.0, omega arith)
      | in-None w ↦ (w.count-is ∙ kept_count-step-none _ _ _ w.in-None.ensures.value c.loop-i.invariant.0, omega arith)
    ]
