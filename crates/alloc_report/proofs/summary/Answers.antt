use Rattle.std.proofs.Common.{◌≡◌, ◌∙◌, false, refl, ap, arith}
use Rattle.std.specs.Prelude.{string_bytes}
use Rattle.lottery_file.specs.Lotteries.{lottery_value}
use Rattle.serde_json.specs.Written.{compact_text, has_float}
use Rattle.alloc_report.specs.Summary.{summary_of, summary_text}
use Rattle.alloc_report.proofs.MembersLemmas.{no_float-summary}
use Rattle.alloc_report.proofs.summary.Goals as goal

pub returns : goal.returns
unfolding summary_text
returns c =
    let l = lottery_value c.args.lottery.now in
    let text : has_float (summary_of l) ≡ false → string_bytes c.in_ok-line.line ≡ compact_text (summary_of l) = rw c.in_ok-summary_of.ensures at c.in_ok-line.ensures.text in
    ap (λ v. v.items) c.into_bytes.ensures.value ∙ c.in_ok-push.ensures.bytes ∙ rw (text (no_float-summary l), c.in_ok-push.ensures.ascii (omega arith)) refl
