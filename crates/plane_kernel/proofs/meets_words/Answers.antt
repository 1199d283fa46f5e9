use Rattle.std.proofs.Common.{◌∙◌, ◌+◌, sym, arith, ap, ◌||◌, drop}
use Rattle.plane_kernel.proofs.Words.{meet_step}
use Rattle.plane_kernel.specs.Words.{words_meet}
use Rattle.plane_kernel.proofs.meets_words.Goals as goal

pub loop-at-preserved : goal.loop-at-preserved
loop-at-preserved c =
    let step = meet_step c.loop-at.at 8 c.args.a.now c.args.b.now (omega arith) c.requires in
    record { within = omega arith; left = c.loop-at.invariant.left ∙ step ∙ ap (λ t. t || words_meet (drop (c.loop-at.at + 8) c.args.a.now) (drop (c.loop-at.at + 8) c.args.b.now)) (sym c.meets_lanes.ensures ∙ c.if-meets_lanes.false) }
