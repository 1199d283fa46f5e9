-- One price more.
use Rattle.std.proofs.Common.{◌*◌, ap, get_or, refl}
use Rattle.price_cert.specs.Ranks.{price_in}
use Rattle.price_cert.proofs.RankSteps.{pushed, price_next}
use Rattle.price_cert.proofs.ranks.prices_of.Goals as goal

pub loop-set-preserved : goal.loop-set-preserved
loop-set-preserved c =
    let n = c.loop-set.set in
    let ranks = c.args.ranks.now in
    pushed (price_in c.args.width ranks c.args.top c.args.trees.now) n c.loop-set.prices.items c.push.new.self.items (c.args.width * c.saturating_sub.result)
    c.in_ok-push.ensures.items c.loop-set.invariant
    (price_next c.args.width c.args.top ranks c.args.trees.now n c.parent.result c.rank-above.result (get_or ranks n 0) (c.args.width * c.saturating_sub.result)
    c.parent.ensures.value c.rank-above.ensures refl (ap (λ m. c.args.width * m) c.saturating_sub.ensures))
