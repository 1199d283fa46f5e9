use Rattle.std.proofs.Common.{◌∙◌, List, ℕ, ◌++◌, sym, ap}
use Rattle.side_finder.proofs.Climbing.{ring_closed, ring_written}
use Rattle.side_finder.proofs.ring.+climb.Goals as goal

pub returns-then-first-second : goal.returns-then-first-second
returns-then-first-second t c =
    c.in_ok-push.ensures.items ∙ ap (λ (r : List ℕ). c.args.ring.now.items ++ r) (sym (ring_closed c.args.marks.now c.args.first c.args.second c.if-first-second.true))

pub returns : goal.returns
returns t c =
    ring_written c.args.marks.now c.args.ring.now.items c.push.new.self.items c.climb.new.ring.items c.push-2.new.self.items c.args.first c.args.second c.up_from.result c.up_from-2.result
    c.requires.ways c.requires.pair c.if-first-second.false c.up_from.ensures c.up_from-2.ensures c.in_ok-push.ensures.items c.in_ok-climb.ensures c.in_ok-push-2.ensures.items
