use Rattle.std.proofs.Common.{◌≡◌, ◌<◌, ℕ, length, get_or, subst, ◌∙◌, arith}
use Rattle.std.proofs.lemmas.List.{get_or_default}
use Rattle.bounded_flow.specs.Searches.{Reached}
use Rattle.bounded_flow.proofs.Exploring.{explored_none, explored_more}
use Rattle.bounded_flow.proofs.search.find.Goals as goal

pub loop-taken-init : goal.loop-taken-init
loop-taken-init c =
    explored_none c.args.edges.now (length c.args.search.now.place.items) c.args.from c.start.new.self (c.start.ensures.reached c.args.edges.now) c.start.ensures.seen c.start.ensures.first

pub loop-taken-preserved : goal.loop-taken-preserved
loop-taken-preserved c =
    let n : ℕ = length c.args.search.now.place.items in
    let now = c.loop-taken.search in
    let looped = c.loop-taken.invariant.reached in
    let reached : Reached c.args.edges.now n c.look.new.search = subst (λ (k : ℕ). Reached c.args.edges.now k c.look.new.search) looped.room.places c.look.ensures.reached in
    let within : c.loop-taken.taken < length now.queue.items = omega (arith, c.loop-taken-test.true, looped.marked.seen_few, looped.marked.queues) in
    let node : c.index-node.result.now ≡ get_or now.queue.items c.loop-taken.taken 0 = c.index-node.ensures ∙ get_or_default now.queue.items c.loop-taken.taken c.index-node.result.now 0 within in
    explored_more c.args.edges.now n c.args.from c.loop-taken.taken c.index-node.result.now now c.look.new.search c.requires.inside c.loop-taken.invariant c.loop-taken-test.true node reached c.look.ensures.later c.look.ensures.followed
