-- Row by row up to the end.
use Rattle.std.proofs.Common.{◌≡◌, ℕ, ◌*◌, ap, arith}
use Rattle.peeling.proofs.Gives.{gives_nothing, gives_all}
use Rattle.peeling.proofs.collect.collect_gives.Goals as goal

pub loop-agent-init : goal.loop-agent-init
loop-agent-init c = gives_nothing c.args.peeler.now c.new-gives.result.items c.new-gives.ensures.items

pub returns : goal.returns
returns c =
    let columns : ℕ = c.args.peeler.now.columns in
    let last : c.loop-agent.agent ≡ c.args.peeler.now.agents = omega arith in
    gives_all c.args.peeler.now (c.loop-agent.agent * columns) c.loop-agent.gives.items c.agents-agent-end.ensures.lawful (ap (λ n. n * columns) last) c.loop-agent.invariant
