-- Row by row up to the end.
use Rattle.std.proofs.Common.{◌≡◌, ℕ, ◌*◌, ap, arith}
use Rattle.alloc_steps.proofs.Filled.{filled_all}
use Rattle.alloc_steps.proofs.counts.fill_counts.Goals as goal

pub returns : goal.returns
returns c =
    let columns : ℕ = c.args.peeler.now.columns in
    let last : c.loop-agent.agent ≡ c.args.peeler.now.agents = omega arith in
    filled_all c.args.peeler.now (c.loop-agent.agent * columns) c.loop-agent.counts c.agents-agent-end.ensures.lawful c.requires.given (ap (λ n. n * columns) last) (omega arith) c.loop-agent.invariant
