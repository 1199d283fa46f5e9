use Rattle.std.proofs.Common.{◌≡◌, ◌<◌, sym, ◌∙◌, None, arith, ℕ}
use Rattle.definitions.specs.Firsts.{first_in}
use Rattle.definitions.proofs.FirstFaults.{first-passes, first-found}
use Rattle.cert_check.specs.PieceFaults.{met_look, pieces_value}
use Rattle.cert_check.proofs.totals.met_by_rows.Goals as goal

pub returns-in-Some : goal.returns-in-Some
returns-in-Some c =
    let within : c.loop-agent.agent < c.args.x.now.agents = omega arith in
    sym (first-found (λ (i : ℕ). first_in (met_look c.args.x.now (pieces_value c.args.pieces.now) i) 0 c.args.x.now.columns) c.loop-agent.agent c.args.x.now.agents c.in-Some.fault within (sym c.in-Some.ensures)) ∙ c.loop-agent.invariant

pub loop-agent-preserved : goal.loop-agent-preserved
loop-agent-preserved c =
    let none : first_in (met_look c.args.x.now (pieces_value c.args.pieces.now) c.loop-agent.agent) 0 c.args.x.now.columns ≡ None = sym c.met_of.ensures ∙ c.in_default.is in
    let within : c.loop-agent.agent < c.args.x.now.agents = omega arith in
    sym (first-passes (λ (i : ℕ). first_in (met_look c.args.x.now (pieces_value c.args.pieces.now) i) 0 c.args.x.now.columns) c.loop-agent.agent c.args.x.now.agents within none) ∙ c.loop-agent.invariant
