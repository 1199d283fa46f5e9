use Rattle.std.proofs.Common.{◌≡◌, ◌-◌, ℕ}
use Rattle.definitions.specs.Firsts.{first_in}
use Rattle.cert_check.specs.PieceFaults.{met_look, pieces_value}
use Rattle.cert_check.proofs.totals.met_by_rows.Given as goal

abbrev pub invariant-loop-agent : goal.invariant-loop-agent
invariant-loop-agent l = first_in (λ (i : ℕ). first_in (met_look l.x (pieces_value l.pieces) i) 0 l.x.columns) l.agent (l.x.agents - l.agent) ≡ first_in (λ (i : ℕ). first_in (met_look l.x (pieces_value l.pieces) i) 0 l.x.columns) 0 l.x.agents
