use Rattle.std.proofs.Common.{◌+◌, ◌*◌, ◌≤◌, arith, length}
use Rattle.std.proofs.Math.Nat.{mul-le-mul_right, add-mul}
use Rattle.std.proofs.lemmas.Option.{slice_get_read}
use Rattle.definitions.specs.Eating.{share}
use Rattle.eating_laws.proofs.Shares.{share_off}
use Rattle.eating.proofs.Rows.{servable, rows_done, rows_rest, line_demand, list_within}
use Rattle.eating.proofs.serving.serve.Goals as goal

pub serve_line-requires-clause-line : goal.serve_line-requires-clause-line
serve_line-requires-clause-line c =
    c.requires.lines.each c.loop-agent.agent c.index-lines-agent.result (slice_get_read c.args.lines.now (length c.args.lines.now) c.loop-agent.agent c.index-lines-agent.result (omega arith) c.loop-agent-test.true c.index-lines-agent.is)

pub serve_line-requires-clause-demand : goal.serve_line-requires-clause-demand
serve_line-requires-clause-demand c =
    line_demand c.args.lines.now c.loop-agent.agent c.index-lines-agent.result (length c.args.moments.now) c.requires.lines
    (slice_get_read c.args.lines.now (length c.args.lines.now) c.loop-agent.agent c.index-lines-agent.result (omega arith) c.loop-agent-test.true c.index-lines-agent.is)

pub serve_line-requires-clause-inside : goal.serve_line-requires-clause-inside
serve_line-requires-clause-inside c k d l =
    let is = slice_get_read c.args.lines.now (length c.args.lines.now) c.loop-agent.agent c.index-lines-agent.result (omega arith) c.loop-agent-test.true c.index-lines-agent.is in
    let less = c.requires.lists c.loop-agent.agent c.index-lines-agent.result is k d l in
    let room : (c.loop-agent.agent + 1) * c.args.columns ≤ length c.args.lines.now * c.args.columns = mul-le-mul_right c.args.columns (let t : c.loop-agent.agent + 1 ≤ length c.args.lines.now = omega (arith, c.loop-agent-test.true) in t) in
    omega (arith, less, room, add-mul c.loop-agent.agent 1 c.args.columns, c.requires.room, c.loop-agent.auto.units)

pub loop-agent-preserved : goal.loop-agent-preserved
loop-agent-preserved c =
    let n = c.loop-agent.agent in
    let columns = c.args.columns in
    let line = c.index-lines-agent.result in
    let is = slice_get_read c.args.lines.now (length c.args.lines.now) n line (omega arith) c.loop-agent-test.true c.index-lines-agent.is in
    let room : (n + 1) * columns ≤ length c.args.lines.now * columns = mul-le-mul_right columns (let t : n + 1 ≤ length c.args.lines.now = omega (arith, c.loop-agent-test.true) in t) in
    let within : (n + 1) * columns ≤ length c.args.units.now = omega (arith, room, c.requires.room) in
    record {
      done = λ market h. (let (w, s) = servable market c.args.lines.now c.args.moments.now n line h c.loop-agent-test.true is in
          rows_done columns n 0 (length c.args.units.now) (share market c.args.unit c.args.moments.now) w.list c.loop-agent.units c.serve_line.new.units within
          (list_within columns market n w line c.args.moments.now s (c.requires.lists n line is)) (λ a off. share_off market c.args.unit c.args.moments.now n a w s.agent off)
          (c.serve_line.ensures market n w s) (c.loop-agent.invariant.rest market h) (c.loop-agent.invariant.done market h));
      rest = λ market h. (let (w, s) = servable market c.args.lines.now c.args.moments.now n line h c.loop-agent-test.true is in
          rows_rest columns n 0 (length c.args.units.now) (share market c.args.unit c.args.moments.now) w.list c.loop-agent.units c.serve_line.new.units within
          (list_within columns market n w line c.args.moments.now s (c.requires.lists n line is)) (λ a off. share_off market c.args.unit c.args.moments.now n a w s.agent off)
          (c.serve_line.ensures market n w s) (c.loop-agent.invariant.rest market h));
    }
