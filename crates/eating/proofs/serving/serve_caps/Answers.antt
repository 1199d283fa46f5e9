use Rattle.std.proofs.Common.{◌≡◌, ◌+◌, ◌*◌, ◌≤◌, arith, length, get_or, ap, ◌∙◌, drop, false}
use Rattle.std.proofs.Math.Nat.{mul-le-mul_right, add-mul}
use Rattle.std.proofs.lemmas.Option.{slice_get_read}
use Rattle.std.proofs.lemmas.List.{get_or-replicate}
use Rattle.std.proofs.lemmas.List.Elements.{recursion_from_All}
use Rattle.definitions.specs.Eating.{full_at}
use Rattle.definitions.specs.Sets.{cell_of, holds}
use Rattle.definitions.specs.Values.{Limit}
use Rattle.eating_laws.proofs.Full.{full_never}
use Rattle.eating.proofs.Rows.{servable, rows_done, rows_rest, list_within}
use Rattle.eating.proofs.serving.serve_caps.Goals as goal

pub loop-agent-init : goal.loop-agent-init
loop-agent-init c = record {
  done = λ market h free i a l m. absurd (omega arith);
  rest = λ market h free n l m. ap (λ xs. get_or xs n 0) (c.fill.ensures.after (λ y is. is)) ∙ get_or-replicate (length c.args.caps.now) n c.args.unit 0 m;
}

pub cap_line-requires-clause-line : goal.cap_line-requires-clause-line
cap_line-requires-clause-line c =
    c.requires.lines.each c.loop-agent.agent c.index-lines-agent.result (slice_get_read c.args.lines.now (length c.args.lines.now) c.loop-agent.agent c.index-lines-agent.result (omega arith) c.loop-agent-test.true c.index-lines-agent.is)

pub cap_line-requires-clause-inside : goal.cap_line-requires-clause-inside
cap_line-requires-clause-inside c k d l =
    let is = slice_get_read c.args.lines.now (length c.args.lines.now) c.loop-agent.agent c.index-lines-agent.result (omega arith) c.loop-agent-test.true c.index-lines-agent.is in
    let less = c.requires.lists c.loop-agent.agent c.index-lines-agent.result is k d l in
    let room : (c.loop-agent.agent + 1) * c.args.columns ≤ length c.args.lines.now * c.args.columns = mul-le-mul_right c.args.columns (let t : c.loop-agent.agent + 1 ≤ length c.args.lines.now = omega (arith, c.loop-agent-test.true) in t) in
    omega (arith, less, room, add-mul c.loop-agent.agent 1 c.args.columns, c.requires.room, c.loop-agent.auto.caps, c.fill.ensures.len)

pub loop-agent-preserved : goal.loop-agent-preserved
loop-agent-preserved c =
    let n = c.loop-agent.agent in
    let columns = c.args.columns in
    let e = c.args.moments.now in
    let D = c.args.unit in
    let first = c.args.stated in
    let line = c.index-lines-agent.result in
    let is = slice_get_read c.args.lines.now (length c.args.lines.now) n line (omega arith) c.loop-agent-test.true c.index-lines-agent.is in
    let room : (n + 1) * columns ≤ length c.args.lines.now * columns = mul-le-mul_right columns (let t : n + 1 ≤ length c.args.lines.now = omega (arith, c.loop-agent-test.true) in t) in
    let within : (n + 1) * columns ≤ length c.args.caps.now = omega (arith, room, c.requires.room) in
    record {
      done = λ market h free. (let (w, s) = servable market c.args.lines.now e n line h c.loop-agent-test.true is in
          rows_done columns n D (length c.args.caps.now) (full_at D (drop first market.limits) (drop first e)) w.list c.loop-agent.caps c.cap_line.new.caps within
          (list_within columns market n w line e s (c.requires.lists n line is))
          (λ a off. full_never D (drop first market.limits) (drop first e) n a (recursion_from_All (λ (s : Limit). holds s.cells (cell_of n a) ≡ false) (drop first market.limits) (free n a w s.agent off)))
          (c.cap_line.ensures market n w s) (c.loop-agent.invariant.rest market h free) (c.loop-agent.invariant.done market h free));
      rest = λ market h free. (let (w, s) = servable market c.args.lines.now e n line h c.loop-agent-test.true is in
          rows_rest columns n D (length c.args.caps.now) (full_at D (drop first market.limits) (drop first e)) w.list c.loop-agent.caps c.cap_line.new.caps within
          (list_within columns market n w line e s (c.requires.lists n line is))
          (λ a off. full_never D (drop first market.limits) (drop first e) n a (recursion_from_All (λ (s : Limit). holds s.cells (cell_of n a) ≡ false) (drop first market.limits) (free n a w s.agent off)))
          (c.cap_line.ensures market n w s) (c.loop-agent.invariant.rest market h free));
    }
