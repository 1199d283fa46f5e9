use Rattle.std.proofs.Common.{◌<◌, arith}
use Rattle.std.proofs.lemmas.List.FromFn.{sum_by-map-range_with_len_more}
use Rattle.definitions.specs.Sets.{cell_of, units_of}
use Rattle.alloc_report.proofs.UnitsLemmas.{column_fits}
use Rattle.alloc_report.proofs.numbers.units_in.Goals as goal

pub overflow_add-sum : goal.overflow_add-sum
overflow_add-sum c =
    let x = c.args.lottery.now.shares in
    let within : c.loop-agent.agent < x.agents = omega arith in
    let fits = column_fits x c.args.column c.loop-agent.agent c.at-sum.ensures.lawful c.requires.column within in
    omega (arith, c.loop-agent.invariant, c.at-sum.ensures.value, fits)

pub loop-agent-preserved : goal.loop-agent-preserved
loop-agent-preserved c =
    let more = sum_by-map-range_with_len_more (units_of c.args.lottery.now.shares) (λ i. cell_of i c.args.column) 0 c.loop-agent.agent c.loop-agent.agent (omega arith) in
    omega (arith, c.loop-agent.invariant, c.at-sum.ensures.value, more)
