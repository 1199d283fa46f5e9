use Rattle.std.proofs.Common.{take, map, Result, Ok}
use Rattle.lottery_file.specs.Lotteries.{lists_value}
use Rattle.table_text.specs.Rows.{rows_text}
use Rattle.device_core.specs.declared.faults.SinkFault.{SinkFault}
use Rattle.lottery_file.specs.Buffers.{Puts}
use Rattle.lottery_file.specs.Written.{worth_rows}
use Rattle.lottery_file.proofs.head.put_worths.Given as goal

-- the worths of the lists so far were put
abbrev pub invariant-loop-i : goal.invariant-loop-i
invariant-loop-i g l =
    let done : Result (Unit {0}) SinkFault = Ok tt in
    Puts g.K.Sink.written g.K.Sink.flushed g.K.Sink.faults g.K.Sink.short l.initial.out l.out l.initial.buffer.items l.buffer.items (rows_text (worth_rows (take l.i l.agents) l.columns (take l.i (lists_value l.lists)) (take l.i (map (λ w. w.items) l.worths)))) done
