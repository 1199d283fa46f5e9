use Rattle.std.proofs.Common.{take, map, Result, Ok}
use Rattle.table_text.specs.Rows.{rows_text}
use Rattle.device_core.specs.declared.faults.SinkFault.{SinkFault}
use Rattle.lottery_file.specs.Buffers.{Puts}
use Rattle.lottery_file.specs.Written.{give_row}
use Rattle.lottery_file.proofs.body.put_gives.Given as goal

-- the gives so far were put
abbrev pub invariant-loop-give : goal.invariant-loop-give
invariant-loop-give g l =
    let done : Result (Unit {0}) SinkFault = Ok tt in
    Puts g.K.Sink.written g.K.Sink.flushed g.K.Sink.faults g.K.Sink.short l.initial.out l.out l.initial.buffer.items l.buffer.items (rows_text (take l.give-index (map (give_row l.agents l.columns) l.gives))) done
