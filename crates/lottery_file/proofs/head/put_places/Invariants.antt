use Rattle.std.proofs.Common.{take, Result, Ok}
use Rattle.table_text.specs.Rows.{rows_text}
use Rattle.device_core.specs.declared.faults.SinkFault.{SinkFault}
use Rattle.lottery_file.specs.Buffers.{Puts}
use Rattle.lottery_file.specs.Written.{place_rows}
use Rattle.lottery_file.proofs.head.put_places.Given as goal

-- the worths so far were put
abbrev pub invariant-loop-i : goal.invariant-loop-i
invariant-loop-i g l =
    let done : Result (Unit {0}) SinkFault = Ok tt in
    Puts g.K.Sink.written g.K.Sink.flushed g.K.Sink.faults g.K.Sink.short l.initial.out l.out l.initial.buffer.items l.buffer.items (rows_text (take l.i (place_rows l.agent l.columns l.list l.worths))) done
