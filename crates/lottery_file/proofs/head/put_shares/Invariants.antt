use Rattle.std.proofs.Common.{take, Result, Ok}
use Rattle.table_text.specs.Rows.{rows_text}
use Rattle.device_core.specs.declared.faults.SinkFault.{SinkFault}
use Rattle.lottery_file.specs.Buffers.{Puts}
use Rattle.lottery_file.specs.Written.{share_rows}
use Rattle.lottery_file.proofs.head.put_shares.Given as goal

-- the units of the agents so far were put
abbrev pub invariant-loop-agent : goal.invariant-loop-agent
invariant-loop-agent g l =
    let done : Result (Unit {0}) SinkFault = Ok tt in
    Puts g.K.Sink.written g.K.Sink.flushed g.K.Sink.faults g.K.Sink.short l.initial.out l.out l.initial.buffer.items l.buffer.items (rows_text (take l.agent (share_rows l.agents l.shares.columns l.shares.units))) done
