use Rattle.std.proofs.Common.{take, map, Result, Ok}
use Rattle.definitions.specs.Values.{piece_value}
use Rattle.table_text.specs.Rows.{rows_text}
use Rattle.device_core.specs.declared.faults.SinkFault.{SinkFault}
use Rattle.lottery_file.specs.Buffers.{Puts}
use Rattle.lottery_file.specs.Written.{pieces_rows}
use Rattle.lottery_file.proofs.body.put_pieces.Given as goal

-- the pieces so far were put
abbrev pub invariant-loop-i : goal.invariant-loop-i
invariant-loop-i g l =
    let done : Result (Unit {0}) SinkFault = Ok tt in
    Puts g.K.Sink.written g.K.Sink.flushed g.K.Sink.faults g.K.Sink.short l.initial.out l.out l.initial.buffer.items l.buffer.items (rows_text (pieces_rows l.agents l.columns 1 (take l.i (map piece_value l.pieces)))) done
