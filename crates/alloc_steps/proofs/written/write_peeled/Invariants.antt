use Rattle.std.proofs.Common.{◌≡◌}
use Rattle.std.specs.Prelude.{option_map}
use Rattle.definitions.specs.Values.{prices_value}
use Rattle.device_core.specs.Counts.{WriterCounts}
use Rattle.lottery_file.specs.Lotteries.{lists_value}
use Rattle.alloc_steps.proofs.Loop.{SoFar}
use Rattle.alloc_steps.proofs.written.write_peeled.Given as goal

abbrev pub invariant-loop-weight : goal.invariant-loop-weight
invariant-loop-weight g l =
    let written_by = g.K.Sink.written in
    let faults_of = g.K.Sink.faults in
    let short_of = g.K.Sink.short in
    record {
      so_far : SoFar l.agents l.columns l.shares (lists_value l.lists) (option_map (λ y. prices_value y.now) l.prices) l.fn.peeler l.peeler l.number (written_by l.fn.out) (written_by l.out) l.state;
      flushed : g.K.Sink.flushed l.out ≡ g.K.Sink.flushed l.fn.out;
      counted : WriterCounts (faults_of l.fn.out) (faults_of l.out) (short_of l.fn.out) (short_of l.out) l.state;
    }

abbrev pub decreases-loop-weight : goal.decreases-loop-weight
decreases-loop-weight g l = l.peeler.left
