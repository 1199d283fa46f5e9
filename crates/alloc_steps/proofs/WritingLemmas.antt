-- A step that ends with a writer of a lottery.
use Rattle.std.proofs.Common.{◌≡◌, ap, inl, inr, refl, subst, sym, Result, Ok, Err}
use Rattle.std.specs.Prelude.{IsErrAnd}
use Rattle.alloc_outcomes.specs.Answers.{Answer, refuse, text, HasText}
use Rattle.alloc_outcomes.specs.Causes.{sink_cause}
use Rattle.alloc_outcomes.specs.Steps.{Steps}
use Rattle.alloc_outcomes.specs.declared.cause.Cause.{Cause}
use Rattle.alloc_outcomes.proofs.AnswersLemmas.{IsPart}
use Rattle.alloc_outcomes.proofs.StepsLemmas.{steps-unwritten}
use Rattle.alloc_steps.specs.Publishing.{IsLotteryText}
use Rattle.alloc_steps.specs.Writing.{WritesLottery, WritesLotteryOrNothing}
use Rattle.definitions.specs.Lotteries.{LotteryValue}
use Rattle.device_core.specs.Counts.{WriterCounts}
use Rattle.device_core.specs.declared.faults.SinkFault.{SinkFault}
use Rattle.device_core.specs.declared.faults.SinkFault.TheVariants as faults
use Rattle.device_core.specs.declared.traits.Sink as Sink
use Rattle.lottery_file.specs.Written.{lottery_text}

-- what is allowed of lotteries with a property is allowed of those with a stronger one
pub lottery_part : {property weaker : LotteryValue → Type 0} {outcome : Answer → Type 0} → ((l : LotteryValue) → property l → weaker l) → IsPart (HasText (IsLotteryText weaker)) outcome → IsPart (HasText (IsLotteryText property)) outcome
lottery_part weaken part (text t) h = part (text t) (record { lottery = h.lottery; plain = h.plain; has = weaken h.lottery h.has; is = h.is })
lottery_part weaken part (refuse cause) h = absurd h

module _ {K : Type 0} (sink : Sink.Ghosts K) {property : LotteryValue → Type 0} {outcome : Answer → Type 0} (old new : K) (part : IsPart (HasText (IsLotteryText property)) outcome) where
  allowed : (l : LotteryValue) → IsLotteryText property (lottery_text l) → outcome (text (lottery_text l))
  allowed l good = part (text (lottery_text l)) good

  good_text : {T : Type 0} (r : Result T SinkFault) (w : WritesLottery sink.written property old new r) → IsLotteryText property (lottery_text w.lottery)
  good_text r w = record { lottery = w.lottery; plain = w.plain; has = w.has; is = refl }

  unwritten : {T : Type 0} (fault : SinkFault) (r : Result T Cause) → WritesLottery {T = T} sink.written property old new (Err fault)
      → WriterCounts {T = T} (sink.faults old) (sink.faults new) (sink.short old) (sink.short new) (Err fault) → IsErrAnd r (λ it. it ≡ sink_cause fault) → Steps sink outcome old new r
  unwritten {T = T} fault r w counts is = steps-unwritten sink old new fault r (allowed w.lottery (good_text {T = T} (Err fault) w)) w.bytes counts is

  -- the exit of a `?` after the writer
  pub steps-lottery-refused : {T : Type 0} (fault : SinkFault) (r : Result T Cause) → WritesLotteryOrNothing {T = T} sink.written property old new (Err fault)
      → sink.flushed new ≡ sink.flushed old → WriterCounts {T = T} (sink.faults old) (sink.faults new) (sink.short old) (sink.short new) (Err fault)
      → IsErrAnd r (λ it. it ≡ sink_cause fault) → Steps sink outcome old new r
  steps-lottery-refused fault (Ok x) w flushed counts is = absurd is
  steps-lottery-refused faults.Failed (Err it) w flushed counts is = unwritten faults.Failed (Err it) w counts is
  steps-lottery-refused {T = T} faults.NoMemory (Err it) (inl same) flushed counts is =
      subst (λ c. Steps sink {T = T} outcome old new (Err c)) (sym is) (record {
        step = inl (record { bytes = ap sink.written same; mark = flushed });
        short = counts.1;
        faults = counts.0;
      })
  steps-lottery-refused faults.NoMemory (Err it) (inr w) flushed counts is = unwritten faults.NoMemory (Err it) w counts is

  -- the end after the writer
  pub steps-lottery : {T U : Type 0} (v : U) (x : T) → WritesLotteryOrNothing sink.written property old new (Ok v)
      → WriterCounts {T = U} (sink.faults old) (sink.faults new) (sink.short old) (sink.short new) (Ok v) → Steps sink outcome old new (Ok x)
  steps-lottery v x w counts = record {
    step = record { whole = lottery_text w.lottery; allowed = allowed w.lottery (good_text (Ok v) w); bytes = w.bytes };
    short = counts.1;
    faults = counts.0;
  }
