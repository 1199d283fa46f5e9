-- What a step does to its sink, up to the flush.
use Rattle.std.specs.Prelude.{◌≡◌, ◌⊎◌, ℕ, ◌≤◌, List, Result, Ok, Err}
use Rattle.std.specs.Io.KnownBytes.{append_known}
use Rattle.device_core.specs.Counts.{Counted}
use Rattle.device_core.specs.Told.{AppendedFront}
use Rattle.device_core.specs.declared.traits.Sink as Sink
use Rattle.alloc_outcomes.specs.declared.cause.Cause.{Cause}
use Rattle.alloc_outcomes.specs.declared.cause.Cause.TheVariants as causes
use Rattle.alloc_outcomes.specs.Answers.{Answer, refuse, text}
use Rattle.alloc_outcomes.specs.Causes.{IsRefusal}

-- the count of faults of a sink over a run or a part of one: it moves only under WriteFault, and
-- then it rose
abbrev pub OutCount : ℕ → ℕ → Cause → Type 0
OutCount before now causes.WriteFault = Counted before now
OutCount before now _ = now ≡ before

-- the count of writes refused for want of memory: it moves only under NoMemory
abbrev pub ShortCount : ℕ → ℕ → Cause → Type 0
ShortCount before now causes.NoMemory = before ≤ now
ShortCount before now _ = now ≡ before

-- both over a step, where neither moves at Ok
abbrev pub OutCounts : {T : Type 0} → ℕ → ℕ → Result T Cause → Type 0
OutCounts before now (Ok _) = now ≡ before
OutCounts before now (Err cause) = OutCount before now cause

abbrev pub ShortCounts : {T : Type 0} → ℕ → ℕ → Result T Cause → Type 0
ShortCounts before now (Ok _) = now ≡ before
ShortCounts before now (Err cause) = ShortCount before now cause

module _ {K : Type 0} (sink : Sink.Ghosts K) where
  -- a sink is as it was
  pub record Untouched (old new : K) : Type 0 where
    pub bytes : sink.written new ≡ sink.written old
    pub mark : sink.flushed new ≡ sink.flushed old

  -- a text of the outcome was appended whole
  pub record Whole (outcome : Answer → Type 0) (old new : K) : Type 0 where
    pub whole : List ℕ
    pub allowed : outcome (text whole)
    pub bytes : sink.written new ≡ append_known (sink.written old) whole

  -- a front of a text of the outcome was appended
  pub record Front (outcome : Answer → Type 0) (old new : K) : Type 0 where
    pub whole : List ℕ
    pub allowed : outcome (text whole)
    pub bytes : AppendedFront (sink.written old) (sink.written new) whole

  -- a refusal of the outcome, and the sink is as it was
  pub record Refused (outcome : Answer → Type 0) (old new : K) (cause : Cause) : Type 0 where
    pub kind : IsRefusal cause
    pub due : outcome (refuse cause)
    pub untouched : Untouched old new

  -- what a step leaves that doesn't come to its end
  abbrev pub Stopped : (Answer → Type 0) → K → K → Cause → Type 0
  Stopped outcome old new causes.Done = ⊥
  Stopped outcome old new causes.WriteFault = Front outcome old new
  Stopped outcome old new causes.NoMemory = Untouched old new ⊎ Front outcome old new
  Stopped outcome old new cause = Refused outcome old new cause

  -- what a step leaves
  abbrev pub Stepped : {T : Type 0} → (Answer → Type 0) → K → K → Result T Cause → Type 0
  Stepped outcome old new (Ok _) = Whole outcome old new
  Stepped outcome old new (Err cause) = Stopped outcome old new cause

  -- a step: at Ok it wrote a text of the outcome; a refusal is the outcome's, and came before
  -- anything was written
  pub record Steps {T : Type 0} (outcome : Answer → Type 0) (old new : K)
      (result : Result T Cause) : Type 0 where
    pub step : Stepped outcome old new result
    pub short : ShortCounts (sink.short old) (sink.short new) result
    pub faults : OutCounts (sink.faults old) (sink.faults new) result
