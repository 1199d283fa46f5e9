-- The end of a run: the status of its cause, the flush, and the line on the error sink.
use Rattle.std.specs.Prelude.{◌≡◌, ◌⊎◌, ℕ, List, Result, Ok, Err}
use Rattle.std.specs.Io.KnownBytes.{append_known}
use Rattle.device_core.specs.Counts.{Counted, Rose}
use Rattle.device_core.specs.Told.{AppendedFront}
use Rattle.device_core.specs.declared.traits.Sink as Sink
use Rattle.alloc_cli.specs.Lines.{line_of}
use Rattle.alloc_cli.specs.Runs.{Flushed}
use Rattle.alloc_outcomes.specs.Steps.{Untouched}
use Rattle.alloc_outcomes.specs.declared.cause.Cause.{Cause}
use Rattle.alloc_outcomes.specs.declared.cause.Cause.TheVariants as causes

-- the exit status of a cause
abbrev pub status_of : Cause → ℕ
status_of causes.Done = 0
status_of (causes.AuditFailed _) = 1
status_of causes.Usage = 2
status_of (causes.ReadFault _) = 4
status_of (causes.TooLong _) = 3
status_of (causes.Input _) = 3
status_of (causes.Lottery _) = 3
status_of (causes.Pact _) = 3
status_of (causes.Crossing _ _) = 3
status_of causes.NoSides = 3
status_of (causes.Infeasible _ _) = 3
status_of (causes.TooFine _) = 5
status_of (causes.OverGuard _ _) = 3
status_of (causes.OverTotal _ _) = 3
status_of (causes.TicketOutOfRange _ _) = 3
status_of causes.NoTicket = 5
status_of causes.WriteFault = 4
status_of causes.NoMemory = 6

-- out's count over the end of a run
abbrev pub CloseCount : {T : Type 0} → ℕ → ℕ → Result T Cause → Cause → Type 0
CloseCount before now (Err cause) result = now ≡ before
CloseCount before now (Ok _) causes.WriteFault = Counted before now
CloseCount before now (Ok _) _ = now ≡ before

module _ {K : Type 0} (sink : Sink.Ghosts K) where
  -- the flush answered, and the cause is Done or WriteFault
  abbrev pub Flushes : K → K → Cause → Type 0
  Flushes old new causes.Done = Flushed (sink.written new) (sink.flushed new)
  Flushes old new causes.WriteFault = sink.flushed new ≡ sink.flushed old
  Flushes old new _ = ⊥

  -- the cause at the end of a run after its step: a refusal stays, and else the flush decides
  abbrev pub ClosesBy : {T : Type 0} → K → K → Result T Cause → Cause → Type 0
  ClosesBy old new (Err cause) result = (result ≡ cause) × (sink.flushed new ≡ sink.flushed old)
  ClosesBy old new (Ok _) result = Flushes old new result

  -- that end: no byte is written
  pub record Closes {T : Type 0} (old new : K) (written : Result T Cause)
      (result : Cause) : Type 0 where
    pub bytes : sink.written new ≡ sink.written old
    pub cause : ClosesBy old new written result
    pub short : sink.short new ≡ sink.short old
    pub faults : CloseCount (sink.faults old) (sink.faults new) written result

  -- a line, whole and flushed unless a count rose
  pub record LineOn (line : List ℕ) (old new : K) : Type 0 where
    pub front : AppendedFront (sink.written old) (sink.written new) line
    pub whole : (Rose (sink.faults old) (sink.faults new) ⊎ Rose (sink.short old) (sink.short new))
        ⊎ ((sink.written new ≡ append_known (sink.written old) line)
        × Flushed (sink.written new) (sink.flushed new))

  -- what err gets: nothing on Done, and else the line of the cause
  abbrev pub Tells : K → K → Cause → Type 0
  Tells old new causes.Done = Untouched sink old new
  Tells old new cause = LineOn (line_of cause) old new
