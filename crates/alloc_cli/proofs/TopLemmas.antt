-- From a step and the end of a run to the whole run.
use Rattle.std.proofs.Common.{◌≡◌, ◌⊎◌, ℕ, List, [], ◌∙◌, append-nil, Option, Result, Ok, Err, inl, inr, None, Some}
use Rattle.std.specs.Prelude.{MatchOption, IsErrAnd}
use Rattle.device_core.specs.declared.traits.Sink as Sink
use Rattle.alloc_cli.specs.Finish.{Closes, ClosesBy}
use Rattle.alloc_cli.specs.Runs.{Ends}
use Rattle.alloc_cli.specs.Top.{Answered, Begun, Ran, Read, Refusal, Unread}
use Rattle.alloc_cli.specs.Words.{command_of}
use Rattle.alloc_cli.specs.declared.words.Command.{Command}
use Rattle.alloc_outcomes.specs.Answers.{Answer}
use Rattle.alloc_outcomes.specs.Steps.{Front, Refused, Stepped, Stopped, Untouched, Whole}
use Rattle.alloc_outcomes.specs.declared.cause.Cause.{Cause}
use Rattle.alloc_outcomes.specs.declared.cause.Cause.TheVariants as causes

module _ {K : Type 0} (sink : Sink.Ghosts K) (old mid new : K) (bytes : sink.written new ≡ sink.written mid) where
  still : sink.flushed new ≡ sink.flushed mid → Untouched sink old mid → Untouched sink old new
  still mark u = record { bytes = bytes ∙ u.bytes; mark = mark ∙ u.mark }

  front_still : (outcome : Answer → Type 0) → Front sink outcome old mid → Front sink outcome old new
  front_still outcome f = record { whole = f.whole; allowed = f.allowed; bytes = (f.bytes.0, f.bytes.1, bytes ∙ f.bytes.2) }

  refused_still : (outcome : Answer → Type 0) (cause : Cause) → sink.flushed new ≡ sink.flushed mid → Refused sink outcome old mid cause → Refused sink outcome old new cause
  refused_still outcome cause mark r = record { kind = r.kind; due = r.due; untouched = still mark r.untouched }

  -- what a stopped step left stays where nothing more is written
  stopped_still : (outcome : Answer → Type 0) (cause : Cause) → sink.flushed new ≡ sink.flushed mid → Stopped sink outcome old mid cause → Ends sink outcome old new cause
  stopped_still outcome causes.Done mark s = absurd s
  stopped_still outcome causes.WriteFault mark s = front_still outcome s
  stopped_still outcome causes.NoMemory mark (inl u) = inl (still mark u)
  stopped_still outcome causes.NoMemory mark (inr f) = inr (front_still outcome f)
  stopped_still outcome cause mark s = refused_still outcome cause mark s

  whole_front : (outcome : Answer → Type 0) → Whole sink outcome old mid → Front sink outcome old new
  whole_front outcome w = record { whole = w.whole; allowed = w.allowed; bytes = (w.whole, ([], append-nil w.whole), bytes ∙ w.bytes) }

  ends_from_step : {T : Type 0} (outcome : Answer → Type 0) (result : Result T Cause) (cause : Cause) → Stepped sink outcome old mid result → ClosesBy sink mid new result cause → Ends sink outcome old new cause
  ends_from_step outcome (Err e) cause stepped closes = rw closes.0 (stopped_still outcome e closes.1 stepped)
  ends_from_step outcome (Ok _) causes.Done stepped closes = record { wrote = record { whole = stepped.whole; allowed = stepped.allowed; bytes = bytes ∙ stepped.bytes }; flush = closes }
  ends_from_step outcome (Ok _) causes.WriteFault stepped closes = whole_front outcome stepped
  ends_from_step outcome (Ok _) _ stepped closes = absurd closes

  module _ (held : Option (List (List ℕ × List ℕ))) (words : List (List ℕ)) where
    ran_when : {T : Type 0} (result : Result T Cause) (cause : Cause) (command : Option Command)
        → MatchOption command (IsErrAnd result (λ e. Refusal sink old mid e)) (λ it. Answered sink held words it old mid result) → ClosesBy sink mid new result cause
        → MatchOption command (Refusal sink old new cause) (λ it. Unread sink it old new cause ⊎ Read sink held words it old new cause)
    ran_when (Ok _) cause None begun closes = absurd begun
    ran_when (Err e) cause None begun closes = record { usage = closes.0 ∙ begun.usage; untouched = still closes.1 begun.untouched }
    ran_when (Ok _) cause (Some command) (inl gave_up) closes = absurd gave_up.unread
    ran_when (Err e) cause (Some command) (inl gave_up) closes = inl (record { unread = rw closes.0 gave_up.unread; untouched = still closes.1 gave_up.untouched })
    ran_when result cause (Some command) (inr gave) closes = inr (record { given = gave.given; gave = gave.gave; ends = ends_from_step _ result cause gave.stepped closes })

pub ran_from_begun : {K T : Type 0} (sink : Sink.Ghosts K) (held : Option (List (List ℕ × List ℕ))) (words : List (List ℕ)) (old mid new : K) (result : Result T Cause) (cause : Cause)
    → Begun sink held words old mid result → Closes sink mid new result cause → Ran sink held words old new cause
ran_from_begun sink held words old mid new result cause begun closes = ran_when sink old mid new closes.bytes held words result cause (command_of words) begun closes.cause
