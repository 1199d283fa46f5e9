-- What a whole run does.
use Rattle.std.specs.Prelude.{◌≡◌, ◌⊎◌, ℕ, List, MatchOption, Result, IsErrAnd}
use Rattle.device_core.specs.declared.traits.Sink as Sink
use Rattle.alloc_cli.specs.Outcomes.{Outcome}
use Rattle.alloc_cli.specs.Runs.{Ends, Held, IsGiven, IsUnread, names_of}
use Rattle.alloc_cli.specs.Words.{command_of, file_count}
use Rattle.alloc_cli.specs.declared.words.Command.{Command}
use Rattle.alloc_outcomes.specs.Steps.{Stepped, Untouched}
use Rattle.alloc_outcomes.specs.declared.cause.Cause.{Cause}
use Rattle.alloc_outcomes.specs.declared.cause.Cause.TheVariants as causes

module _ {K : Type 0} (sink : Sink.Ghosts K) where
  -- the words are in no form
  pub record Refusal (old new : K) (cause : Cause) : Type 0 where
    pub usage : cause ≡ causes.Usage
    pub untouched : Untouched sink old new

  -- the loads ended it
  pub record Unread (command : Command) (old new : K) (cause : Cause) : Type 0 where
    pub unread : IsUnread (file_count command) cause
    pub untouched : Untouched sink old new

  -- the same up to the flush
  pub record GaveUp {T : Type 0} (command : Command) (old new : K)
      (result : Result T Cause) : Type 0 where
    pub unread : IsErrAnd result (IsUnread (file_count command))
    pub untouched : Untouched sink old new

module _ {K : Type 0} (sink : Sink.Ghosts K) (held : Held) (words : List (List ℕ)) where
  -- the loads gave something, and it ends with an outcome of that
  pub record Read (command : Command) (old new : K) (cause : Cause) : Type 0 where
    pub given : List (List ℕ)
    pub gave : IsGiven held (names_of command words) given
    pub ends : Ends sink (Outcome command given) old new cause

  -- a run on these words, over files that hold so much
  abbrev pub Ran : K → K → Cause → Type 0
  Ran old new cause = MatchOption (command_of words) (Refusal sink old new cause)
      (λ command. Unread sink command old new cause ⊎ Read command old new cause)

  -- the same up to the flush: the loads gave something, and the command's step was made
  pub record Gave {T : Type 0} (command : Command) (old new : K)
      (result : Result T Cause) : Type 0 where
    pub given : List (List ℕ)
    pub gave : IsGiven held (names_of command words) given
    pub stepped : Stepped sink (Outcome command given) old new result

  -- or the loads ended it
  abbrev pub Answered : {T : Type 0} → Command → K → K → Result T Cause → Type 0
  Answered command old new result = GaveUp sink command old new result ⊎ Gave command old new result

  -- a run on these words, up to the flush
  abbrev pub Begun : {T : Type 0} → K → K → Result T Cause → Type 0
  Begun old new result = MatchOption (command_of words)
      (IsErrAnd result (λ cause. Refusal sink old new cause))
      (λ command. Answered command old new result)
