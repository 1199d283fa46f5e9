-- What a run must answer where the files tell what they hold and no device fails.
use Rattle.std.specs.Prelude.{◌≡◌, ◌+◌, ℕ, List, Some, take, map}
use Rattle.device_core.specs.Counts.{Rose}
use Rattle.device_core.specs.Held.{bytes_at}
use Rattle.alloc_cli.specs.Outcomes.{Outcome}
use Rattle.alloc_cli.specs.Runs.{Held, names_of}
use Rattle.alloc_cli.specs.Words.{command_of}
use Rattle.alloc_cli.specs.declared.words.Command.{Command}
use Rattle.alloc_outcomes.specs.Answers.{refuse, text}
use Rattle.alloc_outcomes.specs.Limits.{file_limit}
use Rattle.alloc_outcomes.specs.Sentences.{Counts}
use Rattle.alloc_outcomes.specs.declared.cause.Cause.{Cause}
use Rattle.alloc_outcomes.specs.declared.cause.Cause.TheVariants as causes

-- what loads give of files that tell what they hold
abbrev pub loaded : List (List ℕ × List ℕ) → List (List ℕ) → List (List ℕ)
loaded files names = map (λ name. take (file_limit + 1) (bytes_at files name)) names

-- the cause is the one whose condition holds, and Done where a text may be written or no condition
-- holds
pub record IsDue (command : Command) (given : List (List ℕ)) (cause : Cause) : Type 0 where
  pub refused : (due : Cause) → Outcome command given (refuse due) → cause ≡ due
  pub done : (t : List ℕ) → Outcome command given (text t) → cause ≡ causes.Done
  pub otherwise : ((due : Cause) → Outcome command given (refuse due) → ⊥) → cause ≡ causes.Done

-- no count rose, memory was there, and the files tell: the run answers what is due
abbrev pub Completes : Held → List (List ℕ) → (old new : Counts) → Cause → Type 0
Completes held words old new cause = (command : Command) (files : List (List ℕ × List ℕ))
    → command_of words ≡ Some command → held ≡ Some files
    → (Rose old.files new.files → ⊥) → (Rose old.out new.out → ⊥) → (cause ≡ causes.NoMemory → ⊥)
    → IsDue command (loaded files (names_of command words)) cause
