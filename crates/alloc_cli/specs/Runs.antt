-- What a run does to its devices, by its cause.
use Rattle.std.specs.Prelude.{◌≡◌, ℕ, ◌+◌, ◌≤◌, List, length, take, drop, map, Option, IfSome, All}
use Rattle.device_core.specs.Counts.{Counted}
use Rattle.device_core.specs.Held.{bytes_at}
use Rattle.device_core.specs.declared.traits.Sink as Sink
use Rattle.alloc_cli.specs.Words.{file_count}
use Rattle.alloc_cli.specs.declared.words.Command.{Command}
use Rattle.alloc_outcomes.specs.Answers.{Answer}
use Rattle.alloc_outcomes.specs.Limits.{file_limit}
use Rattle.alloc_outcomes.specs.Steps.{Stopped, Whole}
use Rattle.alloc_outcomes.specs.declared.cause.Cause.{Cause}
use Rattle.alloc_outcomes.specs.declared.cause.Cause.TheVariants as causes

-- the files' count over a run, or a part of one: it moves only under ReadFault, and then it rose
abbrev pub FilesCount : ℕ → ℕ → Cause → Type 0
FilesCount before now (causes.ReadFault _) = Counted before now
FilesCount before now _ = now ≡ before

-- the last byte is flushed
abbrev pub Flushed : Option (List ℕ) → ℕ → Type 0
Flushed written flushed = IfSome written (λ bytes. flushed ≡ length bytes)

module _ {K : Type 0} (sink : Sink.Ghosts K) where
  -- a text of the outcome was written whole and flushed
  pub record Completed (outcome : Answer → Type 0) (old new : K) : Type 0 where
    pub wrote : Whole sink outcome old new
    pub flush : Flushed (sink.written new) (sink.flushed new)

  -- a run, after its files are loaded
  abbrev pub Ends : (Answer → Type 0) → K → K → Cause → Type 0
  Ends outcome old new causes.Done = Completed outcome old new
  Ends outcome old new cause = Stopped sink outcome old new cause

-- the names and bytes of files, where they tell them
abbrev pub Held : Type 0
Held = Option (List (List ℕ × List ℕ))

-- what loads of files of these names gave
pub record IsGiven (held : Held) (names given : List (List ℕ)) : Type 0 where
  pub count : length given ≡ length names
  pub bound : All (λ bytes. length bytes ≤ file_limit + 1) given
  pub told : IfSome held (λ files.
      given ≡ map (λ name. take (file_limit + 1) (bytes_at files name)) names)

-- a cause that ends the loads of so many files
abbrev pub IsUnread : ℕ → Cause → Type 0
IsUnread files (causes.ReadFault file) = (1 ≤ file) × (file ≤ files)
IsUnread files causes.NoMemory = Unit {0}
IsUnread files _ = ⊥

-- the names of the files
abbrev pub names_of : Command → List (List ℕ) → List (List ℕ)
names_of command words = take (file_count command) (drop 1 words)
