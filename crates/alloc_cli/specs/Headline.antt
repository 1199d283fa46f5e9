-- The headline of a run: what its command's own sentence says of it, in the words of the definitions.
use Rattle.std.specs.Prelude.{◌≡◌, ℕ, List, Option, Some, map}
use Rattle.device_core.specs.Held.{bytes_at}
use Rattle.alloc_cli.specs.Outcomes.{Says}
use Rattle.alloc_cli.specs.Runs.{Held, names_of}
use Rattle.alloc_cli.specs.Words.{command_of}
use Rattle.alloc_cli.specs.declared.words.Command.{Command}
use Rattle.alloc_outcomes.specs.Sentences.{Counts}
use Rattle.alloc_outcomes.specs.declared.cause.Cause.{Cause}

-- where the words are a command's, the files tell what they hold, and the output tells what was written
-- before: what is said of a run of this command on what the named files hold
abbrev pub Headline : Held → List (List ℕ) → (written written' : Option (List ℕ))
    → (counts counts' : Counts) → Cause → Type 0
Headline held words written written' counts counts' cause =
    (command : Command) (told : List (List ℕ × List ℕ)) (before : List ℕ)
    → command_of words ≡ Some command → held ≡ Some told → written ≡ Some before
    → Says command (map (bytes_at told) (names_of command words)) (record {
      before = before;
      written = written';
      counts = counts;
      counts_after = counts';
      cause = cause;
    })
