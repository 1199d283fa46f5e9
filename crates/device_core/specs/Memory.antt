-- What devices in memory keep, and which of their calls fail.
use Rattle.std.specs.Prelude.{◌≡◌, ◌+◌, ◌-◌, ◌^◌, ◌==◌, ◌++◌, ◌⊎◌, ℕ, List, Option, None, Some, Result, Ok, Err, Vec, String, Contains, find, map, min, option_map, string_bytes, take}
use Rattle.std.specs.declared.alloc.Global.{Global}
use Rattle.device_core.specs.Held.{file_at}
use Rattle.device_core.specs.declared.faults.SinkFault.{SinkFault}
use Rattle.device_core.specs.declared.faults.SinkFault.TheVariants as sink

-- the name and the bytes of a file
abbrev pub file_of : String Global × Vec ℕ Global → List ℕ × List ℕ
file_of file = (string_bytes file.0, file.1.items)

abbrev pub files_of : List (String Global × Vec ℕ Global) → List (List ℕ × List ℕ)
files_of files = map file_of files

-- files in memory: `failing` has the numbers of the loads that fail, and `calls` is the number of the next load
pub record MemoryFilesState : Type 0 where
  pub held : List (List ℕ × List ℕ)
  pub failing : List ℕ
  pub calls : ℕ
  pub faults : ℕ

-- a sink in memory: `failing` pairs the number of a call that fails with how many bytes it keeps, and `calls` is the number of the next call
pub record MemorySinkState : Type 0 where
  pub written : List ℕ
  pub flushed : ℕ
  pub failing : List (ℕ × ℕ)
  pub calls : ℕ
  pub faults : ℕ
  pub short : ℕ

-- the number of the call after this one, which stands still at the end of its type
abbrev pub next_call : ℕ → ℕ
next_call number = min (number + 1) (2 ^ 64 - 1)

-- the next load of this name fails: its number is listed, or no file has the name
abbrev pub FailsToLoad : MemoryFilesState → List ℕ → Type 0
FailsToLoad files name = Contains files.failing files.calls ⊎ (file_at files.held name ≡ None)

-- how many bytes the first pair of this number keeps
abbrev pub kept_at : List (ℕ × ℕ) → ℕ → Option ℕ
kept_at failing number = option_map (λ pair. pair.1) (find (λ pair. pair.0 == number) failing)

-- what a write does that keeps so many bytes and fails, or is in no pair; refused memory, it appends nothing
abbrev pub WriteAnswers : {T : Type 0} → Option ℕ → List ℕ → List ℕ → List ℕ → Result T SinkFault → Type 0
WriteAnswers None old new piece (Ok _) = new ≡ old ++ piece
WriteAnswers None old new piece (Err sink.Failed) = ⊥
WriteAnswers None old new piece (Err sink.NoMemory) = new ≡ old
WriteAnswers (Some kept) old new piece (Ok _) = ⊥
WriteAnswers (Some kept) old new piece (Err sink.Failed) = new ≡ old ++ take kept piece
WriteAnswers (Some kept) old new piece (Err sink.NoMemory) = new ≡ old
