-- What loads give.
use Rattle.std.specs.Prelude.{◌≡◌, ℕ, List, map, Vec, Result, Ok, Err}
use Rattle.std.specs.declared.alloc.Global.{Global}
use Rattle.alloc_cli.specs.Runs.{FilesCount}
use Rattle.alloc_outcomes.specs.declared.cause.Cause.{Cause}

-- what was loaded
abbrev pub bytes_of : List (Vec ℕ Global) → List (List ℕ)
bytes_of given = map (λ v. v.items) given

-- the files' count over the loads
abbrev pub LoadsCount : {T : Type 0} → ℕ → ℕ → Result T Cause → Type 0
LoadsCount before now (Ok _) = now ≡ before
LoadsCount before now (Err cause) = FilesCount before now cause
