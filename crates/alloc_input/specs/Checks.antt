-- Checks in order, and what the parts of a reader answer to them.
use Rattle.std.specs.Prelude.{◌≡◌, ℕ, Bool, List, [], ◌∷◌, Option, Some, None, Result, MatchResult, if◌then◌else◌}
use Rattle.alloc_input.specs.declared.faults.InputFault.{InputFault}
use Rattle.alloc_input.specs.declared.faults.InputKind.{InputKind}
use Rattle.alloc_input.specs.declared.faults.InputRefusal.{InputRefusal}
use Rattle.alloc_input.specs.declared.faults.InputRefusal.TheVariants as refusal
use Rattle.alloc_input.specs.declared.faults.Stop.{Stop}
use Rattle.alloc_input.specs.declared.faults.Stop.TheVariants as stop

-- a check that fails with this kind where the test is false
abbrev pub need : Bool → InputKind → Option InputKind
need holds kind = if holds then None else Some kind

-- the first of some checks that fails
abbrev pub first_of : List (Option InputKind) → Option InputKind
first_of [] = None
first_of (None ∷ checks) = first_of checks
first_of (Some kind ∷ checks) = Some kind

-- what a stop says of the first failed check
abbrev pub StopsAt : Stop → Option InputKind → Type 0
StopsAt (stop.Unlawful k) check = check ≡ Some k
StopsAt stop.NoMemory check = Unit {0}

-- a check passes and leaves what P says, or it fails with the kind that comes first
abbrev pub Checks : {X : Type 0} → Result X Stop → Option InputKind → (X → Type 0) → Type 0
Checks r check P = MatchResult r (λ x. (check ≡ None) × P x) (λ e. StopsAt e check)

-- a check passes and leaves what P says, or the kind that comes first is found; no memory is wanted
abbrev pub Finds : {X : Type 0} → Result X InputKind → Option InputKind → (X → Type 0) → Type 0
Finds r check P = MatchResult r (λ x. (check ≡ None) × P x) (λ kind. check ≡ Some kind)

-- a stop at record n of a file is told
abbrev pub IsRefusalFor : Stop → ℕ → ℕ → InputRefusal → Type 0
IsRefusalFor (stop.Unlawful k) file n r = r ≡ refusal.Fault (record { file = file; record_no = n; kind = k })
IsRefusalFor stop.NoMemory file n r = r ≡ refusal.NoMemory

-- the fault of a file
abbrev pub IsFaultOf : ℕ → Option (ℕ × InputKind) → InputFault → Type 0
IsFaultOf file fault f = (f.file ≡ file) × (fault ≡ Some (f.record_no, f.kind))

-- what a refusal says of the fault of a file
abbrev pub Tells : ℕ → InputRefusal → Option (ℕ × InputKind) → Type 0
Tells file (refusal.Fault f) fault = (f.file ≡ file) × (fault ≡ Some (f.record_no, f.kind))
Tells file refusal.NoMemory fault = Unit {0}
