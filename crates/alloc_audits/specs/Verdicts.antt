-- What an audit answers: `pass` and a line feed, or the first check that fails; and what is said of its runs.
use Rattle.std.specs.Prelude.{◌≡◌, ℕ, ◌++◌, List, [], ◌∷◌, codes, Option, None, Some, Result, Ok, Err}
use Rattle.alloc_outcomes.specs.Sentences.{Counts, Run}
use Rattle.alloc_outcomes.specs.declared.cause.Cause.{Cause}
use Rattle.alloc_outcomes.specs.declared.cause.Cause.TheVariants as causes
use Rattle.cert_check.specs.declared.faults.Fault.{Fault}
use Rattle.cert_check.specs.declared.verdicts.Verdict.{Verdict}
use Rattle.cert_check.specs.declared.verdicts.Verdict.TheVariants as verdicts
use Rattle.device_core.specs.Counts.{Rose}

-- what is written where every check passes
abbrev pub pass_text : List ℕ
pass_text = codes "pass" ++ 10 ∷ []

-- the cause of a failed check
abbrev pub audit_cause : Fault → Cause
audit_cause fault = causes.AuditFailed fault

-- a verdict, as `?` takes it
abbrev pub result_of : Verdict → Result (Unit {0}) Fault
result_of verdicts.Pass = Ok tt
result_of (verdicts.Fail fault) = Err fault

-- the first fault in this form
abbrev pub result_at : Option Fault → Result (Unit {0}) Fault
result_at None = Ok tt
result_at (Some fault) = Err fault

-- no check of these fails, or this is the first that does
abbrev pub PassesOrFails : Option Fault → Result (Unit {0}) Fault → Type 0
PassesOrFails first result = result ≡ result_at first

-- this text was appended, and `pass`
abbrev pub Wrote : List ℕ → Run → Type 0
Wrote due run = run.written ≡ Some (run.before ++ due)

abbrev pub Passed : Run → Type 0
Passed run = Wrote pass_text run

-- the other causes that a sentence leaves: none, too fine a denominator, or too many sets for the guard
abbrev pub LeavesNone : Cause → Type 0
LeavesNone _ = ⊥

abbrev pub LeavesTooFine : Type 0 → Cause → Type 0
LeavesTooFine too_fine (causes.TooFine denominator) = too_fine
LeavesTooFine too_fine _ = ⊥

abbrev pub LeavesOverGuard : (ℕ → ℕ → Type 0) → Cause → Type 0
LeavesOverGuard over (causes.OverGuard sets cells) = over sets cells
LeavesOverGuard over _ = ⊥

-- Done as it is said; or a check failed, and the lottery isn't sound; or a load or a write failed, or memory was refused; or
-- one of the causes that are left
abbrev pub JudgesBy : (done sound : Type 0) → (left : Cause → Type 0) → (old new : Counts) → Cause → Type 0
JudgesBy done sound left old new causes.Done = done
JudgesBy done sound left old new (causes.AuditFailed fault) = sound → ⊥
JudgesBy done sound left old new (causes.ReadFault file) = Rose old.files new.files
JudgesBy done sound left old new causes.WriteFault = Rose old.out new.out
JudgesBy done sound left old new causes.NoMemory = Unit {0}
JudgesBy done sound left old new cause = left cause

abbrev pub Judges : (done sound : Type 0) → (left : Cause → Type 0) → Run → Type 0
Judges done sound left run = JudgesBy done sound left run.counts run.counts_after run.cause
