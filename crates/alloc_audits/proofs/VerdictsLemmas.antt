-- Verdicts as first faults, and from the outcome of an audit to its sentence of the headline.
use Rattle.std.proofs.Common.{◌≡◌, ◌∙◌, ℕ, List, ◌++◌, Option, Some, None, Result, Ok, Err, refl, subst, sym, ap}
use Rattle.std.specs.Option.{option_or}
use Rattle.std.specs.Prelude.{IsErrAnd}
use Rattle.alloc_audits.specs.Verdicts.{Judges, JudgesBy, Wrote, result_at, result_of}
use Rattle.alloc_outcomes.specs.Answers.{Answer, refuse, text}
use Rattle.alloc_outcomes.specs.Sentences.{Counts, Run}
use Rattle.alloc_outcomes.specs.declared.cause.Cause.{Cause}
use Rattle.alloc_outcomes.specs.declared.cause.Cause.TheVariants as causes
use Rattle.alloc_outcomes.proofs.SentencesLemmas.{Came, CameBy}
use Rattle.cert_check.specs.Verdicts.{verdict_of}
use Rattle.cert_check.specs.declared.faults.Fault.{Fault}
use Rattle.cert_check.specs.declared.verdicts.Verdict.{Verdict}
use Rattle.cert_check.specs.declared.verdicts.Verdict.TheVariants as verdicts

-- ---- verdicts

-- the verdict of a first fault, in the form of a result
result-verdict : (o : Option Fault) → result_of (verdict_of o) ≡ result_at o
result-verdict None = refl
result-verdict (Some fault) = refl

pub result_is : (v : Verdict) (o : Option Fault) → v ≡ verdict_of o → result_of v ≡ result_at o
result_is v o e = ap result_of e ∙ result-verdict o

pub is_pass : (v : Verdict) (u : Unit {0}) → Ok u ≡ result_of v → v ≡ verdicts.Pass
is_pass verdicts.Pass u e = refl
is_pass (verdicts.Fail fault) u e = absurd (cc e)

-- what a result says of a first fault
pub no_fault : (o : Option Fault) (u : Unit {0}) → Ok u ≡ result_at o → o ≡ None
no_fault None u e = refl
no_fault (Some fault) u e = absurd (cc e)

pub this_fault : (o : Option Fault) (fault : Fault) → Err fault ≡ result_at o → o ≡ Some fault
this_fault None fault e = absurd (cc e)
this_fault (Some other) fault e = cc e

-- where the first part fails, so does the whole; where it passes, the whole is the rest
pub stops : (first rest : Option Fault) (fault : Fault) (r : Result (Unit {0}) Fault) → Err fault ≡ result_at first → IsErrAnd r (λ it. it ≡ fault)
    → r ≡ result_at (option_or first rest)
stops first rest fault (Ok u) e is = absurd is
stops first rest fault (Err it) e is = ap Err is ∙ ap (λ o. result_at (option_or o rest)) (sym (this_fault first fault e))

pub goes_on : (first rest : Option Fault) → first ≡ None → result_at (option_or first rest) ≡ result_at rest
goes_on first rest none = ap (λ o. result_at (option_or o rest)) none

-- ---- the sentence

-- the answers that a sentence leaves: this text where all is as it should be, a failed check where it isn't, or one of the other causes
abbrev pub Judged : (due : List ℕ) → (good sound : Type 0) → (left : Cause → Type 0) → Answer → Type 0
Judged due good sound left (text t) = (t ≡ due) × good
Judged due good sound left (refuse (causes.AuditFailed fault)) = sound → ⊥
Judged due good sound left (refuse cause) = left cause

module _ (due : List ℕ) (outcome : Answer → Type 0) (good done sound : Type 0) (left : Cause → Type 0) (before : List ℕ) (written : Option (List ℕ))
    (expect : (answer : Answer) → outcome answer → Judged due good sound left answer) (publish : good → written ≡ Some (before ++ due) → done) where
  judges_by : (old new : Counts) (cause : Cause) → CameBy outcome before written old new cause → JudgesBy done sound left old new cause
  judges_by old new causes.Done came =
      let is = expect (text came.0) came.1 in
      publish is.1 (came.2 ∙ ap (λ (bytes : List ℕ). Some (before ++ bytes)) is.0)
  judges_by old new (causes.ReadFault file) came = came
  judges_by old new causes.WriteFault came = came
  judges_by old new causes.NoMemory came = tt
  judges_by old new cause came = expect (refuse cause) came

pub judges : (due : List ℕ) (outcome : Answer → Type 0) (good done sound : Type 0) (left : Cause → Type 0) (run : Run) → Came outcome run
    → ((answer : Answer) → outcome answer → Judged due good sound left answer) → (good → Wrote due run → done) → Judges done sound left run
judges due outcome good done sound left run came expect publish = judges_by due outcome good done sound left run.before run.written expect publish run.counts run.counts_after run.cause came

module _ (due : List ℕ) (good sound : Type 0) (left : Cause → Type 0) (answer : Answer) where
  pub judged_done : answer ≡ text due → good → Judged due good sound left answer
  judged_done is h = subst (Judged due good sound left) (sym is) (refl, h)

  pub judged_fault : (fault : Fault) → answer ≡ refuse (causes.AuditFailed fault) → (sound → ⊥) → Judged due good sound left answer
  judged_fault fault is h = subst (Judged due good sound left) (sym is) h

  pub judged_fine : (denominator : ℕ) → answer ≡ refuse (causes.TooFine denominator) → left (causes.TooFine denominator) → Judged due good sound left answer
  judged_fine denominator is h = subst (Judged due good sound left) (sym is) h

  pub judged_over : (sets cells : ℕ) → answer ≡ refuse (causes.OverGuard sets cells) → left (causes.OverGuard sets cells) → Judged due good sound left answer
  judged_over sets cells is h = subst (Judged due good sound left) (sym is) h
