-- What a step leaves: after a refusal before anything is written, after the write that ends it, and as a part of a greater one.
use Rattle.std.proofs.Common.{◌≡◌, ◌⊎◌, List, ℕ, Result, Ok, Err, inr, inl, refl, subst, sym, arith}
use Rattle.std.specs.Prelude.{IsErrAnd}
use Rattle.device_core.specs.Counts.{WriterCounts}
use Rattle.device_core.specs.Told.{AppendedFront}
use Rattle.device_core.specs.declared.faults.SinkFault.{SinkFault}
use Rattle.device_core.specs.declared.faults.SinkFault.TheVariants as faults
use Rattle.device_core.specs.declared.traits.Sink as Sink
use Rattle.alloc_outcomes.specs.declared.cause.Cause.{Cause}
use Rattle.alloc_outcomes.specs.declared.cause.Cause.TheVariants as causes
use Rattle.alloc_outcomes.specs.Answers.{Answer, refuse, text, Gives}
use Rattle.alloc_outcomes.specs.Causes.{sink_cause, IsRefusal}
use Rattle.alloc_outcomes.specs.Checks.{Faulted}
use Rattle.alloc_outcomes.specs.Steps.{Front, Stepped, Steps, Untouched}
use Rattle.alloc_outcomes.proofs.AnswersLemmas.{IsPart, refusal}

module _ {K : Type 0} (sink : Sink.Ghosts K) where
  unmoved : (out : K) → Untouched sink out out
  unmoved out = record { bytes = refl; mark = refl }

  short_step : {T : Type 0} (outcome : Answer → Type 0) (out : K) → Steps sink {T = T} outcome out out (Err causes.NoMemory)
  short_step outcome out = record { step = inl (unmoved out); short = omega arith; faults = refl }

  -- a refusal of the outcome, before anything is written
  pub refused_step : {T : Type 0} {outcome : Answer → Type 0} (out : K) (cause : Cause) → IsRefusal cause → outcome (refuse cause) → Steps sink {T = T} outcome out out (Err cause)
  refused_step out causes.Done kind due = absurd kind
  refused_step out causes.WriteFault kind due = absurd kind
  refused_step out causes.NoMemory kind due = absurd kind
  refused_step out cause kind due = record { step = record { kind = kind; due = due; untouched = unmoved out }; short = refl; faults = refl }

  either : {T A F : Type 0} {cause_of : F → Cause} {relation : Result A F → Type 0} {rest : A → Answer → Type 0} {outcome : Answer → Type 0} (out : K)
      → IsPart (Gives cause_of relation rest) outcome → (cause : Cause) → (cause ≡ causes.NoMemory) ⊎ Faulted cause_of relation cause → Steps sink {T = T} outcome out out (Err cause)
  either {T = T} {outcome = outcome} out part cause (inl short) = subst (λ c. Steps sink {T = T} outcome out out (Err c)) (sym short) (short_step outcome out)
  either out part cause (inr h) = refused_step out cause h.kind (refusal part h.fault h.holds cause h.is)

  -- the exit of a `?` after a part of the step that refused
  pub steps-refused : {T A F : Type 0} {cause_of : F → Cause} {relation : Result A F → Type 0} {rest : A → Answer → Type 0} {outcome : Answer → Type 0} {cause : Cause} (out : K) (r : Result T Cause)
      → IsPart (Gives cause_of relation rest) outcome → (cause ≡ causes.NoMemory) ⊎ Faulted cause_of relation cause → IsErrAnd r (λ it. it ≡ cause) → Steps sink outcome out out r
  steps-refused out (Ok x) part h is = absurd is
  steps-refused {T = T} {outcome = outcome} out (Err it) part h is = subst (λ c. Steps sink {T = T} outcome out out (Err c)) (sym is) (either out part _ h)

  -- the exit of a `?` for want of memory
  pub steps-short : {T : Type 0} {outcome : Answer → Type 0} (out : K) (r : Result T Cause) → IsErrAnd r (λ it. it ≡ causes.NoMemory) → Steps sink outcome out out r
  steps-short out (Ok x) is = absurd is
  steps-short {T = T} {outcome = outcome} out (Err it) is = subst (λ c. Steps sink {T = T} outcome out out (Err c)) (sym is) (short_step outcome out)

  -- the exit of a `?` after a writer of an allowed text
  pub steps-unwritten : {T : Type 0} {outcome : Answer → Type 0} {t : List ℕ} (old new : K) (fault : SinkFault) (r : Result T Cause) → outcome (text t)
      → AppendedFront (sink.written old) (sink.written new) t → WriterCounts {T = T} (sink.faults old) (sink.faults new) (sink.short old) (sink.short new) (Err fault)
      → IsErrAnd r (λ it. it ≡ sink_cause fault) → Steps sink outcome old new r
  steps-unwritten old new fault (Ok x) allowed bytes counts is = absurd is
  steps-unwritten {T = T} {outcome = outcome} {t = t} old new faults.Failed (Err it) allowed bytes counts is =
      subst (λ c. Steps sink {T = T} outcome old new (Err c)) (sym is) (record { step = record { whole = t; allowed = allowed; bytes = bytes }; short = counts.1; faults = counts.0 })
  steps-unwritten {T = T} {outcome = outcome} {t = t} old new faults.NoMemory (Err it) allowed bytes counts is =
      subst (λ c. Steps sink {T = T} outcome old new (Err c)) (sym is) (record { step = inr (record { whole = t; allowed = allowed; bytes = bytes }); short = counts.1; faults = counts.0 })

  front_in : {part outcome : Answer → Type 0} (old new : K) → IsPart part outcome → Front sink part old new → Front sink outcome old new
  front_in old new is f = record { whole = f.whole; allowed = is (text f.whole) f.allowed; bytes = f.bytes }

  stepped_in : {T : Type 0} {part outcome : Answer → Type 0} (old new : K) (r : Result T Cause) → IsPart part outcome → Stepped sink part old new r → Stepped sink outcome old new r
  stepped_in old new (Ok x) is s = record { whole = s.whole; allowed = is (text s.whole) s.allowed; bytes = s.bytes }
  stepped_in old new (Err causes.Done) is s = s
  stepped_in old new (Err causes.WriteFault) is s = front_in old new is s
  stepped_in old new (Err causes.NoMemory) is (inl u) = inl u
  stepped_in old new (Err causes.NoMemory) is (inr f) = inr (front_in old new is f)
  stepped_in old new (Err cause) is s = record { kind = s.kind; due = is (refuse cause) s.due; untouched = s.untouched }

  -- a step whose outcome is a part of a greater one
  pub steps-in : {T : Type 0} {part outcome : Answer → Type 0} {old new : K} {r : Result T Cause} → IsPart part outcome → Steps sink part old new r → Steps sink outcome old new r
  steps-in {old = old} {new = new} {r = r} is s = record { step = stepped_in old new r is s.step; short = s.short; faults = s.faults }
