-- From the outcome of a command, and what came of its run, to its sentence of the headline.
use Rattle.std.proofs.Common.{◌≡◌, ℕ, List, ◌++◌, Option, Some, subst, sym}
use Rattle.device_core.specs.Counts.{Rose}
use Rattle.alloc_outcomes.specs.declared.cause.Cause.{Cause}
use Rattle.alloc_outcomes.specs.declared.cause.Cause.TheVariants as causes
use Rattle.alloc_outcomes.specs.Answers.{Answer, refuse, text, HasText}
use Rattle.alloc_outcomes.specs.Sentences.{Counts, KeepsBy, Keeps, Run}

-- the answers that a sentence leaves: such a text, or such a denominator
abbrev pub Expected : (List ℕ → Type 0) → (ℕ → Type 0) → Answer → Type 0
Expected good too_fine (text t) = good t
Expected good too_fine (refuse (causes.TooFine denominator)) = too_fine denominator
Expected good too_fine (refuse _) = ⊥

pub expected_text : (good : List ℕ → Type 0) (too_fine : ℕ → Type 0) (answer : Answer) → HasText good answer → Expected good too_fine answer
expected_text good too_fine (text t) h = h
expected_text good too_fine (refuse cause) h = absurd h

pub expected_refusal : (good : List ℕ → Type 0) (too_fine : ℕ → Type 0) (denominator : ℕ) (answer : Answer) → answer ≡ refuse (causes.TooFine denominator) → too_fine denominator → Expected good too_fine answer
expected_refusal good too_fine denominator answer is h = subst (Expected good too_fine) (sym is) h

-- what came of a run: a text of the outcome was appended, or a refusal of the outcome came; or a load or a write failed, or
-- memory was refused
abbrev pub CameBy : (Answer → Type 0) → List ℕ → Option (List ℕ) → (old new : Counts) → Cause → Type 0
CameBy outcome before written old new causes.Done = (t : List ℕ) × outcome (text t) × (written ≡ Some (before ++ t))
CameBy outcome before written old new (causes.ReadFault file) = Rose old.files new.files
CameBy outcome before written old new causes.WriteFault = Rose old.out new.out
CameBy outcome before written old new causes.NoMemory = Unit {0}
CameBy outcome before written old new cause = outcome (refuse cause)

abbrev pub Came : (Answer → Type 0) → Run → Type 0
Came outcome run = CameBy outcome run.before run.written run.counts run.counts_after run.cause

-- so a run whose answers are such texts, or such a denominator, keeps what is said of it
module _ (outcome : Answer → Type 0) (good : List ℕ → Type 0) (done : Type 0) (too_fine : ℕ → Type 0) (before : List ℕ) (written : Option (List ℕ)) (expect : (answer : Answer) → outcome answer → Expected good too_fine answer)
    (publish : (t : List ℕ) → good t → written ≡ Some (before ++ t) → done) where
  keeps_by : (old new : Counts) (cause : Cause) → CameBy outcome before written old new cause → KeepsBy done too_fine old new cause
  keeps_by old new causes.Done came = publish came.0 (expect (text came.0) came.1) came.2
  keeps_by old new (causes.ReadFault file) came = came
  keeps_by old new causes.WriteFault came = came
  keeps_by old new causes.NoMemory came = tt
  keeps_by old new cause came = expect (refuse cause) came

pub keeps : (outcome : Answer → Type 0) (good : List ℕ → Type 0) (done : Type 0) (too_fine : ℕ → Type 0) (run : Run) → Came outcome run → ((answer : Answer) → outcome answer → Expected good too_fine answer)
    → ((t : List ℕ) → good t → run.written ≡ Some (run.before ++ t) → done) → Keeps done too_fine run
keeps outcome good done too_fine run came expect publish = keeps_by outcome good done too_fine run.before run.written expect publish run.counts run.counts_after run.cause came
