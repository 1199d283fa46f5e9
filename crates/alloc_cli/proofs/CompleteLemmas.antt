-- What follows for a whole run from an outcome that refuses alone: completeness, and when the cause is Usage.
use Rattle.std.proofs.Common.{◌≡◌, ◌⊎◌, ℕ, List, refl, ◌∙◌, ap, subst, Option, None, Some, inl, inr}
use Rattle.std.specs.Prelude.{MatchOption, ◌↔◌}
use Rattle.device_core.specs.Counts.{Rose}
use Rattle.device_core.specs.declared.traits.Sink as Sink
use Rattle.alloc_cli.specs.Complete.{loaded, IsDue, Completes}
use Rattle.alloc_cli.specs.Outcomes.{Outcome}
use Rattle.alloc_cli.specs.Runs.{Ends, FilesCount, IsGiven, IsUnread, names_of}
use Rattle.alloc_cli.specs.Top.{Ran, Read, Refusal, Unread}
use Rattle.alloc_cli.specs.Words.{command_of, file_count}
use Rattle.alloc_cli.specs.declared.words.Command.{Command}
use Rattle.alloc_cli.proofs.OutcomesLemmas.{outcome_alone}
use Rattle.alloc_outcomes.specs.Answers.{Answer, refuse, text, RefusesAlone}
use Rattle.alloc_outcomes.specs.Sentences.{Counts}
use Rattle.alloc_outcomes.specs.Steps.{OutCount}
use Rattle.alloc_outcomes.specs.declared.cause.Cause.{Cause}
use Rattle.alloc_outcomes.specs.declared.cause.Cause.TheVariants as causes

module _ (command : Command) (given : List (List ℕ)) where
  due_refused : (cause : Cause) → Outcome command given (refuse cause) → IsDue command given cause
  due_refused cause h =
      let alone : RefusesAlone (Outcome command given) = outcome_alone command given in
      record {
        refused = λ due k. (let e = alone due (refuse cause) k h in cc);
        done = λ t k. (let e = alone cause (text t) h k in cc);
        otherwise = λ none. absurd (none cause h);
      }

  due_done : (t : List ℕ) → Outcome command given (text t) → IsDue command given causes.Done
  due_done t h = record {
    refused = λ due k. (let e = outcome_alone command given due (text t) k h in cc);
    done = λ s k. refl;
    otherwise = λ none. refl;
  }

-- what an end of a run shows, where no count rose and memory was there
due_from_end : {K : Type 0} (sink : Sink.Ghosts K) (command : Command) (given : List (List ℕ)) (old new : K) (cause : Cause) (out out' : ℕ)
    → Ends sink (Outcome command given) old new cause → OutCount out out' cause → (Rose out out' → ⊥) → (cause ≡ causes.NoMemory → ⊥) → IsDue command given cause
due_from_end sink command given old new causes.Done out out' ends count calm memory = due_done command given ends.wrote.whole ends.wrote.allowed
due_from_end sink command given old new causes.WriteFault out out' ends count calm memory = absurd (calm count.rose)
due_from_end sink command given old new causes.NoMemory out out' ends count calm memory = absurd (memory refl)
due_from_end sink command given old new cause out out' ends count calm memory = due_refused command given cause ends.due

unread_none : (files : ℕ) (cause : Cause) (before now : ℕ) → IsUnread files cause → FilesCount before now cause → (Rose before now → ⊥) → (cause ≡ causes.NoMemory → ⊥) → ⊥
unread_none files (causes.ReadFault file) before now unread count calm memory = calm count.rose
unread_none files causes.NoMemory before now unread count calm memory = memory refl
unread_none files _ before now unread count calm memory = unread

pub given_is : (held : Option (List (List ℕ × List ℕ))) (files : List (List ℕ × List ℕ)) (names given : List (List ℕ)) → held ≡ Some files → IsGiven held names given → given ≡ loaded files names
given_is None files names given e gave = cc
given_is (Some own) files names given e gave = let same : own ≡ files = cc in gave.told ∙ ap (λ f. loaded f names) same

module _ {K : Type 0} (sink : Sink.Ghosts K) (held : Option (List (List ℕ × List ℕ))) (words : List (List ℕ)) (old new : K) (cause : Cause) where
  completes_when : (before now : Counts) (found : Option Command)
      → MatchOption found (Refusal sink old new cause) (λ it. Unread sink it old new cause ⊎ Read sink held words it old new cause)
      → FilesCount before.files now.files cause → OutCount before.out now.out cause → (command : Command) (files : List (List ℕ × List ℕ)) → found ≡ Some command → held ≡ Some files
      → (Rose before.files now.files → ⊥) → (Rose before.out now.out → ⊥) → (cause ≡ causes.NoMemory → ⊥) → IsDue command (loaded files (names_of command words)) cause
  completes_when before now None ran read write command files e told calm_files calm_out memory = cc
  completes_when before now (Some it) (inl unread) read write command files e told calm_files calm_out memory = absurd (unread_none (file_count it) cause before.files now.files unread.unread read calm_files memory)
  completes_when before now (Some it) (inr gave) read write command files e told calm_files calm_out memory =
      let same : it ≡ command = cc in
      let given : gave.given ≡ loaded files (names_of command words) = given_is held files (names_of it words) gave.given told gave.gave ∙ ap (λ c. loaded files (names_of c words)) same in
      rw (← given, ← same) (due_from_end sink it gave.given old new cause before.out now.out gave.ends write calm_out memory)

  pub completes : (before now : Counts) → Ran sink held words old new cause → FilesCount before.files now.files cause → OutCount before.out now.out cause → Completes held words before now cause
  completes before now ran read write = completes_when before now (command_of words) ran read write

  not_usage : (outcome : Answer → Type 0) → cause ≡ causes.Usage → Ends sink outcome old new cause → ⊥
  not_usage outcome e ends = let P : Cause → Type 0 = λ x. Ends sink outcome old new x in let here : Ends sink outcome old new causes.Usage = subst P e ends in here.kind

  usage_when : (found : Option Command) → MatchOption found (Refusal sink old new cause) (λ it. Unread sink it old new cause ⊎ Read sink held words it old new cause) → (cause ≡ causes.Usage) ↔ (found ≡ None)
  usage_when None ran = ((λ e. refl), (λ e. ran.usage))
  usage_when (Some it) (inl unread) = ((λ e. absurd (rw e at unread.unread)), (λ e. cc))
  usage_when (Some it) (inr gave) = ((λ e. absurd (not_usage _ e gave.ends)), (λ e. cc))

  pub usage_exactly : Ran sink held words old new cause → (cause ≡ causes.Usage) ↔ (command_of words ≡ None)
  usage_exactly ran = usage_when (command_of words) ran
