-- From what a whole run does to the headline.
use Rattle.std.proofs.Common.{◌≡◌, ◌⊎◌, ◌+◌, ℕ, List, [], ◌∷◌, ◌∙◌, ap, subst, refl, Option, Result, Ok, None, Some, inl, inr, length, map, take, arith, false}
use Rattle.std.specs.Prelude.{MatchOption, nat_lt}
use Rattle.std.specs.Io.KnownBytes.{append_known}
use Rattle.std.proofs.lemmas.List.{take_all}
use Rattle.device_core.specs.Held.{bytes_at}
use Rattle.device_core.specs.declared.traits.Sink as Sink
use Rattle.alloc_cli.specs.Complete.{loaded}
use Rattle.alloc_cli.specs.Headline.{Headline}
use Rattle.alloc_cli.specs.Outcomes.{too_long_from, within, Answers, Outcome}
use Rattle.alloc_cli.specs.Runs.{Ends, FilesCount, IsUnread, names_of}
use Rattle.alloc_cli.specs.Top.{Ran, Read, Refusal, Unread}
use Rattle.alloc_cli.specs.Words.{command_of, file_count}
use Rattle.alloc_cli.specs.declared.words.Command.{Command}
use Rattle.alloc_cli.proofs.CompleteLemmas.{given_is}
use Rattle.alloc_cli.proofs.OutcomesLemmas.{says}
use Rattle.alloc_outcomes.specs.Answers.{Answer, Then}
use Rattle.alloc_outcomes.specs.Limits.{file_limit}
use Rattle.alloc_outcomes.specs.Sentences.{Counts, Run}
use Rattle.alloc_outcomes.specs.Steps.{OutCount}
use Rattle.alloc_outcomes.specs.declared.cause.Cause.{Cause}
use Rattle.alloc_outcomes.specs.declared.cause.Cause.TheVariants as causes
use Rattle.alloc_outcomes.proofs.MeaningsLemmas.{AreShort}
use Rattle.alloc_outcomes.proofs.SentencesLemmas.{CameBy}

-- none of these files is too long
none_too_long : (number : ℕ) (files : List (List ℕ)) → AreShort files → too_long_from number files ≡ None
none_too_long number [] short = refl
none_too_long number (file ∷ files) short =
    let first : nat_lt file_limit (length file) ≡ false = (let h = short.0 in grind arith) in
    rw first (none_too_long (number + 1) files short.1)

all_within : (files : List (List ℕ)) → AreShort files → within files ≡ Ok files
all_within files short = rw (none_too_long 1 files short) refl

-- what loads give of short files is what the files hold
loads_whole : (told : List (List ℕ × List ℕ)) (names : List (List ℕ)) → AreShort (map (bytes_at told) names) → loaded told names ≡ map (bytes_at told) names
loads_whole told [] short = refl
loads_whole told (name ∷ names) short =
    let first : take (file_limit + 1) (bytes_at told name) ≡ bytes_at told name = (let h = short.0 in take_all (file_limit + 1) (bytes_at told name) (omega (arith, h))) in
    ap (λ bytes. bytes ∷ loaded told names) first ∙ ap (λ files. bytes_at told name ∷ files) (loads_whole told names short.1)

unread_came : (loads : ℕ) (outcome : Answer → Type 0) (before : List ℕ) (written : Option (List ℕ)) (counts counts' : Counts) (cause : Cause)
    → IsUnread loads cause → FilesCount counts.files counts'.files cause → CameBy outcome before written counts counts' cause
unread_came loads outcome before written counts counts' (causes.ReadFault file) unread count = count.rose
unread_came loads outcome before written counts counts' causes.NoMemory unread count = tt
unread_came loads outcome before written counts counts' _ unread count = absurd unread

-- a run, over an output that tells what was written before
module _ {K : Type 0} (sink : Sink.Ghosts K) (old new : K) (counts counts' : Counts) (before : List ℕ) (wrote : sink.written old ≡ Some before) where
  came_from_ends : (outcome : Answer → Type 0) (cause : Cause) → Ends sink outcome old new cause → OutCount counts.out counts'.out cause → CameBy outcome before (sink.written new) counts counts' cause
  came_from_ends outcome causes.Done ends count = (ends.wrote.whole, ends.wrote.allowed, ends.wrote.bytes ∙ ap (λ o. append_known o ends.wrote.whole) wrote)
  came_from_ends outcome causes.WriteFault ends count = count.rose
  came_from_ends outcome causes.NoMemory ends count = tt
  came_from_ends outcome (causes.ReadFault file) ends count = absurd ends.kind
  came_from_ends outcome cause ends count = ends.due

  -- a run of a command on what its files hold
  came_when : (held : Option (List (List ℕ × List ℕ))) (words : List (List ℕ)) (cause : Cause) (found : Option Command) (command : Command) (told : List (List ℕ × List ℕ))
      → MatchOption found (Refusal sink old new cause) (λ it. Unread sink it old new cause ⊎ Read sink held words it old new cause)
      → found ≡ Some command → held ≡ Some told → FilesCount counts.files counts'.files cause → OutCount counts.out counts'.out cause
      → AreShort (map (bytes_at told) (names_of command words)) → CameBy (Answers command (map (bytes_at told) (names_of command words))) before (sink.written new) counts counts' cause
  came_when held words cause None command told ran e h read write short = cc
  came_when held words cause (Some it) command told (inl unread) e h read write short =
      unread_came (file_count it) (Answers command (map (bytes_at told) (names_of command words))) before (sink.written new) counts counts' cause unread.unread read
  came_when held words cause (Some it) command told (inr gave) e h read write short =
      let given : List (List ℕ) = map (bytes_at told) (names_of command words) in
      let same : it ≡ command = cc in
      let files_are : gave.given ≡ given = given_is held told (names_of it words) gave.given h gave.gave ∙ ap (λ c. loaded told (names_of c words)) same ∙ loads_whole told (names_of command words) short in
      let P : Command → Type 0 = λ c. Ends sink (Outcome c gave.given) old new cause in
      let Q : List (List ℕ) → Type 0 = λ g. Ends sink (Outcome command g) old new cause in
      let R : Result (List (List ℕ)) Cause → Type 0 = λ r. Ends sink (Then r (Answers command)) old new cause in
      let ends : Ends sink (Answers command given) old new cause = subst R (all_within given short) (subst Q files_are (subst P same gave.ends)) in
      came_from_ends (Answers command given) cause ends write

pub headline : {K : Type 0} (sink : Sink.Ghosts K) (held : Option (List (List ℕ × List ℕ))) (words : List (List ℕ)) (old new : K) (counts counts' : Counts) (cause : Cause)
    → Ran sink held words old new cause → FilesCount counts.files counts'.files cause → OutCount counts.out counts'.out cause
    → Headline held words (sink.written old) (sink.written new) counts counts' cause
headline sink held words old new counts counts' cause ran read write command told before is h wrote =
    let run : Run = record { before = before; written = sink.written new; counts = counts; counts_after = counts'; cause = cause } in
    says command (map (bytes_at told) (names_of command words)) run (λ short. came_when sink old new counts counts' before wrote held words cause (command_of words) command told ran is h read write short)
