-- `pact-draw`: what has to be known of its meaning.
use Rattle.std.proofs.Common.{◌≡◌, ◌∙◌, ℕ, List, ◌++◌, ap, append_assoc, refl, subst, sym, Option, None, Some, Result, Ok, Err}
use Rattle.alloc_draws.specs.Draw.{no_ticket_cause, DrawsBy, NamesOrNot}
use Rattle.alloc_draws.specs.PactDraw.{pact_draw_meaning, seed_of, seed_text, HasKept, PactDrawn, PactDrawAnswers, PactReads}
use Rattle.alloc_draws.specs.Picked.{picked_text}
use Rattle.alloc_draws.proofs.DrawLemmas.{drawn, lawful_read, one_named}
use Rattle.alloc_outcomes.specs.Answers.{Answer, text, refuse, Follows, Gives, IsText, RefusesAlone}
use Rattle.alloc_outcomes.specs.Sentences.{Counts}
use Rattle.alloc_outcomes.specs.declared.cause.Cause.{Cause}
use Rattle.alloc_outcomes.specs.declared.cause.Cause.TheVariants as causes
use Rattle.alloc_outcomes.proofs.AnswersLemmas.{gives_alone, passed, text_alone}
use Rattle.alloc_outcomes.proofs.MeaningsLemmas.{IsMeantOfTwo}
use Rattle.alloc_outcomes.proofs.SentencesLemmas.{CameBy}
use Rattle.alloc_readings.proofs.LotteryLemmas.{one_lottery}
use Rattle.definitions.specs.Lotteries.{LotteryValue}
use Rattle.definitions.specs.Tickets.{ticket_of}
use Rattle.lottery_file.specs.Lotteries.{IsLawfulLottery, TextReadsAs}
use Rattle.seed_draw.specs.Words.{seed_words}
use Rattle.seed_pact.proofs.Kept.{kept}
use Rattle.seed_pact.proofs.ReadOnce.{one-value, one-fault, not-both}
use Rattle.seed_pact.specs.Pacts.{PactValue}
use Rattle.seed_pact.specs.Pacts as pacts
use Rattle.seed_pact.specs.declared.faults.PactFault.{PactFault}
use Rattle.seed_pact.specs.declared.faults.PactKind.{PactKind}

-- ---- one answer

abbrev fault_at : ℕ → PactKind → PactFault
fault_at number kind = record { record_no = number; kind = kind }

same_fault : (f g : PactFault) → (f.record_no ≡ g.record_no) × (f.kind ≡ g.kind) → f ≡ g
same_fault f g same = ap (λ n. fault_at n f.kind) same.0 ∙ ap (fault_at g.record_no) same.1

-- a text is one pact, or it has one first fault
one_pact : (bytes : List ℕ) (r s : Result PactValue PactFault) → PactReads bytes r → PactReads bytes s → r ≡ s
one_pact bytes (Ok p) (Ok q) h k = ap Ok (one-value bytes p q h k)
one_pact bytes (Ok p) (Err f) h k = absurd (not-both bytes p f.record_no f.kind h k)
one_pact bytes (Err f) (Ok p) h k = absurd (not-both bytes p f.record_no f.kind k h)
one_pact bytes (Err f) (Err g) h k = ap Err (same_fault f g (one-fault bytes f.record_no g.record_no f.kind g.kind h k))

pact_draw_alone : (lottery pact : List ℕ) → RefusesAlone (PactDrawAnswers lottery pact)
pact_draw_alone lottery pact =
    gives_alone (one_lottery lottery) (λ l read.
    gives_alone (one_pact pact) (λ p held.
    gives_alone (one_named (seed_of p) l.shares.denominator) (λ ticket named.
    text_alone (seed_text (seed_of p) ++ picked_text l ticket))))

-- ---- the sentence of the headline

-- what is left of a run's answers once the texts are read
module _ (pact : List ℕ) (p : PactValue) (l : LotteryValue) (before : List ℕ) (written : Option (List ℕ)) (lawful : IsLawfulLottery l) (held : pacts.TextReadsAs pact p) where
  abbrev NoTicket : Type 0
  NoTicket = ticket_of (seed_words (seed_of p)) l.shares.denominator ≡ None

  abbrev text_of : ℕ → List ℕ
  text_of ticket = seed_text (seed_of p) ++ picked_text l ticket

  abbrev AnswersOf : Answer → Type 0
  AnswersOf = Gives no_ticket_cause (NamesOrNot (seed_of p) l.shares.denominator) (λ ticket. IsText (text_of ticket))

  kept_pact : HasKept pact p
  kept_pact = (held.0, held.1, kept held.0 p held.2)

  text_draws : (t : List ℕ) (r : Result ℕ (Unit {0})) → NamesOrNot (seed_of p) l.shares.denominator r → Follows no_ticket_cause (λ ticket. IsText (text_of ticket)) r (text t) → written ≡ Some (before ++ t)
      → PactDrawn pact l p before written
  text_draws t (Ok ticket) named is did =
      let same : t ≡ text_of ticket = cc in
      let parts : written ≡ Some ((before ++ seed_text (seed_of p)) ++ picked_text l ticket) =
      did ∙ ap (λ (bytes : List ℕ). Some (before ++ bytes)) same ∙ ap (λ (bytes : List ℕ). Some bytes) (sym (append_assoc before (seed_text (seed_of p)) (picked_text l ticket))) in
      record { kept = kept_pact; drawn = drawn (seed_of p) l ticket (before ++ seed_text (seed_of p)) (picked_text l ticket) written lawful named refl parts }
  text_draws t (Err _) named is did = cc

  refusal_draws : (old new : Counts) (cause : Cause) (r : Result ℕ (Unit {0})) → NamesOrNot (seed_of p) l.shares.denominator r → Follows no_ticket_cause (λ ticket. IsText (text_of ticket)) r (refuse cause)
      → DrawsBy (PactDrawn pact l p before written) NoTicket old new cause
  refusal_draws old new cause (Ok ticket) named is = cc
  refusal_draws old new cause (Err _) named is =
      let same : causes.NoTicket ≡ cause = cc in
      subst (DrawsBy (PactDrawn pact l p before written) NoTicket old new) same named

  answers_left : (lottery : List ℕ) (answer : Answer) → TextReadsAs lottery l → PactDrawAnswers lottery pact answer → AnswersOf answer
  answers_left lottery answer read h = passed (one_pact pact) p held answer (passed (one_lottery lottery) l read answer h)

  draws_by : (lottery : List ℕ) (old new : Counts) (cause : Cause) → TextReadsAs lottery l → CameBy (PactDrawAnswers lottery pact) before written old new cause
      → DrawsBy (PactDrawn pact l p before written) NoTicket old new cause
  draws_by lottery old new causes.Done read came =
      let rest : AnswersOf (text came.0) = answers_left lottery (text came.0) read came.1 in
      text_draws came.0 rest.found rest.holds rest.follows came.2
  draws_by lottery old new (causes.ReadFault file) read came = came
  draws_by lottery old new causes.WriteFault read came = came
  draws_by lottery old new causes.NoMemory read came = tt
  draws_by lottery old new cause read came =
      let rest : AnswersOf (refuse cause) = answers_left lottery (refuse cause) read came in
      refusal_draws old new cause rest.found rest.holds rest.follows

-- ---- its meaning

pub pact_draw_meant : IsMeantOfTwo pact_draw_meaning
pact_draw_meant = record {
  alone = pact_draw_alone;
  holds = λ lottery pact run came l p short also read held.
      draws_by pact p l run.before run.written (lawful_read lottery l read) held lottery run.counts run.counts_after run.cause read (came short also);
}
