-- `pact-draw`: what it answers, and its sentence of the headline.
use Rattle.std.specs.Prelude.{◌≡◌, ◌≤◌, ℕ, List, [], ◌∷◌, ◌++◌, codes, length, Option, None, Result, Ok, Err}
use Rattle.alloc_draws.specs.Draw.{no_ticket_cause, Drawn, DrawsBy, NamesOrNot}
use Rattle.alloc_draws.specs.Picked.{picked_text}
use Rattle.alloc_outcomes.specs.Answers.{Answer, Gives, IsText}
use Rattle.alloc_outcomes.specs.Causes.{lottery_cause, pact_cause}
use Rattle.alloc_outcomes.specs.Limits.{file_limit}
use Rattle.alloc_outcomes.specs.Meanings.{TwoMeaning}
use Rattle.alloc_outcomes.specs.Sentences.{Run}
use Rattle.alloc_readings.specs.Lottery.{LotteryReads}
use Rattle.definitions.specs.Lotteries.{LotteryValue}
use Rattle.definitions.specs.Texts.{Row}
use Rattle.definitions.specs.Tickets.{ticket_of}
use Rattle.hex.specs.Hex.{encode_lower}
use Rattle.lottery_file.specs.Lotteries.{TextReadsAs}
use Rattle.seed_draw.specs.Words.{seed_words}
use Rattle.seed_pact.specs.Commitments.{joint_seed_of}
use Rattle.seed_pact.specs.Pacts.{IsKeptBy, PactValue, TextHasFault}
use Rattle.seed_pact.specs.Pacts as pacts
use Rattle.seed_pact.specs.declared.faults.PactFault.{PactFault}
use Rattle.table_text.specs.Rows.{rows_text, IsTextOf}

-- a text reads as a pact, or it has this first fault
abbrev pub PactReads : List ℕ → Result PactValue PactFault → Type 0
PactReads bytes (Ok p) = pacts.TextReadsAs bytes p
PactReads bytes (Err fault) = TextHasFault bytes fault.record_no fault.kind

-- the seed of a pact
abbrev pub seed_of : PactValue → List ℕ
seed_of p = joint_seed_of p.contributions

-- the record of a seed
abbrev pub seed_text : List ℕ → List ℕ
seed_text seed = rows_text ((codes "seed" ∷ encode_lower seed ∷ []) ∷ [])

-- `pact-draw LOTTERY PACT`: what the texts read as decides, the lottery before the pact, and then
-- whether the seed names a ticket
abbrev pub PactDrawAnswers : (lottery pact : List ℕ) → Answer → Type 0
PactDrawAnswers lottery pact =
    Gives lottery_cause (LotteryReads lottery) (λ l.
    Gives pact_cause (PactReads pact) (λ p.
    Gives no_ticket_cause (NamesOrNot (seed_of p) l.shares.denominator) (λ ticket.
    IsText (seed_text (seed_of p) ++ picked_text l ticket))))

-- ---- the sentence of the headline

-- each commitment of the text is that of the contribution that is revealed under its name
abbrev pub HasKept : List ℕ → PactValue → Type 0
HasKept pact p = (rows : List Row) × IsTextOf pact rows × IsKeptBy rows p

-- the commitments are kept; and what was appended is the seed, and then the text of the ticket that
-- it names, and of that ticket's piece of the lottery with its number
pub record PactDrawn (pact : List ℕ) (l : LotteryValue) (p : PactValue) (before : List ℕ)
    (written : Option (List ℕ)) : Type 0 where
  pub kept : HasKept pact p
  pub drawn : Drawn (seed_of p) l (before ++ seed_text (seed_of p)) written

-- over short texts that read as a lottery and as a pact: the piece of the ticket of the pact's seed is
-- drawn, or the seed names no ticket
abbrev pub PactDrawSays : (lottery pact : List ℕ) → Run → Type 0
PactDrawSays lottery pact run = (l : LotteryValue) (p : PactValue) → length lottery ≤ file_limit → length pact ≤ file_limit
    → TextReadsAs lottery l → pacts.TextReadsAs pact p
    → DrawsBy (PactDrawn pact l p run.before run.written)
    (ticket_of (seed_words (seed_of p)) l.shares.denominator ≡ None)
    run.counts run.counts_after run.cause

-- what `pact-draw` means
abbrev pub pact_draw_meaning : TwoMeaning
pact_draw_meaning = record { answers = PactDrawAnswers; says = PactDrawSays }
