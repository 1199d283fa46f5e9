-- `draw`: the ticket that a seed names, what it answers, and its sentence of the headline.
use Rattle.std.specs.Prelude.{◌≡◌, ◌≤◌, ℕ, ◌+◌, List, ◌++◌, length, slice_get, Option, None, Some, Result, Ok, Err}
use Rattle.device_core.specs.Counts.{Rose}
use Rattle.alloc_draws.specs.Picked.{picked_place, picked_text, ticket_rows}
use Rattle.alloc_outcomes.specs.Answers.{Answer, Gives, IsText}
use Rattle.alloc_outcomes.specs.Causes.{lottery_cause}
use Rattle.alloc_outcomes.specs.Limits.{file_limit}
use Rattle.alloc_outcomes.specs.Meanings.{OneMeaning}
use Rattle.alloc_outcomes.specs.Sentences.{Counts, Run}
use Rattle.alloc_outcomes.specs.declared.cause.Cause.{Cause}
use Rattle.alloc_outcomes.specs.declared.cause.Cause.TheVariants as causes
use Rattle.alloc_readings.specs.Lottery.{LotteryReads}
use Rattle.definitions.specs.Lotteries.{LotteryValue}
use Rattle.definitions.specs.Tickets.{ticket_of}
use Rattle.definitions.specs.Values.{PieceValue}
use Rattle.lottery_file.specs.Lotteries.{TextReadsAs}
use Rattle.seed_draw.specs.Words.{seed_words}
use Rattle.table_text.specs.Rows.{rows_text}

-- a seed names this ticket out of so many, or none
abbrev pub NamesOrNot : List ℕ → ℕ → Result ℕ (Unit {0}) → Type 0
NamesOrNot seed denominator (Ok ticket) =
    ticket_of (seed_words seed) denominator ≡ Some ticket
NamesOrNot seed denominator (Err _) = ticket_of (seed_words seed) denominator ≡ None

-- the cause of a seed that names none
abbrev pub no_ticket_cause : Unit {0} → Cause
no_ticket_cause _ = causes.NoTicket

-- `draw LOTTERY SEED`: what the text reads as decides, and then whether the seed names a ticket
abbrev pub DrawAnswers : List ℕ → List ℕ → Answer → Type 0
DrawAnswers seed bytes =
    Gives lottery_cause (LotteryReads bytes) (λ l.
    Gives no_ticket_cause (NamesOrNot seed l.shares.denominator) (λ ticket.
    IsText (picked_text l ticket)))

-- ---- the sentence of the headline

-- what was appended is the text of the ticket that the seed names, and of that ticket's piece of the
-- lottery with its number
pub record Drawn (seed : List ℕ) (l : LotteryValue) (before : List ℕ)
    (written : Option (List ℕ)) : Type 0 where
  pub ticket : ℕ
  pub piece : PieceValue
  pub named : ticket_of (seed_words seed) l.shares.denominator ≡ Some ticket
  pub given : slice_get l.pieces (picked_place l ticket) ≡ Some piece
  pub wrote : written
      ≡ Some (before ++ rows_text (ticket_rows l ticket (picked_place l ticket + 1) piece))

-- Done as it is said; or NoTicket where there is none, or a load or a write failed, or memory was
-- refused
abbrev pub DrawsBy : (done no_ticket : Type 0) → (old new : Counts) → Cause → Type 0
DrawsBy done no_ticket old new causes.Done = done
DrawsBy done no_ticket old new causes.NoTicket = no_ticket
DrawsBy done no_ticket old new (causes.ReadFault file) = Rose old.files new.files
DrawsBy done no_ticket old new causes.WriteFault = Rose old.out new.out
DrawsBy done no_ticket old new causes.NoMemory = Unit {0}
DrawsBy done no_ticket old new _ = ⊥

-- over a short text that reads as a lottery: the piece of the seed's ticket is drawn, or the seed
-- names no ticket
abbrev pub DrawSays : List ℕ → List ℕ → Run → Type 0
DrawSays seed bytes run = (l : LotteryValue) → length bytes ≤ file_limit → TextReadsAs bytes l
    → DrawsBy (Drawn seed l run.before run.written)
    (ticket_of (seed_words seed) l.shares.denominator ≡ None)
    run.counts run.counts_after run.cause

-- what `draw` means
abbrev pub draw_meaning : List ℕ → OneMeaning
draw_meaning seed = record { answers = DrawAnswers seed; says = DrawSays seed }
