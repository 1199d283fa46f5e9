-- `pick`: whether there is such a ticket, and what it answers.
use Rattle.std.specs.Prelude.{ℕ, ◌<◌, ◌≤◌, List, Result, Ok, Err}
use Rattle.alloc_draws.specs.Picked.{picked_text}
use Rattle.alloc_outcomes.specs.Answers.{Answer, Gives, IsText}
use Rattle.alloc_outcomes.specs.Causes.{lottery_cause}
use Rattle.alloc_outcomes.specs.Meanings.{OneMeaning}
use Rattle.alloc_outcomes.specs.declared.cause.Cause.{Cause}
use Rattle.alloc_outcomes.specs.declared.cause.Cause.TheVariants as causes
use Rattle.alloc_readings.specs.Lottery.{LotteryReads}

-- a ticket is below the denominator, or not
abbrev pub WithinOrNot : ℕ → ℕ → Result (Unit {0}) (Unit {0}) → Type 0
WithinOrNot ticket denominator (Ok _) = ticket < denominator
WithinOrNot ticket denominator (Err _) = denominator ≤ ticket

-- the cause of a ticket that isn't
abbrev pub ticket_cause : ℕ → ℕ → Unit {0} → Cause
ticket_cause ticket denominator _ = causes.TicketOutOfRange ticket denominator

-- `pick LOTTERY TICKET`: what the text reads as decides, and then the ticket
abbrev pub PickAnswers : ℕ → List ℕ → Answer → Type 0
PickAnswers ticket bytes =
    Gives lottery_cause (LotteryReads bytes) (λ l.
    Gives (ticket_cause ticket l.shares.denominator) (WithinOrNot ticket l.shares.denominator) (λ _.
    IsText (picked_text l ticket)))

-- what `pick` means; it has no sentence of the headline
abbrev pub pick_meaning : ℕ → OneMeaning
pick_meaning ticket = record { answers = PickAnswers ticket; says = λ lottery run. Unit {0} }
