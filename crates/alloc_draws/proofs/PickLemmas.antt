-- `pick`: what has to be known of its meaning.
use Rattle.std.proofs.Common.{◌≡◌, ℕ, List, refl, arith, Result, Ok, Err}
use Rattle.alloc_draws.specs.Pick.{pick_meaning, PickAnswers, WithinOrNot}
use Rattle.alloc_draws.specs.Picked.{picked_text}
use Rattle.alloc_outcomes.specs.Answers.{RefusesAlone}
use Rattle.alloc_outcomes.proofs.AnswersLemmas.{gives_alone, text_alone}
use Rattle.alloc_outcomes.proofs.MeaningsLemmas.{IsMeantOfOne}
use Rattle.alloc_readings.proofs.LotteryLemmas.{one_lottery}

-- a ticket is below the denominator or not
one_within : (ticket denominator : ℕ) (r s : Result (Unit {0}) (Unit {0})) → WithinOrNot ticket denominator r → WithinOrNot ticket denominator s → r ≡ s
one_within ticket denominator (Ok _) (Ok _) h k = refl
one_within ticket denominator (Ok _) (Err _) h k = absurd (omega (arith, h, k))
one_within ticket denominator (Err _) (Ok _) h k = absurd (omega (arith, h, k))
one_within ticket denominator (Err _) (Err _) h k = refl

pick_alone : (ticket : ℕ) (bytes : List ℕ) → RefusesAlone (PickAnswers ticket bytes)
pick_alone ticket bytes =
    gives_alone (one_lottery bytes) (λ l read.
    gives_alone (one_within ticket l.shares.denominator) (λ _ within.
    text_alone (picked_text l ticket)))

pub pick_meant : (ticket : ℕ) → IsMeantOfOne (pick_meaning ticket)
pick_meant ticket = record { alone = pick_alone ticket; holds = λ lottery run came. tt }
