-- `pact-commit`: what has to be known of its meaning.
use Rattle.std.proofs.Common.{ℕ, List}
use Rattle.alloc_draws.specs.PactCommit.{commit_text, pact_commit_meaning}
use Rattle.alloc_outcomes.proofs.AnswersLemmas.{text_alone}
use Rattle.alloc_outcomes.proofs.MeaningsLemmas.{IsMeantOfNone}

pub pact_commit_meant : (name contribution : List ℕ) → IsMeantOfNone (pact_commit_meaning name contribution)
pact_commit_meant name contribution = record { alone = text_alone (commit_text name contribution); holds = λ run came. tt }
