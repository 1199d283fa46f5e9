-- `pact-commit`: what it answers.
use Rattle.std.specs.Prelude.{ℕ, List, [], ◌∷◌, codes}
use Rattle.alloc_outcomes.specs.Answers.{Answer, IsText}
use Rattle.alloc_outcomes.specs.Meanings.{NoneMeaning}
use Rattle.hex.specs.Hex.{encode_lower}
use Rattle.seed_pact.specs.Commitments.{commitment_of}
use Rattle.table_text.specs.Rows.{rows_text}

-- the record of the commitment of a name and a contribution
abbrev pub commit_text : (name contribution : List ℕ) → List ℕ
commit_text name contribution =
    rows_text ((codes "commit" ∷ name ∷ encode_lower (commitment_of name contribution) ∷ []) ∷ [])

-- `pact-commit NAME CONTRIBUTION`: nothing is refused
abbrev pub PactCommitAnswers : (name contribution : List ℕ) → Answer → Type 0
PactCommitAnswers name contribution = IsText (commit_text name contribution)

-- what `pact-commit` means; it has no sentence of the headline
abbrev pub pact_commit_meaning : (name contribution : List ℕ) → NoneMeaning
pact_commit_meaning name contribution = record {
  answers = PactCommitAnswers name contribution;
  says = λ run. Unit {0};
}
