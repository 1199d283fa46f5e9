-- What a command means: what it may answer, given what its files gave, and its sentence of the headline,
-- which says of a run over files that are told what can be relied on.
use Rattle.std.specs.Prelude.{ℕ, List, [], ◌∷◌}
use Rattle.alloc_outcomes.specs.Answers.{Answer}
use Rattle.alloc_outcomes.specs.Sentences.{Run}

-- of a command on no file
pub record NoneMeaning : Type 1 where
  pub answers : Answer → Type 0
  pub says : Run → Type 0

-- of a command on one file
pub record OneMeaning : Type 1 where
  pub answers : List ℕ → Answer → Type 0
  pub says : List ℕ → Run → Type 0

-- of a command on two files
pub record TwoMeaning : Type 1 where
  pub answers : List ℕ → List ℕ → Answer → Type 0
  pub says : List ℕ → List ℕ → Run → Type 0

-- of a command on three files
pub record ThreeMeaning : Type 1 where
  pub answers : List ℕ → List ℕ → List ℕ → Answer → Type 0
  pub says : List ℕ → List ℕ → List ℕ → Run → Type 0

-- what is said of a run on no file, on one, on two, and on three
abbrev pub said_on_none : (Run → Type 0) → List (List ℕ) → Run → Type 0
said_on_none says [] run = says run
said_on_none says _ run = Unit {0}

abbrev pub said_on_one : (List ℕ → Run → Type 0) → List (List ℕ) → Run → Type 0
said_on_one says (first ∷ []) run = says first run
said_on_one says _ run = Unit {0}

abbrev pub said_on_two : (List ℕ → List ℕ → Run → Type 0) → List (List ℕ) → Run → Type 0
said_on_two says (first ∷ second ∷ []) run = says first second run
said_on_two says _ run = Unit {0}

abbrev pub said_on_three : (List ℕ → List ℕ → List ℕ → Run → Type 0) → List (List ℕ) → Run
    → Type 0
said_on_three says (first ∷ second ∷ third ∷ []) run = says first second third run
said_on_three says _ run = Unit {0}
