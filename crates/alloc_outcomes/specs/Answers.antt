-- What a command may answer, and how the answers of its steps make its own.
use Rattle.std.specs.Prelude.{◌≡◌, List, [], ◌∷◌, ℕ, Result, Ok, Err}
use Rattle.alloc_outcomes.specs.declared.cause.Cause.{Cause}

-- a refusal, or a text that may be written
pub data Answer : Type 0 where
  refuse : Cause → Answer
  text : List ℕ → Answer

-- an outcome says which answers are right; one that refuses has no other answer
abbrev pub RefusesAlone : (Answer → Type 0) → Type 0
RefusesAlone outcome = (due : Cause) (answer : Answer)
    → outcome (refuse due) → outcome answer → answer ≡ refuse due

-- this text may be written
abbrev pub IsText : List ℕ → Answer → Type 0
IsText t answer = answer ≡ text t

-- any text with this property may be written, and nothing is refused
abbrev pub HasText : (List ℕ → Type 0) → Answer → Type 0
HasText property (text t) = property t
HasText property (refuse cause) = ⊥

-- a step that may refuse, and then the rest of the command
abbrev pub Then : {A : Type 0} → Result A Cause → (A → Answer → Type 0) → Answer → Type 0
Then (Ok x) rest answer = rest x answer
Then (Err cause) rest answer = answer ≡ refuse cause

-- the same of a step with a fault of its own
abbrev pub Follows : {A F : Type 0}
    → (F → Cause) → (A → Answer → Type 0) → Result A F → Answer → Type 0
Follows cause_of rest (Ok x) answer = rest x answer
Follows cause_of rest (Err fault) answer = answer ≡ refuse (cause_of fault)

-- the same of a step that a relation describes
pub record Gives {A F : Type 0} (cause_of : F → Cause) (relation : Result A F → Type 0)
    (rest : A → Answer → Type 0) (answer : Answer) : Type 0 where
  pub found : Result A F
  pub holds : relation found
  pub follows : Follows cause_of rest found answer

-- an outcome that asks no file
abbrev pub on_none : (Answer → Type 0) → List (List ℕ) → Answer → Type 0
on_none outcome [] answer = outcome answer
on_none outcome _ answer = ⊥

-- an outcome by what one file gave
abbrev pub on_one : (List ℕ → Answer → Type 0) → List (List ℕ) → Answer → Type 0
on_one outcome (first ∷ []) answer = outcome first answer
on_one outcome _ answer = ⊥

-- the same of two files
abbrev pub on_two : (List ℕ → List ℕ → Answer → Type 0) → List (List ℕ) → Answer → Type 0
on_two outcome (first ∷ second ∷ []) answer = outcome first second answer
on_two outcome _ answer = ⊥

-- the same of three files
abbrev pub on_three : (List ℕ → List ℕ → List ℕ → Answer → Type 0) → List (List ℕ) → Answer → Type 0
on_three outcome (first ∷ second ∷ third ∷ []) answer = outcome first second third answer
on_three outcome _ answer = ⊥
