-- What has to be known of a command's meaning, and what follows for what its files gave.
use Rattle.std.proofs.Common.{◌≤◌, ℕ, List, [], ◌∷◌, length}
use Rattle.alloc_outcomes.specs.Answers.{RefusesAlone, on_none, on_one, on_two, on_three}
use Rattle.alloc_outcomes.specs.Limits.{file_limit}
use Rattle.alloc_outcomes.specs.Meanings.{NoneMeaning, OneMeaning, TwoMeaning, ThreeMeaning, said_on_none, said_on_one, said_on_two, said_on_three}
use Rattle.alloc_outcomes.specs.Sentences.{Run}
use Rattle.alloc_outcomes.proofs.SentencesLemmas.{Came}

-- no file has more bytes than a file may have
abbrev pub AreShort : List (List ℕ) → Type 0
AreShort [] = Unit {0}
AreShort (file ∷ files) = (length file ≤ file_limit) × AreShort files

-- an outcome that refuses has no other answer, and the sentence follows from what comes of short files
pub record IsMeantOfNone (m : NoneMeaning) : Type 0 where
  pub alone : RefusesAlone m.answers
  pub holds : (run : Run) → Came m.answers run → m.says run

pub record IsMeantOfOne (m : OneMeaning) : Type 0 where
  pub alone : (first : List ℕ) → RefusesAlone (m.answers first)
  pub holds : (first : List ℕ) (run : Run) → (length first ≤ file_limit → Came (m.answers first) run) → m.says first run

pub record IsMeantOfTwo (m : TwoMeaning) : Type 0 where
  pub alone : (first second : List ℕ) → RefusesAlone (m.answers first second)
  pub holds : (first second : List ℕ) (run : Run) → (length first ≤ file_limit → length second ≤ file_limit → Came (m.answers first second) run)
      → m.says first second run

pub record IsMeantOfThree (m : ThreeMeaning) : Type 0 where
  pub alone : (first second third : List ℕ) → RefusesAlone (m.answers first second third)
  pub holds : (first second third : List ℕ) (run : Run)
      → (length first ≤ file_limit → length second ≤ file_limit → length third ≤ file_limit → Came (m.answers first second third) run)
      → m.says first second third run

pub none_says : (m : NoneMeaning) → IsMeantOfNone m → (given : List (List ℕ)) (run : Run) → (AreShort given → Came (on_none m.answers given) run) → said_on_none m.says given run
none_says m meant [] run came = meant.holds run (came tt)
none_says m meant (first ∷ more) run came = tt

pub one_says : (m : OneMeaning) → IsMeantOfOne m → (given : List (List ℕ)) (run : Run) → (AreShort given → Came (on_one m.answers given) run) → said_on_one m.says given run
one_says m meant [] run came = tt
one_says m meant (first ∷ []) run came = meant.holds first run (λ h. came (h, tt))
one_says m meant (first ∷ second ∷ more) run came = tt

pub two_says : (m : TwoMeaning) → IsMeantOfTwo m → (given : List (List ℕ)) (run : Run) → (AreShort given → Came (on_two m.answers given) run) → said_on_two m.says given run
two_says m meant [] run came = tt
two_says m meant (first ∷ []) run came = tt
two_says m meant (first ∷ second ∷ []) run came = meant.holds first second run (λ h k. came (h, (k, tt)))
two_says m meant (first ∷ second ∷ third ∷ more) run came = tt

pub three_says : (m : ThreeMeaning) → IsMeantOfThree m → (given : List (List ℕ)) (run : Run) → (AreShort given → Came (on_three m.answers given) run) → said_on_three m.says given run
three_says m meant [] run came = tt
three_says m meant (first ∷ []) run came = tt
three_says m meant (first ∷ second ∷ []) run came = tt
three_says m meant (first ∷ second ∷ third ∷ []) run came = meant.holds first second third run (λ h k j. came (h, (k, (j, tt))))
three_says m meant (first ∷ second ∷ third ∷ fourth ∷ more) run came = tt
