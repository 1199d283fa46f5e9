-- `sets`: the text of the stated sets, and that it has one answer.
use Rattle.std.proofs.Common.{◌≡◌, ◌<◌, ℕ, ◌+◌, List, [], ◌∷◌, ◌++◌, length, sym, ◌∙◌, ap, arith}
use Rattle.std.specs.Prelude.{codes, decimal}
use Rattle.definitions.specs.Trees.{TreesValue}
use Rattle.definitions.specs.Sets.{FamilyValue, SetValue}
use Rattle.definitions.specs.Texts.{Row}
use Rattle.definitions.specs.Values.{ProblemValue}
use Rattle.table_text.specs.Rows.{rows_text}
use Rattle.table_text.proofs.TextFacts.{rows_text-append}
use Rattle.alloc_outcomes.specs.Answers.{RefusesAlone, IsText}
use Rattle.alloc_outcomes.proofs.AnswersLemmas.{gives_alone}
use Rattle.alloc_outcomes.proofs.MeaningsLemmas.{IsMeantOfTwo}
use Rattle.alloc_readings.proofs.ProblemLemmas.{one_problem, problem_known}
use Rattle.alloc_readings.proofs.TreesLemmas.{trees_alone}
use Rattle.alloc_tables.specs.Sets.{set_row, set_rows, sets_meaning, sets_text, SetsAnswers}

-- the record of a set has fields
pub set_row-filled : (row : Row) (number : ℕ) (s : SetValue) (parent : ℕ) → row ≡ set_row number s parent → 0 < length row
unfolding set_row
set_row-filled row number s parent is = let many : length row ≡ 7 = ap length is in omega (arith, many)

-- the records of the stated sets, and the one at the end
pub sets_text-parts : (p : ProblemValue) (f : FamilyValue) (t : TreesValue) (n : ℕ) (b0 b1 b2 : List ℕ) → f ≡ p.family → n ≡ p.stated → b0 ≡ []
    → b1 ≡ b0 ++ rows_text (set_rows f t n)
    → b2 ≡ b1 ++ rows_text ((codes "end" ∷ decimal n ∷ []) ∷ [])
    → b2 ≡ sets_text p t
unfolding sets_text
sets_text-parts p f t n b0 b1 b2 same count empty e1 e2 =
    let rows : List Row = set_rows p.family t p.stated in
    let first : b1 ≡ rows_text rows =
    e1 ∙ ap (λ (b : List ℕ). b ++ rows_text (set_rows f t n)) empty
    ∙ ap (λ (g : FamilyValue). rows_text (set_rows g t n)) same
    ∙ ap (λ (k : ℕ). rows_text (set_rows p.family t k)) count in
    e2 ∙ ap (λ (b : List ℕ). b ++ rows_text ((codes "end" ∷ decimal n ∷ []) ∷ [])) first
    ∙ ap (λ (k : ℕ). rows_text rows ++ rows_text ((codes "end" ∷ decimal k ∷ []) ∷ [])) count
    ∙ sym (rows_text-append rows ((codes "end" ∷ decimal p.stated ∷ []) ∷ []))

sets_alone : (prefs quotas : List ℕ) → RefusesAlone (SetsAnswers prefs quotas)
sets_alone prefs quotas =
    gives_alone (one_problem prefs quotas) (λ p read.
    trees_alone p.family (problem_known prefs quotas p read) (λ t. IsText (sets_text p t)) (λ t u due answer h k. cc))

pub sets_meant : IsMeantOfTwo sets_meaning
sets_meant = record { alone = sets_alone; holds = λ prefs quotas run came. tt }
