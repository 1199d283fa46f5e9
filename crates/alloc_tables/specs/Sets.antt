-- `sets`: what it writes of the stated sets of a problem, and what it answers.
use Rattle.std.specs.Prelude.{ℕ, ◌-◌, List, [], ◌∷◌, ◌++◌, codes, length, map, slice_get, unwrap_or}
use Rattle.std.specs.Fmt.{decimal}
use Rattle.std.specs.List.{range_with_len}
use Rattle.alloc_outcomes.specs.Answers.{Answer, Gives, IsText}
use Rattle.alloc_outcomes.specs.Causes.{trees_cause, input_cause}
use Rattle.alloc_outcomes.specs.Meanings.{TwoMeaning}
use Rattle.alloc_readings.specs.Problem.{ProblemTextReads}
use Rattle.alloc_readings.specs.Trees.{CrossesOrTrees}
use Rattle.definitions.specs.Sets.{FamilyValue, SetValue}
use Rattle.definitions.specs.Texts.{Row}
use Rattle.definitions.specs.Trees.{TreesValue, parent_at}
use Rattle.definitions.specs.Values.{ProblemValue}
use Rattle.table_text.specs.Rows.{rows_text}

-- the set with this number; without cells and quotas off the family
abbrev pub set_at : FamilyValue → ℕ → SetValue
set_at f number = unwrap_or (slice_get f.sets (number - 1))
    (record { side = 0; floor = 0; ceiling = 0; cells = [] })

-- the record of a set: its number, side, floor, ceiling, how many cells it has, and the number of
-- its parent
unfoldable pub set_row : ℕ → SetValue → ℕ → Row
set_row number s parent =
    codes "set" ∷ decimal number ∷ decimal s.side ∷ decimal s.floor ∷ decimal s.ceiling
    ∷ decimal (length s.cells) ∷ decimal parent ∷ []

-- the record of the set with this number, with 0 where it has no parent
abbrev pub numbered_row : FamilyValue → TreesValue → ℕ → Row
numbered_row f t number = set_row number (set_at f number) (unwrap_or (parent_at t number) 0)

-- the records of the first so many sets
abbrev pub set_rows : FamilyValue → TreesValue → ℕ → List Row
set_rows f t count = map (numbered_row f t) (range_with_len 1 count)

-- the text of the stated sets by number, and of how many there are
unfoldable pub sets_text : ProblemValue → TreesValue → List ℕ
sets_text p t =
    rows_text (set_rows p.family t p.stated ++ (codes "end" ∷ decimal p.stated ∷ []) ∷ [])

-- `sets PREFS QUOTAS`: what both texts read as decides, and then the least pair of sets that cross
abbrev pub SetsAnswers : List ℕ → List ℕ → Answer → Type 0
SetsAnswers prefs quotas =
    Gives input_cause (ProblemTextReads prefs quotas) (λ p.
    Gives trees_cause (CrossesOrTrees p.family) (λ t.
    IsText (sets_text p t)))

-- what `sets` means; it has no sentence of the headline
abbrev pub sets_meaning : TwoMeaning
sets_meaning = record { answers = SetsAnswers; says = λ prefs quotas run. Unit {0} }
