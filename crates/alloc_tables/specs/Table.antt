-- `table`: what it writes of an eating table, and what it answers.
use Rattle.std.specs.Prelude.{ℕ, ◌-◌, List, [], ◌∷◌, ◌++◌, codes, length, map, slice_index, slice_index_or}
use Rattle.std.specs.Fmt.{decimal}
use Rattle.std.specs.List.{range_with_len}
use Rattle.alloc_outcomes.specs.Answers.{Answer, Gives, IsText}
use Rattle.alloc_outcomes.specs.Causes.{trees_cause, input_cause, too_fine_cause}
use Rattle.alloc_outcomes.specs.Meanings.{TwoMeaning}
use Rattle.alloc_readings.specs.Eaten.{EatsOrTooFine}
use Rattle.alloc_readings.specs.Problem.{ProblemTextReads}
use Rattle.alloc_readings.specs.Trees.{CrossesOrTrees}
use Rattle.definitions.specs.Sets.{ScaledValue, cell_of, units_of}
use Rattle.definitions.specs.Texts.{Row, null_name}
use Rattle.definitions.specs.Values.{ProblemValue, column_count}
use Rattle.eating.specs.Eaten.{EatenValue}
use Rattle.table_text.specs.Rows.{rows_text}

-- the record of the columns: those of the objects, and that of `none`
abbrev pub columns_row : List (List ℕ) → Row
columns_row objects = codes "objects" ∷ (objects ++ null_name ∷ [])

-- the records before the moments: the version of the text, the denominator, and the columns
unfoldable pub head_rows : ℕ → List (List ℕ) → List Row
head_rows denominator objects =
    (codes "table" ∷ decimal 1 ∷ []) ∷ (codes "denominator" ∷ decimal denominator ∷ [])
    ∷ columns_row objects ∷ []

-- the record of the stated set with this number: the moment at which it is full
abbrev pub moment_row : List ℕ → ℕ → Row
moment_row moments number =
    codes "moment" ∷ decimal number ∷ decimal (slice_index moments (number - 1)) ∷ []

-- the records of the first so many stated sets
abbrev pub moment_rows : List ℕ → ℕ → List Row
moment_rows moments count = map (moment_row moments) (range_with_len 1 count)

-- an agent's units of the first so many columns
abbrev pub unit_fields : (ℕ → ℕ → ℕ) → ℕ → ℕ → Row
unit_fields units i count = map (λ a. decimal (units i a)) (range_with_len 0 count)

-- the record of the agent at this place, from 0: its name, and its units of every column
abbrev pub agent_row : List (List ℕ) → ℕ → (ℕ → ℕ → ℕ) → ℕ → Row
agent_row agents columns units i =
    codes "row" ∷ slice_index_or agents i [] ∷ unit_fields units i columns

-- the units of a matrix, by agent and column
abbrev pub units_in : ScaledValue → ℕ → ℕ → ℕ
units_in x i a = units_of x (cell_of i a)

-- the record of the agent at this place with its units in a matrix, and those of the first so many
-- agents
abbrev pub eaten_row : List (List ℕ) → ScaledValue → ℕ → Row
eaten_row agents x i = agent_row agents x.columns (units_in x) i

abbrev pub eaten_rows : List (List ℕ) → ScaledValue → ℕ → List Row
eaten_rows agents x count = map (eaten_row agents x) (range_with_len 0 count)

-- the records of moments, and of units by agent and column, over a denominator
unfoldable pub table_rows : ProblemValue → ℕ → List ℕ → (ℕ → ℕ → ℕ) → List Row
table_rows p denominator moments units =
    head_rows denominator p.objects
    ++ moment_rows moments p.stated
    ++ map (agent_row p.agents (column_count p) units) (range_with_len 0 (length p.agents))
    ++ (codes "end" ∷ decimal (length p.agents) ∷ []) ∷ []

-- the text of what is eaten in a problem
unfoldable pub eaten_text : ProblemValue → EatenValue → List ℕ
eaten_text p v =
    rows_text (table_rows p v.shares.denominator v.moments (units_in v.shares))

-- `table PREFS QUOTAS`: what both texts read as decides, then the least pair of sets that cross,
-- and then the first table that is too fine
abbrev pub TableAnswers : List ℕ → List ℕ → Answer → Type 0
TableAnswers prefs quotas =
    Gives input_cause (ProblemTextReads prefs quotas) (λ p.
    Gives trees_cause (CrossesOrTrees p.family) (λ _.
    Gives too_fine_cause (EatsOrTooFine p) (λ v.
    IsText (eaten_text p v))))

-- what `table` means; it has no sentence of the headline
abbrev pub table_meaning : TwoMeaning
table_meaning = record { answers = TableAnswers; says = λ prefs quotas run. Unit {0} }
