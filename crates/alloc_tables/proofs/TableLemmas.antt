-- `table`: the text of a table by its parts, and that it has one answer.
use Rattle.std.proofs.Common.{◌≡◌, ◌+◌, ℕ, List, [], ◌∷◌, ◌++◌, map, length, sym, ◌∙◌, ap, append_assoc, arith}
use Rattle.std.specs.Prelude.{codes, decimal}
use Rattle.std.specs.List.{range_with_len}
use Rattle.std.proofs.lemmas.List.{length-append, length-map, length-take-le}
use Rattle.std.proofs.lemmas.List.FromFn.{map-range_with_len_more}
use Rattle.definitions.specs.Sets.{ScaledValue, SetValue, cell_of, units_of}
use Rattle.definitions.specs.Texts.{Row}
use Rattle.definitions.specs.Values.{IsProblem, Limit, ProblemValue, capped_limits, column_count, market_of, stated_sets}
use Rattle.definitions.proofs.Families.{sets_of_problem}
use Rattle.eating.specs.Answers.{IsEaten}
use Rattle.eating_laws.proofs.Limits.{agent_count}
use Rattle.eating.specs.Eaten.{EatenValue}
use Rattle.table_text.specs.Rows.{rows_text}
use Rattle.alloc_outcomes.specs.Answers.{Gives, IsText, RefusesAlone}
use Rattle.alloc_outcomes.specs.Causes.{too_fine_cause}
use Rattle.alloc_outcomes.proofs.AnswersLemmas.{gives_alone, text_alone}
use Rattle.alloc_outcomes.proofs.MeaningsLemmas.{IsMeantOfTwo}
use Rattle.alloc_readings.specs.Eaten.{EatsOrTooFine}
use Rattle.alloc_readings.proofs.EatenLemmas.{one_table}
use Rattle.alloc_readings.proofs.ProblemLemmas.{one_problem, problem_known}
use Rattle.alloc_readings.proofs.TreesLemmas.{trees_alone}
use Rattle.alloc_tables.specs.Table.{agent_row, columns_row, eaten_text, head_rows, moment_row, table_meaning, table_rows, TableAnswers}
use Rattle.alloc_tables.proofs.RowsLemmas.{rows-then}

-- one more field after n that go by number
pub fields-more : (field : ℕ → List ℕ) (n : ℕ) (last : List ℕ) (start mid next : Row) → last ≡ field n
    → mid ≡ start ++ map field (range_with_len 0 n) → next ≡ mid ++ last ∷ [] → next ≡ start ++ map field (range_with_len 0 (n + 1))
fields-more field n last start mid next is so more =
    let fields : Row = map field (range_with_len 0 n) in
    more ∙ ap (λ (row : Row). row ++ last ∷ []) so ∙ row_after start fields (last ∷ []) ∙ ap (λ (text : List ℕ). start ++ (fields ++ text ∷ [])) is
    ∙ ap (λ (row : Row). start ++ row) (sym (map-range_with_len_more field 0 n n (omega arith)))
  where
    row_after : (a b c : Row) → (a ++ b) ++ c ≡ a ++ (b ++ c)
    row_after a b c = simp append_assoc

-- what is eaten has a moment for each stated set
pub moments_many : (p : ProblemValue) (v : EatenValue) → IsProblem p → IsEaten p v → length v.moments ≡ p.stated
moments_many p v lawful h =
    let limit : SetValue → Limit = λ s. record { ceiling = s.ceiling; cells = s.cells } in
    let capped : List Limit = capped_limits 0 (market_of p).agents in
    let sets : length (stated_sets p) ≡ p.stated = length-take-le p.stated p.family.sets (omega (arith, sets_of_problem p lawful)) in
    let limits : length (map limit (stated_sets p) ++ capped) ≡ length (stated_sets p) + length capped =
    length-append (map limit (stated_sets p)) capped ∙ ap (λ (n : ℕ). n + length capped) (length-map (stated_sets p) limit) in
    let size : length h.0 ≡ length (map limit (stated_sets p) ++ capped) = h.1.table.size in
    ap length h.1.moments ∙ length-take-le p.stated h.0 (omega (arith, sets, limits, size))

-- and units for each agent
pub agents_eaten : (p : ProblemValue) (v : EatenValue) → IsProblem p → IsEaten p v → v.shares.agents ≡ length p.agents
agents_eaten p v lawful h = h.1.shares.agents ∙ agent_count p lawful

-- the records before the moments are appended in three parts
pub head_rows-text : (denominator : ℕ) (objects : List (List ℕ)) (t0 t1 t2 t3 : List ℕ)
    → t1 ≡ t0 ++ rows_text ((codes "table" ∷ decimal 1 ∷ []) ∷ [])
    → t2 ≡ t1 ++ rows_text ((codes "denominator" ∷ decimal denominator ∷ []) ∷ [])
    → t3 ≡ t2 ++ rows_text (columns_row objects ∷ [])
    → t3 ≡ t0 ++ rows_text (head_rows denominator objects)
unfolding head_rows
head_rows-text denominator objects t0 t1 t2 t3 e1 e2 e3 =
    let first : Row = codes "table" ∷ decimal 1 ∷ [] in
    let second : Row = codes "denominator" ∷ decimal denominator ∷ [] in
    rows-then (first ∷ second ∷ []) (columns_row objects ∷ []) t0 t2 t3 (rows-then (first ∷ []) (second ∷ []) t0 t1 t2 e1 e2) e3

-- the text of what is eaten is appended in four parts
pub eaten_text-parts : (p : ProblemValue) (v : EatenValue) (t0 t1 t2 t3 t4 : List ℕ) → length v.moments ≡ p.stated → v.shares.columns ≡ column_count p
    → t0 ≡ []
    → t1 ≡ t0 ++ rows_text (head_rows v.shares.denominator p.objects)
    → t2 ≡ t1 ++ rows_text (map (moment_row v.moments) (range_with_len 1 (length v.moments)))
    → t3 ≡ t2 ++ rows_text (map (agent_row p.agents v.shares.columns (λ i a. units_of v.shares (cell_of i a))) (range_with_len 0 (length p.agents)))
    → t4 ≡ t3 ++ rows_text ((codes "end" ∷ decimal (length p.agents) ∷ []) ∷ [])
    → t4 ≡ eaten_text p v
unfolding eaten_text table_rows
eaten_text-parts p v t0 t1 t2 t3 t4 many columns empty e1 e2 e3 e4 =
    let units = λ (i a : ℕ). units_of v.shares (cell_of i a) in
    let head : List Row = head_rows v.shares.denominator p.objects in
    let moments : List Row = map (moment_row v.moments) (range_with_len 1 p.stated) in
    let agents : List Row = map (agent_row p.agents (column_count p) units) (range_with_len 0 (length p.agents)) in
    let end : List Row = (codes "end" ∷ decimal (length p.agents) ∷ []) ∷ [] in
    let m2 : t2 ≡ t1 ++ rows_text moments = e2 ∙ ap (λ (n : ℕ). t1 ++ rows_text (map (moment_row v.moments) (range_with_len 1 n))) many in
    let m3 : t3 ≡ t2 ++ rows_text agents = e3 ∙ ap (λ (n : ℕ). t2 ++ rows_text (map (agent_row p.agents n units) (range_with_len 0 (length p.agents)))) columns in
    rows-then (head ++ moments ++ agents) end t0 t3 t4 (rows-then (head ++ moments) agents t0 t2 t3 (rows-then head moments t0 t1 t2 e1 m2) m3) e4
    ∙ ap (λ (b : List ℕ). b ++ rows_text (head ++ moments ++ agents ++ end)) empty

-- the same of what the calls of a problem and of what is eaten give
pub eaten_text-made : (p : ProblemValue) (v : EatenValue) (objects agents : List (List ℕ)) (x : ScaledValue) (moments : List ℕ) (denominator count : ℕ) (t0 t1 t2 t3 t4 : List ℕ)
    → IsProblem p → IsEaten p v
    → objects ≡ p.objects → agents ≡ p.agents → x ≡ v.shares → moments ≡ v.moments → denominator ≡ x.denominator → count ≡ length agents
    → t0 ≡ []
    → t1 ≡ t0 ++ rows_text (head_rows denominator objects)
    → t2 ≡ t1 ++ rows_text (map (moment_row moments) (range_with_len 1 (length moments)))
    → t3 ≡ t2 ++ rows_text (map (agent_row agents x.columns (λ i a. units_of x (cell_of i a))) (range_with_len 0 (length agents)))
    → t4 ≡ t3 ++ rows_text ((codes "end" ∷ decimal count ∷ []) ∷ [])
    → t4 ≡ eaten_text p v
eaten_text-made p v objects agents x moments denominator count t0 t1 t2 t3 t4 lawful eaten so sa sx sm sd sc empty e1 e2 e3 e4 =
    eaten_text-parts p v t0 t1 t2 t3 t4 (moments_many p v lawful eaten) eaten.1.shares.columns empty
    (e1 ∙ ap (λ (n : ℕ). t0 ++ rows_text (head_rows n objects)) (sd ∙ ap (λ (y : ScaledValue). y.denominator) sx) ∙ ap (λ (names : List (List ℕ)). t0 ++ rows_text (head_rows v.shares.denominator names)) so)
    (e2 ∙ ap (λ (m : List ℕ). t1 ++ rows_text (map (moment_row m) (range_with_len 1 (length m)))) sm)
    (e3 ∙ ap (λ (y : ScaledValue). t2 ++ rows_text (map (agent_row agents y.columns (λ i a. units_of y (cell_of i a))) (range_with_len 0 (length agents)))) sx
    ∙ ap (λ (names : List (List ℕ)). t2 ++ rows_text (map (agent_row names v.shares.columns (λ i a. units_of v.shares (cell_of i a))) (range_with_len 0 (length names)))) sa)
    (e4 ∙ ap (λ (n : ℕ). t3 ++ rows_text ((codes "end" ∷ decimal n ∷ []) ∷ [])) (sc ∙ ap length sa))

-- what is eaten decides, and one text follows
eaten_alone : (p : ProblemValue) → RefusesAlone (Gives too_fine_cause (EatsOrTooFine p) (λ v. IsText (eaten_text p v)))
eaten_alone p = gives_alone (one_table p) (λ v eaten. text_alone (eaten_text p v))

table_alone : (prefs quotas : List ℕ) → RefusesAlone (TableAnswers prefs quotas)
table_alone prefs quotas =
    gives_alone (one_problem prefs quotas) (λ p read.
    trees_alone p.family (problem_known prefs quotas p read) (λ t. Gives too_fine_cause (EatsOrTooFine p) (λ v. IsText (eaten_text p v))) (λ t u due answer h k. eaten_alone p due answer h k))

pub table_meant : IsMeantOfTwo table_meaning
table_meant = record { alone = table_alone; holds = λ prefs quotas run came. tt }
