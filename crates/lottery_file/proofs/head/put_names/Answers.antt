use Rattle.std.proofs.Common.{◌++◌, ◌∷◌, [], ℕ, List}
use Rattle.std.specs.Prelude.{codes, decimal}
use Rattle.definitions.specs.Texts.{Row}
use Rattle.table_text.specs.Rows.{rows_text}
use Rattle.lottery_file.proofs.Buffering.{puts_as, puts_next, puts_stop, puts_refused}
use Rattle.lottery_file.proofs.WrittenRows.{name_text}
use Rattle.lottery_file.proofs.head.put_names.Goals as goal

-- the text of a record
abbrev text_of : Row → List ℕ
text_of row = rows_text (row ∷ [])

abbrev agents_text : List (List ℕ) → List ℕ
agents_text agents = text_of (codes "agents" ∷ agents)

abbrev columns_text : List (List ℕ) → List ℕ
columns_text columns = text_of (codes "objects" ∷ columns)

pub returns-in_err-put_made : goal.returns-in_err-put_made
returns-in_err-put_made g c =
    let d = c.args.denominator in
    let agents = c.args.agents.now in
    let columns = c.args.columns.now in
    puts_refused c.from_residual.result c.from_residual.ensures.1
    (puts_as (name_text d agents columns)
    (puts_stop (text_of (codes "denominator" ∷ decimal d ∷ []) ++ (agents_text agents ++ columns_text columns)) (c.in_err-put_made.ensures _ c.row_of_words.ensures)))

pub returns-in_err-put_made-2 : goal.returns-in_err-put_made-2
returns-in_err-put_made-2 g c =
    let agents = c.args.agents.now in
    let columns = c.args.columns.now in
    puts_refused c.from_residual-in_err-put_made-2.result c.from_residual-in_err-put_made-2.ensures.1
    (puts_as (name_text c.args.denominator agents columns)
    (puts_next (c.in_ok-put_made.ensures _ c.row_of_words.ensures) (puts_stop (agents_text agents ++ columns_text columns) (c.in_err-put_made-2.ensures _ c.row_of_number-row.ensures))))

pub returns-in_err-put_made-3 : goal.returns-in_err-put_made-3
returns-in_err-put_made-3 g c =
    let columns = c.args.columns.now in
    puts_refused c.from_residual-in_err-put_made-3.result c.from_residual-in_err-put_made-3.ensures.1
    (puts_as (name_text c.args.denominator c.args.agents.now columns)
    (puts_next (c.in_ok-put_made.ensures _ c.row_of_words.ensures) (puts_next (c.in_ok-put_made-2.ensures _ c.row_of_number-row.ensures) (puts_stop (columns_text columns) (c.in_err-put_made-3.ensures _ c.row_of_names-row.ensures)))))

pub returns : goal.returns
returns g c =
    puts_as (name_text c.args.denominator c.args.agents.now c.args.columns.now)
    (puts_next (c.in_ok-put_made.ensures _ c.row_of_words.ensures)
    (puts_next (c.in_ok-put_made-2.ensures _ c.row_of_number-row.ensures)
    (puts_next (c.in_ok-put_made-3.ensures _ c.row_of_names-row.ensures) (c.put_made-4.ensures _ c.row_of_names.ensures))))
