use Rattle.std.proofs.Common.{◌≡◌, ◌+◌, ◌*◌, ◌<◌, ◌≤◌, ◌∙◌, ◌∷◌, [], ℕ, List, ap, sym, length, map, take, drop, get_or, arith}
use Rattle.std.specs.Prelude.{codes, decimal}
use Rattle.table_text.specs.Rows.{rows_text}
use Rattle.lottery_file.specs.Written.{share_rows}
use Rattle.lottery_file.proofs.Buffering.{puts_as, puts_next, puts_stop, puts_refused}
use Rattle.lottery_file.proofs.WrittenRows.{row_next, row_stop, share_count, share_here}
use Rattle.std.proofs.lemmas.List.{take_all}
use Rattle.lottery_file.proofs.head.put_shares.Goals as goal

-- the record of an agent by its name
record_of : (agents : List (List ℕ)) (columns : ℕ) (units : List ℕ) (i : ℕ) (name : List ℕ) → i < length agents → name ≡ get_or agents i []
    → get_or (share_rows agents columns units) i [] ≡ codes "row" ∷ name ∷ map decimal (take columns (drop (i * columns) units))
record_of agents columns units i name lt is = share_here agents columns units i lt ∙ ap (λ (n : List ℕ). codes "row" ∷ n ∷ map decimal (take columns (drop (i * columns) units))) (sym is)

pub returns-in_err-put_made : goal.returns-in_err-put_made
returns-in_err-put_made g c =
    let i = c.loop-agent.agent in
    let agents = c.args.agents.now in
    let x = c.args.shares.now in
    let rows = share_rows agents x.columns x.units in
    let within : i < length agents = omega arith in
    let lt : i < length rows = omega (arith, within, share_count agents x.columns x.units) in
    puts_refused c.from_residual.result c.from_residual.ensures.1
    (puts_as (row_stop rows i _ lt (record_of agents x.columns x.units i c.name_at.result.now within c.name_at.ensures))
    (puts_stop (rows_text (drop (i + 1) rows)) (puts_next {t = rows_text (take i rows)} c.loop-agent.invariant (c.in_err-put_made.ensures _ c.row_of_units-row.ensures))))

pub loop-agent-preserved : goal.loop-agent-preserved
loop-agent-preserved g c =
    let i = c.loop-agent.agent in
    let agents = c.args.agents.now in
    let x = c.args.shares.now in
    let rows = share_rows agents x.columns x.units in
    let within : i < length agents = omega arith in
    let lt : i < length rows = omega (arith, within, share_count agents x.columns x.units) in
    puts_as (row_next rows i _ lt (record_of agents x.columns x.units i c.name_at.result.now within c.name_at.ensures))
    (puts_next {t = rows_text (take i rows)} c.loop-agent.invariant (c.in_ok-put_made.ensures _ c.row_of_units-row.ensures))

pub returns : goal.returns
returns g c =
    let agents = c.args.agents.now in
    let x = c.args.shares.now in
    let rows = share_rows agents x.columns x.units in
    let all : length rows ≤ c.loop-agent.agent = omega (arith, share_count agents x.columns x.units) in
    puts_as (ap rows_text (take_all c.loop-agent.agent rows all)) c.loop-agent.invariant
