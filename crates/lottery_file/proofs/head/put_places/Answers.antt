use Rattle.std.proofs.Common.{◌≡◌, ◌+◌, ◌<◌, ◌≤◌, ◌∷◌, [], ℕ, List, ap, length, take, drop, get_or, rules, SFits, arith}
use Rattle.std.specs.Prelude.{codes}
use Rattle.table_text.specs.Rows.{rows_text}
use Rattle.std.specs.Prelude.{ℤ, pos}
use Rattle.std.specs.Int.{w64}
use Rattle.std.proofs.lemmas.Int.{to_z-of_z}
use Rattle.std.specs.Fmt.{signed_decimal}
use Rattle.lottery_file.specs.Written.{place_rows}
use Rattle.lottery_file.proofs.Buffering.{puts_as, puts_next, puts_stop, puts_refused}
use Rattle.lottery_file.proofs.WrittenRows.{row_next, row_stop, place_count, place_here}
use Rattle.std.proofs.lemmas.List.{take_all}
use Rattle.lottery_file.proofs.head.put_places.Goals as goal

-- the record of a place by the name of its column and its worth
record_of : (agent : List ℕ) (columns : List (List ℕ)) (list : List ℕ) (worths : List ℤ) (i : ℕ) (column : List ℕ) (worth : ℤ)
    → length worths ≡ length list → i < length list → column ≡ get_or columns (get_or list i 0) [] → worth ≡ get_or worths i (pos 0)
    → get_or (place_rows agent columns list worths) i [] ≡ codes "worth" ∷ agent ∷ column ∷ signed_decimal worth ∷ []
record_of agent columns list worths i column worth even lt is value = rw (is, value) (place_here agent columns list worths i 0 (pos 0) even lt)

pub returns-in_err-put_made : goal.returns-in_err-put_made
returns-in_err-put_made g c =
    let i = c.loop-i.i in
    let agent = c.args.agent.now in
    let columns = c.args.columns.now in
    let list = c.args.list.now in
    let worths = c.args.worths.now in
    let rows = place_rows agent columns list worths in
    let within : i < length list = omega arith in
    let lt : i < length rows = omega (arith, within, place_count agent columns list worths c.requires) in
    let fits : SFits w64 (get_or worths i (pos 0)) = search rules in
    let value = to_z-of_z w64 (get_or worths i (pos 0)) fits in
    puts_refused c.from_residual.result c.from_residual.ensures.1
    (puts_as (row_stop rows i _ lt (record_of agent columns list worths i c.name_at.result.now _ c.requires within c.name_at.ensures value))
    (puts_stop (rows_text (drop (i + 1) rows)) (puts_next {t = rows_text (take i rows)} c.loop-i.invariant (c.in_err-put_made.ensures _ c.row_of_worth-row.ensures))))

pub loop-i-preserved : goal.loop-i-preserved
loop-i-preserved g c =
    let i = c.loop-i.i in
    let agent = c.args.agent.now in
    let columns = c.args.columns.now in
    let list = c.args.list.now in
    let worths = c.args.worths.now in
    let rows = place_rows agent columns list worths in
    let within : i < length list = omega arith in
    let lt : i < length rows = omega (arith, within, place_count agent columns list worths c.requires) in
    let fits : SFits w64 (get_or worths i (pos 0)) = search rules in
    let value = to_z-of_z w64 (get_or worths i (pos 0)) fits in
    puts_as (row_next rows i _ lt (record_of agent columns list worths i c.name_at.result.now _ c.requires within c.name_at.ensures value))
    (puts_next {t = rows_text (take i rows)} c.loop-i.invariant (c.in_ok-put_made.ensures _ c.row_of_worth-row.ensures))

pub returns : goal.returns
returns g c =
    let list = c.args.list.now in
    let worths = c.args.worths.now in
    let rows = place_rows c.args.agent.now c.args.columns.now list worths in
    let all : length rows ≤ c.loop-i.i = omega (arith, place_count c.args.agent.now c.args.columns.now list worths c.requires) in
    puts_as (ap rows_text (take_all c.loop-i.i rows all)) c.loop-i.invariant
