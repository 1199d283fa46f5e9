use Rattle.std.proofs.Common.{◌≡◌, ◌∙◌, ◌<◌, ◌≤◌, sym, subst, refl, arith, drop, length, get_or, []}
use Rattle.std.proofs.lemmas.List.{length-drop, take_all, take_more}
use Rattle.lottery_file.specs.Checks.{check_column_name}
use Rattle.lottery_file.specs.Lotteries.{AreColumns}
use Rattle.definitions.proofs.Passed.{among-next, among-all, field-after}
use Rattle.lottery_file.proofs.FieldFacts.{field-stops, stop-kept}
use Rattle.lottery_file.proofs.SoundNames.{no-columns, columns-push, columns-few}
use Rattle.lottery_file.proofs.fields.read_columns.Goals as goal

pub loop-j-init : goal.loop-j-init
loop-j-init c = (refl, c.new-names.ensures, subst AreColumns (sym c.new-names.ensures) no-columns)

pub take_column_name-requires : goal.take_column_name-requires
take_column_name-requires c = columns-few c.loop-j.names c.loop-j.invariant.2

pub returns-in_err-take_column_name : goal.returns-in_err-take_column_name
returns-in_err-take_column_name c =
    let inv = c.loop-j.invariant in
    let fs = drop 1 c.args.row.now in
    let lt : c.loop-j.j < length fs = omega (arith, length-drop 1 c.args.row.now) in
    let x : c.field.result.now ≡ get_or fs c.loop-j.j [] = c.field.ensures ∙ field-after c.args.row.now 1 c.loop-j.j [] in
    stop-kept _ c.from_residual.result c.in_err-take_column_name.field-0.0 _ c.from_residual.ensures.1
    (field-stops check_column_name fs c.loop-j.j _ lt inv.0 (rw (x, inv.1) at c.in_err-take_column_name.ensures))

pub loop-j-preserved : goal.loop-j-preserved
loop-j-preserved c =
    let inv = c.loop-j.invariant in
    let fs = drop 1 c.args.row.now in
    let lt : c.loop-j.j < length fs = omega (arith, length-drop 1 c.args.row.now) in
    let x : c.field.result.now ≡ get_or fs c.loop-j.j [] = c.field.ensures ∙ field-after c.args.row.now 1 c.loop-j.j [] in
    (among-next check_column_name fs c.loop-j.j [] lt inv.0 (rw (x, inv.1) at c.in_ok-take_column_name.ensures.0), c.in_ok-take_column_name.ensures.1 ∙ rw (x, inv.1) (sym (take_more fs c.loop-j.j [] lt)), subst AreColumns (sym c.in_ok-take_column_name.ensures.1) (columns-push c.loop-j.names c.field.result.now c.in_ok-take_column_name.ensures.0 inv.2))

pub returns : goal.returns
returns c =
    let inv = c.loop-j.invariant in
    let fs = drop 1 c.args.row.now in
    let le : length fs ≤ c.loop-j.j = omega (arith, length-drop 1 c.args.row.now) in
    (among-all check_column_name fs c.loop-j.j le inv.0, inv.1 ∙ take_all c.loop-j.j fs le)
