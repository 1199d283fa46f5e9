use Rattle.std.proofs.Common.{◌≡◌, ◌+◌, ◌*◌, ◌<◌, ◌∙◌, get_or, refl, arith, lt-ltb}
use Rattle.lottery_file.proofs.WrittenRows.{entries_next}
use Rattle.lottery_file.proofs.rows.row_of_units.Goals as goal

pub loop-object-preserved : goal.loop-object-preserved
loop-object-preserved c =
    let x = c.args.shares.now in
    let j = c.loop-object.object in
    let lt : j < x.columns = omega arith in
    let is : c.at.result ≡ get_or x.units (c.args.agent * x.columns + j) 0 = c.at.ensures.value ∙ rw (lt-ltb j x.columns lt) refl in
    entries_next _ _ x.units x.agents x.columns c.args.agent j c.at.result c.loop-object.row _ c.at.ensures.lawful.shape c.requires lt is c.loop-object.invariant c.in_ok-push_number.ensures.ok
