use Rattle.std.proofs.Common.{◌≡◌, ◌≤◌, ap, sym, ◌∙◌, arith, List, length, subst}
use Rattle.definitions.specs.declared.Cell.{Cell}
use Rattle.cert_check.specs.PieceFaults.{pieces_value, cells_in_set, is_rounded}
use Rattle.cert_check.proofs.PieceCounts.{gives_rise, set_read, set_few, set_units_small, set_none, set_some}
use Rattle.cert_check.proofs.sets.set_at.Goals as goal

pub set_count-sum-requires-clause-rise : goal.set_count-sum-requires-clause-rise
set_count-sum-requires-clause-rise c = gives_rise c.args.x.now (pieces_value c.args.pieces.now) c.args.piece c.gives_of.result.now c.requires.pieces c.requires.piece c.gives_of.ensures

pub set_count-sum-requires-clause-few : goal.set_count-sum-requires-clause-few
set_count-sum-requires-clause-few c =
    let found = rw c.unwrap.ensures at c.get.ensures.value in
    let cells : c.cells-cells.result.now ≡ cells_in_set c.args.family.now c.args.index = set_read c.args.family.now c.args.index c.unwrap.result.now c.cells-cells.result.now found c.cells-cells.ensures.value in
    subst (λ (cs : List Cell). length cs ≤ 1201000) (sym cells) (set_few c.args.family.now c.args.index c.requires.given.family c.requires.index)

pub rounds-requires-clause-room : goal.rounds-requires-clause-room
rounds-requires-clause-room c =
    let small = set_units_small c.args.family.now c.args.x.now c.args.index c.sum-units.result c.requires.given.family c.requires.given.lawful c.requires.index c.sum-units.ensures.value in
    omega (arith, small, c.denominator.ensures.value)

pub returns-then-rounds : goal.returns-then-rounds
returns-then-rounds c =
    let found = rw c.unwrap.ensures at c.get.ensures.value in
    let cells : c.cells-cells.result.now ≡ cells_in_set c.args.family.now c.args.index = set_read c.args.family.now c.args.index c.unwrap.result.now c.cells-cells.result.now found c.cells-cells.ensures.value in
    let test = ap (λ n. is_rounded c.sum-units.result c.denominator.result n) (sym c.from.ensures) ∙ sym c.rounds.ensures ∙ c.if-rounds.true in
    set_none c.args.family.now c.args.x.now (pieces_value c.args.pieces.now) c.args.piece c.args.index c.sum-units.result c.denominator.result c.set_count-sum.result c.requires.index c.gives_of.result.now c.cells-cells.result.now c.sum-units.ensures.value c.denominator.ensures.value c.set_count-sum.ensures c.gives_of.ensures cells test

pub returns-else-rounds : goal.returns-else-rounds
returns-else-rounds c =
    let found = rw c.unwrap.ensures at c.get.ensures.value in
    let cells : c.cells-cells.result.now ≡ cells_in_set c.args.family.now c.args.index = set_read c.args.family.now c.args.index c.unwrap.result.now c.cells-cells.result.now found c.cells-cells.ensures.value in
    let test = ap (λ n. is_rounded c.sum-units.result c.denominator.result n) (sym c.from.ensures) ∙ sym c.rounds.ensures ∙ c.if-rounds.false in
    set_some c.args.family.now c.args.x.now (pieces_value c.args.pieces.now) c.args.piece c.args.index c.sum-units.result c.denominator.result c.set_count-sum.result c.requires.index c.gives_of.result.now c.cells-cells.result.now c.sum-units.ensures.value c.denominator.ensures.value c.set_count-sum.ensures c.gives_of.ensures cells test
