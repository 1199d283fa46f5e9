use Rattle.std.proofs.Common.{◌≡◌, ℕ, ◌+◌, ◌*◌, ◌<◌, List, length, get_or, ◌∙◌, sym, subst, ap, arith}
use Rattle.std.proofs.Math.Nat.{mul_comm}
use Rattle.std.proofs.lemmas.Nat.{mul-add-lt}
use Rattle.definitions.specs.declared.Cell.{Cell}
use Rattle.definitions.specs.Sets.{IsCellWithin, cell_of, set_cells}
use Rattle.bihierarchy.proofs.Entering.{entering_all, entering_passed, entering_failed}
use Rattle.bihierarchy.proofs.holders.enter.Goals as goal
use Rattle.bihierarchy.proofs.holders.enter.Goals.{then-is_least, else-is_least}

pub loop-cell-preserved : goal.loop-cell-preserved
loop-cell-preserved c =
    let f = c.args.family.now in
    let s = c.args.set in
    let i = c.loop-cell.cell-index in
    let cells = c.cells_of-cell-items.result.now in
    let d = cell_of 0 0 in
    let x : Cell = get_or cells i d in
    let columns = c.columns-columns.ensures.value in
    let place : ℕ = x.agent * c.columns-columns.result + x.object in
    let value = c.cells_of-cell-items.ensures.value in
    let size = ap (λ (xs : List Cell). length xs) value in
    let l : i < length (set_cells f s) = omega (arith, size, c.loop-cell-test.true) in
    let is : get_or (set_cells f s) i d ≡ x = ap (λ (xs : List Cell). get_or xs i d) (sym value) in
    let at : place ≡ x.agent * f.columns + x.object = ap (λ (n : ℕ). x.agent * n + x.object) columns in
    let inside : IsCellWithin f.agents f.columns x = subst (λ (y : Cell). IsCellWithin f.agents f.columns y) is (c.cells_of-cell-items.ensures.inside i d l) in
    let many : length c.loop-cell.table ≡ f.columns * f.agents = c.loop-cell.auto.table ∙ c.requires.before.many ∙ mul_comm f.agents f.columns in
    let fits : place < length c.loop-cell.table = omega (arith, at, many, mul-add-lt x.agent f.columns x.object f.agents inside.0 inside.1) in
    elim c.if-is_least.branch [
      | then-is_least w ↦ rw w.table-is (entering_passed f s i c.loop-cell.table d x place c.requires.known c.cells_of-cell-items.ensures.rise l is at inside c.loop-cell.invariant
          c.is_least.result w.if-is_least.true c.is_least.ensures fits)
      | else-is_least w ↦ rw w.table-is (entering_failed f s i c.loop-cell.table d x place c.requires.known c.cells_of-cell-items.ensures.rise l is at inside c.loop-cell.invariant
          c.is_least.result w.if-is_least.false c.is_least.ensures)
    ]

pub returns : goal.returns
returns c =
    let size = ap (λ (xs : List Cell). length xs) c.cells_of-cell-items.ensures.value in
    entering_all c.args.family.now c.args.set c.loop-cell.cell-index c.loop-cell.table (omega (arith, size, c.loop-cell-test.false)) (c.loop-cell.auto.table ∙ c.requires.before.many) c.loop-cell.invariant
