use Rattle.std.proofs.Common.{◌≡◌, ℕ, ◌+◌, ◌*◌, ◌<◌, List, length, get_or, ◌∙◌, refl, sym, subst, ap, arith}
use Rattle.plane_kernel.specs.Bits.{bit_of}
use Rattle.definitions.specs.declared.Cell.{Cell}
use Rattle.definitions.specs.Sets.{IsCellWithin, cell_index, cell_of, set_cells}
use Rattle.side_finder.proofs.Words.{entered_all, entered_more, entered_none}
use Rattle.side_finder.proofs.overlaps.enter.Goals as goal

pub loop-cell-init : goal.loop-cell-init
loop-cell-init c = entered_none c.args.family.now c.args.set c.args.bit c.args.words.now

pub loop-cell-preserved : goal.loop-cell-preserved
loop-cell-preserved c =
    let f = c.args.family.now in
    let s = c.args.set in
    let i = c.loop-cell.cell-index in
    let cells = c.cells_of-cell-items.result.now in
    let d = cell_of 0 0 in
    let x : Cell = get_or cells i d in
    let value = c.cells_of-cell-items.ensures.value in
    let size = ap (λ (xs : List Cell). length xs) value in
    let l : i < length (set_cells f s) = omega (arith, size, c.loop-cell-test.true) in
    let is : get_or (set_cells f s) i d ≡ x = ap (λ (xs : List Cell). get_or xs i d) (sym value) in
    let inside : IsCellWithin f.agents f.columns x = c.cells_of-cell-items.ensures.inside i d (omega (arith, c.loop-cell-test.true)) in
    let at : c.bit_place.result ≡ 64 * cell_index f.columns x + c.args.bit = c.bit_place.ensures.value in
    entered_more f s c.args.bit i c.args.words.now c.loop-cell.words c.set_bit.new.a d x (cell_index f.columns x) l is inside refl c.requires.bit
    (subst (λ (k : ℕ). bit_of c.set_bit.new.a k ≡ 1) at c.set_bit.ensures.set)
    (λ k other. c.set_bit.ensures.kept k (λ e. other (e ∙ at)))
    c.set_bit.auto.a c.loop-cell.invariant

pub returns : goal.returns
returns c =
    let size = ap (λ (xs : List Cell). length xs) c.cells_of-cell-items.ensures.value in
    entered_all c.args.family.now c.args.set c.args.bit c.loop-cell.cell-index c.args.words.now c.loop-cell.words (omega (arith, size, c.loop-cell-test.false)) c.loop-cell.invariant
