use Rattle.std.proofs.Common.{◌∙◌, List, length, get_or, sym, ap, arith}
use Rattle.side_finder.specs.declared.overlaps.Overlap.{Overlap}
use Rattle.side_finder.specs.Blocks.{no_overlap}
use Rattle.side_finder.proofs.Crossing.{row_read, row_wide}
use Rattle.side_finder.proofs.crossings.Crossings.overlap.Goals as goal

pub bounds-row-set : goal.bounds-row-set
bounds-row-set c =
    let value = ap (λ (xs : List Overlap). length xs) c.as_slice-row.ensures.value in
    let wide = row_wide c.args.self.now c.self.inside.sets c.self.inside.blocks.items c.self.view_is c.self.invariant c.args.other c.requires.other c.index.result.now c.index.ensures in
    omega (arith, value, wide, c.requires.set)

pub returns : goal.returns
returns c =
    ap (λ (xs : List Overlap). get_or xs c.args.set no_overlap)
    (c.as_slice-row.ensures.value ∙ sym (row_read c.args.self.now c.self.inside.sets c.self.inside.blocks.items c.self.view_is c.self.invariant c.args.other c.requires.other c.index.result.now c.index.ensures))
