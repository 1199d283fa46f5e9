use Rattle.std.proofs.Common.{List, ◌∙◌, ap, refl, arith, take_all}
use Rattle.std.specs.Prelude.{slice_index}
use Rattle.std.specs.List.{list_all, list_any}
use Rattle.definitions.specs.declared.Cell.{Cell}
use Rattle.definitions.specs.Sets.{cell_index, cell_of}
use Rattle.side_finder.specs.Blocks.{has_bit}
use Rattle.side_finder.proofs.Words.{gathered_more, gathered_none}
use Rattle.side_finder.proofs.overlaps.gather.Goals as goal

pub loop-cell-init : goal.loop-cell-init
loop-cell-init c = gathered_none c.args.words.now c.args.columns c.args.cells.now

pub loop-cell-preserved : goal.loop-cell-preserved
loop-cell-preserved c = gathered_more c.args.words.now c.args.columns c.loop-cell.cell-index c.args.cells.now c.loop-cell.sharing c.loop-cell.containing _ (cell_of 0 0) (omega arith) refl c.loop-cell.invariant

pub returns-clause-sharing : goal.returns-clause-sharing
returns-clause-sharing c k l =
    c.loop-cell.invariant.some k l
    ∙ ap (λ (cells : List Cell). list_any (λ x. has_bit (slice_index c.args.words.now (cell_index c.args.columns x)) k) cells) (take_all c.loop-cell.cell-index c.args.cells.now (omega arith))

pub returns-clause-containing : goal.returns-clause-containing
returns-clause-containing c k l =
    c.loop-cell.invariant.each k l
    ∙ ap (λ (cells : List Cell). list_all (λ x. has_bit (slice_index c.args.words.now (cell_index c.args.columns x)) k) cells) (take_all c.loop-cell.cell-index c.args.cells.now (omega arith))
