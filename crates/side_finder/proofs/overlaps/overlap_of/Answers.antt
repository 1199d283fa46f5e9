use Rattle.std.proofs.Common.{List, subst, All}
use Rattle.definitions.specs.declared.Cell.{Cell}
use Rattle.definitions.specs.Sets.{IsCellWithin}
use Rattle.side_finder.proofs.Words.{overlap_gathered}
use Rattle.side_finder.proofs.overlaps.overlap_of.Goals as goal

pub returns : goal.returns
returns c =
    let f = c.args.family.now in
    overlap_gathered f c.args.block c.args.set c.args.words.now c.requires.words
    (subst (λ (cells : List Cell). All (IsCellWithin f.agents f.columns) cells) c.cells_of.ensures.value c.cells_of.ensures.inside)
    c.columns.result c.cells_of.result.now c.columns.ensures.value c.cells_of.ensures.value c.gather.result c.gather.ensures.sharing c.gather.ensures.containing
