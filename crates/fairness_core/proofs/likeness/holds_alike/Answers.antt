use Rattle.std.proofs.Common.{◌≡◌, ◌∙◌, ap, sym}
use Rattle.fairness_core.specs.Alike.{columns_of}
use Rattle.fairness_core.proofs.Columns.{run, alike_by_columns, columns_by_alike}
use Rattle.fairness_core.proofs.likeness.holds_alike.Goals as goal

pub returns : goal.returns
returns c =
    let one : columns_of c.cells_of.result.now ≡ run c.args.one c.args.set.now.cells = ap columns_of c.cells_of.ensures.value in
    let other : columns_of c.cells_of-2.result.now ≡ run c.args.other c.args.set.now.cells = ap columns_of c.cells_of-2.ensures.value in (
      λ t. columns_by_alike c.args.none c.args.one c.args.other c.args.set.now.cells (sym one ∙ c.are_same_columns.ensures.0 t ∙ other),
      λ h. c.are_same_columns.ensures.1 (one ∙ alike_by_columns c.args.none c.args.one c.args.other c.args.set.now.cells c.side-side.ensures.lawful.rise c.requires.objects h ∙ sym other),
    )
