use Rattle.std.proofs.Common.{◌≡◌, ◌∙◌, length, sym, false, refl, arith}
use Rattle.std.specs.Prelude.{IsTrue}
use Rattle.std.proofs.lemmas.Bool.{eqb-true, eq-eqb}
use Rattle.definitions.specs.Sets.{set_cells, set_side}
use Rattle.bihierarchy.proofs.Above.{above_from_count, count_from_above, lower_from_above, count_at, count_back}
use Rattle.bihierarchy.proofs.overlap.is_above.Goals as goal
use Rattle.bihierarchy.proofs.overlap.is_above.Goals.{then-side_of-via-then-side_of, then-side_of-via-else-side_of+then-not-is_lower}

pub returns-then-side_of : goal.returns-then-side_of
returns-then-side_of c =
    let f = c.args.family.now in
    let s = c.args.set in
    let t = c.args.upper in
    let rs = c.cells_of-cells.ensures.rise in
    let rt = c.cells_of-upper_cells.ensures.rise in (
      λ e. absurd (not_so e),
      λ h. elim c.then-side_of.branch [
        | then-side_of-via-then-side_of w ↦ let same = h.sides in absurd (omega (arith, same, c.side_of.ensures, c.side_of-2.ensures, w.if-side_of.true))
        | then-side_of-via-else-side_of+then-not-is_lower w ↦ w.if-not-is_lower.ensures.1 (lower_from_above f s t rs rt h)
      ],
    )
  where
    not_so : IsTrue false → ⊥
    not_so e = cc e

pub returns : goal.returns
returns c =
    let f = c.args.family.now in
    let s = c.args.set in
    let t = c.args.upper in
    let a = c.cells_of-cells.result.now in
    let b = c.cells_of-upper_cells.result.now in
    let x = c.cells_of-cells.ensures.value in
    let y = c.cells_of-upper_cells.ensures.value in
    let rs = c.cells_of-cells.ensures.rise in
    let rt = c.cells_of-upper_cells.ensures.rise in
    let n = c.shared_cells.result in
    let sides : set_side f s ≡ set_side f t = sym c.side_of.ensures ∙ c.if-side_of.false ∙ c.side_of-2.ensures in (
      λ e. above_from_count f s t rs rt c.requires.upper sides (c.if-not-is_lower.ensures.0 refl)
          (count_at a (set_cells f s) b (set_cells f t) n x y c.shared_cells.ensures (eqb-true n (length a) e)),
      λ h. eq-eqb n (length a) (count_back a (set_cells f s) b (set_cells f t) n x y c.shared_cells.ensures (count_from_above f s t rs rt h)),
    )
