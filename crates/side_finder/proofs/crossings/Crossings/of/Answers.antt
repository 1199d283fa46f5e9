use Rattle.std.proofs.Common.{◌≡◌, ℕ, ◌*◌, ◌≤◌, ◌∙◌, List, [], ◌∷◌, Vec, Global, length, sym, subst, arith}
use Rattle.std.proofs.lemmas.List.{length-map, length_push, map-append}
use Rattle.definitions.specs.Sets.{cells_of}
use Rattle.side_finder.specs.declared.overlaps.Overlap.{Overlap}
use Rattle.side_finder.specs.Graphs.{IsCrossingGraph, IsGraphOf}
use Rattle.side_finder.proofs.Crossing.{is_crossing, is_graph, rows_more, rows_of}
use Rattle.side_finder.proofs.crossings.Crossings.of.Goals as goal

pub loop-block-preserved : goal.loop-block-preserved
loop-block-preserved c =
    let f = c.args.family.now in
    let old : List (Vec Overlap Global) = c.loop-block.blocks.items in
    let row = c.in_ok-overlaps_of.field-0 in
    let count = length-map old (λ (r : Vec Overlap Global). r.items) in
    rw c.in_ok-push.ensures.items (record {
      many = omega (arith, length_push old row, c.loop-block.invariant.many);
      right = rw (map-append (λ (r : Vec Overlap Global). r.items) old (row ∷ []))
          (rows_more f c.loop-block.block (rows_of old) row.items (omega (arith, count, c.loop-block.invariant.many)) c.loop-block.invariant.right c.in_ok-overlaps_of.ensures);
    })

pub returns-clause-graph : goal.returns-clause-graph
returns-clause-graph c =
    let f = c.args.family.now in
    let rows : List (List Overlap) = rows_of c.loop-block.blocks.items in
    let many : length rows ≡ c.loop-block.block = length-map c.loop-block.blocks.items (λ (r : Vec Overlap Global). r.items) ∙ c.loop-block.invariant.many in
    let enough : length f.sets ≤ 64 * c.loop-block.block = omega (arith, c.loop-block-test.false, c.len-sets.ensures.value) in
    subst (λ (n : ℕ). IsGraphOf (cells_of f) (record { size = n; rows = rows })) (sym c.len-sets.ensures.value)
    (is_graph f c.len-sets.ensures.lawful rows c.loop-block.block many enough c.loop-block.invariant.right)

pub returns-clause-lawful : goal.returns-clause-lawful
returns-clause-lawful c =
    let f = c.args.family.now in
    let rows : List (List Overlap) = rows_of c.loop-block.blocks.items in
    let many : length rows ≡ c.loop-block.block = length-map c.loop-block.blocks.items (λ (r : Vec Overlap Global). r.items) ∙ c.loop-block.invariant.many in
    let enough : length f.sets ≤ 64 * c.loop-block.block = omega (arith, c.loop-block-test.false, c.len-sets.ensures.value) in
    subst (λ (n : ℕ). IsCrossingGraph (record { size = n; rows = rows })) (sym c.len-sets.ensures.value)
    (is_crossing f c.len-sets.ensures.lawful rows c.loop-block.block many enough c.loop-block.invariant.right)
