use Rattle.std.proofs.Common.{◌≡◌, ◌<◌, ◌∙◌, length, get_or, ap, sym, arith}
use Rattle.std.proofs.lemmas.List.Sums.{sum_by_more}
use Rattle.definitions.specs.Sets.{SetValue}
use Rattle.guard_sets.proofs.Rooms.{set_at}
use Rattle.guard_sets.proofs.size.family_cells.Goals as goal

pub loop-index-preserved : goal.loop-index-preserved
loop-index-preserved c =
    let within : c.loop-index.index < length c.args.family.now.sets = omega (arith, c.loop-index-test.true, c.len-index-end.ensures.value) in
    let found = rw c.unwrap-set.ensures at c.get.ensures.value in
    let here : length (get_or c.args.family.now.sets c.loop-index.index c.unwrap-set.result.now).cells ≡ length c.cells.result.now =
    ap (λ (s : SetValue). length s.cells) (set_at c.args.family.now c.loop-index.index c.unwrap-set.result.now c.unwrap-set.result.now found) ∙ sym (ap length c.cells.ensures.value) in
    let more = sum_by_more (λ (s : SetValue). length s.cells) c.args.family.now.sets c.loop-index.index c.unwrap-set.result.now within in
    omega (arith, here, more, c.loop-index.invariant)
