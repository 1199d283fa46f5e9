use Rattle.std.proofs.Common.{ℕ, ◌*◌, ap, arith}
use Rattle.side_finder.proofs.Words.{place_few}
use Rattle.side_finder.proofs.overlaps.bit_place.Goals as goal

pub overflow_mul-place : goal.overflow_mul-place
overflow_mul-place c =
    let few = place_few c.args.family.now c.columns.ensures.lawful c.args.cell c.requires.cell in
    let at = ap (λ (n : ℕ). c.args.cell.agent * n) c.columns.ensures.value in
    omega (arith, few.0, few.1, at)

pub overflow_add-place : goal.overflow_add-place
overflow_add-place c =
    let few = place_few c.args.family.now c.columns.ensures.lawful c.args.cell c.requires.cell in
    let at = ap (λ (n : ℕ). c.args.cell.agent * n) c.columns.ensures.value in
    omega (arith, few.0, few.1, at)

pub overflow_mul-result : goal.overflow_mul-result
overflow_mul-result c =
    let few = place_few c.args.family.now c.columns.ensures.lawful c.args.cell c.requires.cell in
    let at = ap (λ (n : ℕ). c.args.cell.agent * n) c.columns.ensures.value in
    omega (arith, few.0, few.1, at)

pub overflow_add-result : goal.overflow_add-result
overflow_add-result c =
    let few = place_few c.args.family.now c.columns.ensures.lawful c.args.cell c.requires.cell in
    let at = ap (λ (n : ℕ). c.args.cell.agent * n) c.columns.ensures.value in
    omega (arith, few.0, few.1, at, c.requires.bit)

pub returns : goal.returns
returns c =
    let few = place_few c.args.family.now c.columns.ensures.lawful c.args.cell c.requires.cell in
    let at = ap (λ (n : ℕ). c.args.cell.agent * n) c.columns.ensures.value in
    record { value = omega (arith, at); within = omega (arith, few.0, at, c.requires.bit) }
