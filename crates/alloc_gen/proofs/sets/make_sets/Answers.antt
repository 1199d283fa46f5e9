use Rattle.std.proofs.Common.{◌≡◌, ◌≤◌, ◌*◌, refl, arith}
use Rattle.std.proofs.lemmas.Nat.{mul-le}
use Rattle.alloc_gen.specs.MadeSets.{half_ceiling, made_sets}
use Rattle.alloc_gen.proofs.PartsInOrder.{cells_in-parts, length-parts}
use Rattle.alloc_gen.proofs.sets.make_sets.Goals as goal

pub add_parts-requires-2-clause-sets : goal.add_parts-requires-2-clause-sets
add_parts-requires-2-clause-sets c =
    let many = length-parts c.args.agents 1 c.div_ceil-share.result c.args.objects in
    rw (c.in_ok-add_parts.ensures, c.new-family.ensures) (omega (arith, many))

pub add_parts-requires-2-clause-cells : goal.add_parts-requires-2-clause-cells
add_parts-requires-2-clause-cells c =
    let many = cells_in-parts c.args.agents 1 c.div_ceil-share.result c.args.objects in
    let whole : c.args.objects * c.args.agents ≤ 200 * 1000 = mul-le c.args.objects c.args.agents 200 1000 (omega arith) (omega arith) in
    let half : c.args.objects * c.div_ceil-every_second.result ≤ 200 * 1000 = mul-le c.args.objects c.div_ceil-every_second.result 200 1000 (omega arith) (omega arith) in
    rw (c.in_ok-add_parts.ensures, c.new-family.ensures) (omega (arith, many, whole, half))

pub returns : goal.returns
unfolding made_sets
returns c =
    let half : c.max-half.result ≡ half_ceiling c.args.agents c.args.objects = omega arith in
    rw (c.in_ok-add_parts-2.ensures, c.in_ok-add_parts.ensures, c.new-family.ensures, half, c.div_ceil-share.ensures, c.div_ceil-every_second.ensures) refl
