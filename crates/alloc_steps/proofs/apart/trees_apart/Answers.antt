use Rattle.std.proofs.Common.{All, subst}
use Rattle.alloc_input.proofs.KnownSides.{IsKnownSide}
use Rattle.alloc_readings.proofs.TreesLemmas.{apart_has_no_pair}
use Rattle.alloc_steps.proofs.apart.trees_apart.Goals as goal
use Rattle.bihierarchy.specs.Crossing.{IsCrossingFault}

pub unreachable-requires : goal.unreachable-requires
unreachable-requires c =
    let known : All IsKnownSide c.args.family.now.sets = λ k d h. (c.requires.lawful.lawful k d h).side in
    apart_has_no_pair c.args.family.now known c.in-Err-Crossing.field-0-0 c.in-Err-Crossing.field-0-1 c.requires.apart
    (subst (IsCrossingFault c.args.family.now) c.in-Err-Crossing.field-0-is c.in-Err-Crossing.ensures.crossing)
