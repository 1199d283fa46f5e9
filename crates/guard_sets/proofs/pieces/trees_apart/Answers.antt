use Rattle.std.proofs.Common.{subst}
use Rattle.bihierarchy.specs.Crossing.{IsCrossingFault}
use Rattle.guard_sets.proofs.Near.{apart_has_no_pair}
use Rattle.guard_sets.proofs.pieces.trees_apart.Goals as goal

pub unreachable-requires : goal.unreachable-requires
unreachable-requires c =
    apart_has_no_pair c.args.family.now c.in-Err-Crossing.field-0-0 c.in-Err-Crossing.field-0-1 c.len-sets.ensures.lawful.lawful c.requires
    (subst (IsCrossingFault c.args.family.now) c.in-Err-Crossing.field-0-is c.in-Err-Crossing.ensures.crossing)
