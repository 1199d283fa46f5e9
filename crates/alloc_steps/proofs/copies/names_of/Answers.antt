use Rattle.std.proofs.Common.{arith}
use Rattle.alloc_steps.proofs.CopiesLemmas.{next_is_fresh}
use Rattle.alloc_steps.proofs.copies.names_of.Goals as goal

pub add_copy-requires-clause-fresh : goal.add_copy-requires-clause-fresh
add_copy-requires-clause-fresh c =
    rw (c.loop-place.invariant, c.name_at.ensures) (next_is_fresh c.args.names.now c.loop-place.place c.len-place-end.ensures.lawful.distinct (omega arith))
