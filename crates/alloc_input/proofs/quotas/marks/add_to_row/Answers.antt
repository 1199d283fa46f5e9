use Rattle.std.proofs.Common.{◌≡◌, arith, length}
use Rattle.alloc_input.proofs.NumberFacts.{full-adds, added-below}
use Rattle.alloc_input.proofs.quotas.marks.add_to_row.Goals as goal

pub returns-then-before-below-clause-adds : goal.returns-then-before-below-clause-adds
returns-then-before-below-clause-adds c =
    let full : length c.args.row.now ≡ c.args.below = omega (arith, c.len-before.ensures.count) in
    full-adds c.args.below c.args.columns.now c.args.row.now c.requires.below full

pub returns-clause-below : goal.returns-clause-below
returns-clause-below c = added-below c.args.below c.args.columns.now c.args.row.now c.add.new.self c.requires.below c.in_ok-add.ensures c.len.ensures.rising
