use Rattle.std.proofs.Common.{◌+◌, ◌<◌, ◌≤◌, ap, length, arith}
use Rattle.quota_sets.proofs.FamilyLemmas.{insert-next, sets-next, numbered_sets-next}
use Rattle.quota_sets.proofs.family.Family.insert.Goals as goal

pub invariant_of-self : goal.invariant_of-self
invariant_of-self c =
    let count = c.len-count.ensures.len in
    let few : length c.self.inside.sets.entries < 2000 = omega (arith, count) in
    let same = c.cells-cells.ensures.value in
    let cells : c.self.inside.total + length c.args.set.cells ≤ 1201000 = (let size = ap length same in omega (arith, size)) in
    rw (c.in-Ok.ensures.entries, count, insert-next c.self.inside.sets.entries c.args.set c.self.invariant.numbered, same)
    (numbered_sets-next c.self.inside.agents c.self.inside.columns c.self.inside.total c.self.inside.sets.entries c.args.set
    c.self.invariant c.cells-cells.ensures.lawful (rw (← c.self.view_is) at c.requires) few cells)

pub returns-in-Ok-clause-added : goal.returns-in-Ok-clause-added
returns-in-Ok-clause-added c =
    let count = c.len-count.ensures.len in
    rw (
      ← c.self.view_is,
      c.in-Ok.ensures.entries,
      count,
      insert-next c.self.inside.sets.entries c.args.set c.self.invariant.numbered,
      sets-next c.self.inside.sets.entries (length c.self.inside.sets.entries + 1) c.args.set,
    )

pub returns-in-Ok-clause-lawful : goal.returns-in-Ok-clause-lawful
returns-in-Ok-clause-lawful c = (invariant_of-self c).lawful
