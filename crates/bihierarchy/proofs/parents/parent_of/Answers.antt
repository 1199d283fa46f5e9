use Rattle.std.proofs.Common.{refl}
use Rattle.definitions.specs.Hierarchies.{IsAbove}
use Rattle.bihierarchy.proofs.Least.{least_same, least_passed, least_failed}
use Rattle.bihierarchy.proofs.parents.parent_of.Goals as goal
use Rattle.bihierarchy.proofs.parents.parent_of.Goals.{then-is_least+then-is_above, else-is_least, else-is_least-via-then-is_least+else-is_above, else-is_least-via-else-is_least}

pub loop-upper-preserved : goal.loop-upper-preserved
loop-upper-preserved c =
    let f = c.args.family.now in
    let P = IsAbove f c.args.set in
    let n = c.loop-upper.upper in
    let o = c.loop-upper.parent in
    let r = c.is_least.result in
    elim c.if-is_least.branch [
      | then-is_least+then-is_above w ↦ rw w.parent-is (least_passed f P n o r w.if-is_least.true c.is_least.ensures (w.if-is_above.ensures.0 refl) c.loop-upper.invariant)
      | else-is_least w ↦ rw w.parent-is (elim w.else-is_least.branch [
        | else-is_least-via-then-is_least+else-is_above v ↦ least_same f P n o (λ h. let e = v.if-is_above.ensures.1 h in cc e) c.loop-upper.invariant
        | else-is_least-via-else-is_least v ↦ least_failed f P n o r v.if-is_least.false c.is_least.ensures c.loop-upper.invariant
      ])
    ]
