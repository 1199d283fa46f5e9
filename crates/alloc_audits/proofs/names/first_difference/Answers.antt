use Rattle.std.proofs.Common.{◌≡◌, ◌<◌, length, sym, ◌∙◌, None, arith, ◌+◌}
use Rattle.definitions.proofs.FirstFaults.{first-passes, first-found}
use Rattle.alloc_audits.specs.NameFaults.{name_look}
use Rattle.alloc_audits.proofs.names.first_difference.Goals as goal

pub returns-in-Some : goal.returns-in-Some
returns-in-Some c =
    let within : c.loop-place.place < (length c.args.due.now + 1) = omega arith in
    sym (first-found (name_look c.args.due.now c.args.found.now) c.loop-place.place (length c.args.due.now + 1) c.in-Some.number within (sym c.in-Some.ensures)) ∙ c.loop-place.invariant

pub loop-place-preserved : goal.loop-place-preserved
loop-place-preserved c =
    let none : name_look c.args.due.now c.args.found.now c.loop-place.place ≡ None = sym c.difference_at.ensures ∙ c.in_default.is in
    let within : c.loop-place.place < (length c.args.due.now + 1) = omega arith in
    sym (first-passes (name_look c.args.due.now c.args.found.now) c.loop-place.place (length c.args.due.now + 1) within none) ∙ c.loop-place.invariant
