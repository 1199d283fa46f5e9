use Rattle.std.proofs.Common.{◌∙◌, ◌<◌, ◌≤◌, refl, ap, arith, length, [], None}
use Rattle.std.proofs.lemmas.List.{take_all}
use Rattle.definitions.proofs.FirstFaults.{fault-next, fault-here, fault-end, number-here}
use Rattle.alloc_input.specs.Stated.{setting_of, stated_from, nothing_of}
use Rattle.alloc_input.specs.Quotas.{check_record}
use Rattle.alloc_input.proofs.Reading.{stated_next}
use Rattle.alloc_input.proofs.Stops.{refused-here}
use Rattle.alloc_input.proofs.quotas.records.read_quota_records.Goals as goal

pub loop-i-init : goal.loop-i-init
unfolding stated_from
loop-i-init c = (refl, c.in_ok-state.ensures.stated ∙ ap (λ n. nothing_of n) c.len.ensures.value, c.in_ok-state.ensures.sound _ _)

pub returns-in-Err-clause-reads : goal.returns-in-Err-clause-reads
unfolding check_record
returns-in-Err-clause-reads c =
    let g = setting_of c.args.agents.now c.args.objects.now c.is_solve-solve.result in
    let inv = c.loop-i.invariant in
    let lt : c.loop-i.i < length c.args.rows.now = omega (arith, c.len-i-end.ensures) in
    let t = rw (inv.1, c.at.ensures) at c.in-Err.ensures.checked in
    let told = refused-here _ _ _ _ _ _ (λ k e. inv.0 ∙ fault-here (check_record g) (λ _. None) c.args.rows.now c.loop-i.i [] k lt e ∙ rw (number-here c.args.rows.now c.loop-i.i lt) refl) t c.refused.ensures in
    rw (← c.is_solve-solve.ensures) told

pub loop-i-preserved : goal.loop-i-preserved
unfolding check_record
loop-i-preserved c =
    let g = setting_of c.args.agents.now c.args.objects.now c.is_solve-solve.result in
    let inv = c.loop-i.invariant in
    let lt : c.loop-i.i < length c.args.rows.now = omega (arith, c.len-i-end.ensures) in
    let told = c.in_default.ensures in
    let passed = rw (inv.1, c.at.ensures) at told.checked.0 in (
      inv.0 ∙ fault-next (check_record g) (λ _. None) c.args.rows.now c.loop-i.i [] lt passed,
      stated_next g c.args.rows.now c.loop-i.i _ _ _ lt c.at.ensures inv.1 told.checked.1,
      told.sound,
    )

pub returns-clause-reads : goal.returns-clause-reads
returns-clause-reads c =
    let g = setting_of c.args.agents.now c.args.objects.now c.is_solve-solve.result in
    let inv = c.loop-i.invariant in
    let le : length c.args.rows.now ≤ c.loop-i.i = omega (arith, c.len-i-end.ensures) in
    rw (← c.is_solve-solve.ensures) (inv.0 ∙ fault-end (check_record g) (λ _. None) c.args.rows.now c.loop-i.i le, inv.1 ∙ rw (take_all c.loop-i.i c.args.rows.now le) refl)
