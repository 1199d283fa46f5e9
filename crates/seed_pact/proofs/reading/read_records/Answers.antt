use Rattle.std.proofs.Common.{◌∙◌, ◌<◌, ◌≤◌, sym, refl, arith, length, [], take}
use Rattle.std.proofs.lemmas.List.{take_all, take_more}
use Rattle.definitions.proofs.FirstFaults.{fault-next, fault-here, fault-end, fault-at-end, number-here}
use Rattle.seed_pact.specs.Checks.{check_record, check_end}
use Rattle.seed_pact.specs.Said.{said_by}
use Rattle.seed_pact.specs.Reading.{held}
use Rattle.seed_pact.proofs.RecordFacts.{said-more, refused-here, pact-is}
use Rattle.seed_pact.proofs.reading.read_records.Goals as goal

pub returns-in-Err : goal.returns-in-Err
unfolding check_record
returns-in-Err c =
    let inv = c.loop-i.invariant in
    let lt : c.loop-i.i < length c.args.rows.now = omega (arith, c.len-i-end.ensures) in
    let t = rw (c.at.ensures, inv.1) at c.in-Err.ensures in
    refused-here _ _ _ _ _ (λ k e. inv.0 ∙ fault-here check_record check_end c.args.rows.now c.loop-i.i [] k lt e ∙ rw (number-here c.args.rows.now c.loop-i.i lt) refl) t c.refused.ensures

pub loop-i-preserved : goal.loop-i-preserved
unfolding check_record
loop-i-preserved c =
    let inv = c.loop-i.invariant in
    let lt : c.loop-i.i < length c.args.rows.now = omega (arith, c.len-i-end.ensures) in
    let t = rw (c.at.ensures, inv.1) at c.in_default.ensures in
    (inv.0 ∙ fault-next check_record check_end c.args.rows.now c.loop-i.i [] lt t.0, t.1 ∙ rw (take_more c.args.rows.now c.loop-i.i [] lt) (sym (said-more (take c.loop-i.i c.args.rows.now) _)))

pub returns-in-Ok : goal.returns-in-Ok
unfolding check_end held
returns-in-Ok c =
    let inv = c.loop-i.invariant in
    let le : length c.args.rows.now ≤ c.loop-i.i = omega (arith, c.len-i-end.ensures) in
    let all = rw (take_all c.loop-i.i c.args.rows.now le) at inv.1 in
    let whole = rw all at c.in-Ok.ensures.0 in
    (inv.0 ∙ fault-end check_record check_end c.args.rows.now c.loop-i.i le ∙ rw whole refl, pact-is (held c.loop-i.state) (said_by c.args.rows.now) _ _ all c.into_names.ensures c.in-Ok.ensures.1)

pub returns-in-Err-contributions_of : goal.returns-in-Err-contributions_of
unfolding check_end
returns-in-Err-contributions_of c =
    let inv = c.loop-i.invariant in
    let le : length c.args.rows.now ≤ c.loop-i.i = omega (arith, c.len-i-end.ensures) in
    let all = rw (take_all c.loop-i.i c.args.rows.now le) at inv.1 in
    let whole = rw all at c.in-Err-contributions_of.ensures in
    refused-here _ _ _ _ _ (λ k e. inv.0 ∙ fault-at-end check_record check_end c.args.rows.now c.loop-i.i c.next_number.result k le c.next_number.ensures e) whole c.refused-in-Err-contributions_of.ensures
