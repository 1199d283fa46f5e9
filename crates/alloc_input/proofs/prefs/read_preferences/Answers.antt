use Rattle.std.proofs.Common.{◌≡◌, ◌∙◌, ◌<◌, ◌≤◌, refl, arith, length, [], take}
use Rattle.std.proofs.lemmas.List.{take_all, take_more}
use Rattle.std.proofs.lemmas.Result.{err_from_is_err_and}
use Rattle.definitions.proofs.FirstFaults.{fault-next, fault-here, fault-end, number-here}
use Rattle.alloc_input.specs.Prefs.{filled_rows, check_record, check_end}
use Rattle.alloc_input.proofs.Stops.{refused-here}
use Rattle.alloc_input.proofs.LawfulLists.{preferences-lawful}
use Rattle.alloc_input.proofs.Stamps.{no-stamps, written}
use Rattle.alloc_input.proofs.prefs.read_preferences.Goals as goal

pub loop-i-init : goal.loop-i-init
unfolding filled_rows
loop-i-init c = record {
  lawful = refl;
  after = (refl, c.new.ensures, rw c.new-2.ensures.items refl);
  stamps = rw (c.new.ensures, c.in_ok-stamps.ensures.items_if_clones_equal (λ _ e. e), c.len.ensures.value) (no-stamps (length c.args.objects.now));
}

pub returns-in-Err-clause-exact : goal.returns-in-Err-clause-exact
returns-in-Err-clause-exact c =
    let inv = c.loop-i.invariant in
    let lt : c.loop-i.i < length c.args.rows.now = omega (arith, c.len-i-end.ensures) in
    let t = rw c.at.ensures at (c.in-Err.ensures.taken (take c.loop-i.i c.args.rows.now) inv.after) in
    refused-here _ _ _ _ _ _ (λ k e. inv.lawful ∙ fault-here (check_record c.args.objects.now) check_end c.args.rows.now c.loop-i.i [] k lt e ∙ rw (number-here c.args.rows.now c.loop-i.i lt) refl) t c.refused.ensures

pub loop-i-preserved : goal.loop-i-preserved
loop-i-preserved c =
    let inv = c.loop-i.invariant in
    let lt : c.loop-i.i < length c.args.rows.now = omega (arith, c.len-i-end.ensures) in
    let t = rw c.at.ensures at (c.in_default.ensures.taken (take c.loop-i.i c.args.rows.now) inv.after) in
    record {
      lawful = inv.lawful ∙ fault-next (check_record c.args.objects.now) check_end c.args.rows.now c.loop-i.i [] lt t.0;
      after = rw (take_more c.args.rows.now c.loop-i.i [] lt) t.1;
      stamps = (let stamps = c.in_default.ensures.stamps in
          let wide : c.loop-i.stamps.len ≡ length c.take_record.new.stamps = omega (arith, stamps.wide, inv.stamps.wide, c.loop-i.stamps.ok.0) in
          rw (written c.loop-i.stamps.len c.take_record.new.stamps _ wide) stamps);
    }

pub check_ending-requires : goal.check_ending-requires
check_ending-requires c =
    let inv = c.loop-i.invariant in
    let le : length c.args.rows.now ≤ c.loop-i.i = omega (arith, c.len-i-end.ensures) in
    let after = rw (take_all c.loop-i.i c.args.rows.now le) at inv.after in
    record { header = after.0; agents = after.1 }

pub returns-in_err-check_ending-clause-exact : goal.returns-in_err-check_ending-clause-exact
returns-in_err-check_ending-clause-exact c =
    let le : length c.args.rows.now ≤ c.loop-i.i = omega (arith, c.len-i-end.ensures) in
    let ends = c.loop-i.invariant.lawful ∙ fault-end (check_record c.args.objects.now) check_end c.args.rows.now c.loop-i.i le in
    let p = err_from_is_err_and c.from_residual-in_err-check_ending.result c.from_residual-in_err-check_ending.ensures.1 in
    rw (p.1, p.2, ends) c.in_err-check_ending.ensures

pub returns-clause-exact : goal.returns-clause-exact
returns-clause-exact c =
    let inv = c.loop-i.invariant in
    let le : length c.args.rows.now ≤ c.loop-i.i = omega (arith, c.len-i-end.ensures) in
    let after = rw (take_all c.loop-i.i c.args.rows.now le) at inv.after in
    record {
      lawful = inv.lawful ∙ fault-end (check_record c.args.objects.now) check_end c.args.rows.now c.loop-i.i le ∙ rw c.in_ok-check_ending.ensures refl;
      agents_read = after.1;
      lists_read = after.2;
    }

pub returns-clause-lawful : goal.returns-clause-lawful
returns-clause-lawful c =
    let inv = c.loop-i.invariant in
    let le : length c.args.rows.now ≤ c.loop-i.i = omega (arith, c.len-i-end.ensures) in
    let after = rw (take_all c.loop-i.i c.args.rows.now le) at inv.after in
    let none = inv.lawful ∙ fault-end (check_record c.args.objects.now) check_end c.args.rows.now c.loop-i.i le ∙ rw c.in_ok-check_ending.ensures refl in
    rw (after.1, after.2) (preferences-lawful c.args.objects.now c.args.rows.now none)
