use Rattle.std.proofs.Common.{◌∙◌, ◌*◌, ◌<◌, ◌≤◌, sym, refl, subst, arith, length, [], take}
use Rattle.std.proofs.lemmas.List.{take_all, take_more}
use Rattle.std.proofs.lemmas.List.Elements.{All-nil}
use Rattle.std.proofs.lemmas.Result.{err_from_is_err_and}
use Rattle.frac128.specs.declared.fractions.Fraction.{Fraction}
use Rattle.frac128.specs.Fraction.{numerator, denominator}
use Rattle.definitions.specs.Values.{SharesValue}
use Rattle.definitions.proofs.FirstFaults.{fault-next, fault-here, fault-end, number-here}
use Rattle.alloc_input.specs.Matrices.{IsMatrix, ReadsAsMatrix, check_matrix}
use Rattle.alloc_input.specs.Prefs.{check_end}
use Rattle.alloc_input.proofs.LawfulMatrices.{matrix-is-lawful}
use Rattle.alloc_input.proofs.MatrixRecords.{length-entries, nothing-stated}
use Rattle.alloc_input.proofs.Stops.{refused-here}
use Rattle.alloc_input.proofs.matrix.read_matrix_records.Goals as goal

pub loop-i-init : goal.loop-i-init
loop-i-init c = record {
  lawful = refl;
  after = nothing-stated (record { header = _; objects = _; agents = _; entries = _ }) refl c.new.ensures c.new-2.ensures c.new-3.ensures.items;
  limited = rw c.new-3.ensures.items (All-nil (λ (x : Fraction). numerator x ≤ 1000 * denominator x));
}

pub returns-in-Err-clause-exact : goal.returns-in-Err-clause-exact
returns-in-Err-clause-exact c =
    let inv = c.loop-i.invariant in
    let lt : c.loop-i.i < length c.args.rows.now = omega (arith, c.len-i-end.ensures) in
    let t = rw c.at.ensures at (c.in-Err.ensures.taken (take c.loop-i.i c.args.rows.now) inv.after) in
    refused-here _ _ _ _ _ _ (λ k e. inv.lawful ∙ fault-here check_matrix check_end c.args.rows.now c.loop-i.i [] k lt e ∙ rw (number-here c.args.rows.now c.loop-i.i lt) refl) t c.refused.ensures

pub loop-i-preserved : goal.loop-i-preserved
loop-i-preserved c =
    let inv = c.loop-i.invariant in
    let lt : c.loop-i.i < length c.args.rows.now = omega (arith, c.len-i-end.ensures) in
    let t = rw c.at.ensures at (c.in_default.ensures.taken (take c.loop-i.i c.args.rows.now) inv.after) in
    record {
      lawful = inv.lawful ∙ fault-next check_matrix check_end c.args.rows.now c.loop-i.i [] lt t.0;
      after = rw (take_more c.args.rows.now c.loop-i.i [] lt) t.1;
      limited = c.in_default.ensures.limited;
    }

pub check_ending-requires : goal.check_ending-requires
check_ending-requires c =
    let inv = c.loop-i.invariant in
    let le : length c.args.rows.now ≤ c.loop-i.i = omega (arith, c.len-i-end.ensures) in
    let after = rw (take_all c.loop-i.i c.args.rows.now le) at inv.after in
    record { header = after.header; agents = after.agents }

pub returns-in_err-check_ending-clause-exact : goal.returns-in_err-check_ending-clause-exact
returns-in_err-check_ending-clause-exact c =
    let le : length c.args.rows.now ≤ c.loop-i.i = omega (arith, c.len-i-end.ensures) in
    let ends = c.loop-i.invariant.lawful ∙ fault-end check_matrix check_end c.args.rows.now c.loop-i.i le in
    let p = err_from_is_err_and c.from_residual.result c.from_residual.ensures.1 in
    rw (p.1, p.2, ends) c.in_err-check_ending.ensures

pub new-requires-4-clause-shape : goal.new-requires-4-clause-shape
new-requires-4-clause-shape c = length-entries (take c.loop-i.i c.args.rows.now) c.loop-i.state c.loop-i.invariant.after

pub returns-clause-exact : goal.returns-clause-exact
returns-clause-exact c =
    let inv = c.loop-i.invariant in
    let le : length c.args.rows.now ≤ c.loop-i.i = omega (arith, c.len-i-end.ensures) in
    let after = rw (take_all c.loop-i.i c.args.rows.now le) at inv.after in
    let P : SharesValue → Type 0 = λ m. ReadsAsMatrix c.args.rows.now m in
    subst P (sym c.new-4.ensures) (record {
      lawful = inv.lawful ∙ fault-end check_matrix check_end c.args.rows.now c.loop-i.i le ∙ rw c.in_ok-check_ending.ensures refl;
      agents_read = after.agents;
      objects_read = after.objects;
      entries_read = after.entries;
    })

pub returns-clause-lawful : goal.returns-clause-lawful
returns-clause-lawful c =
    let inv = c.loop-i.invariant in
    let le : length c.args.rows.now ≤ c.loop-i.i = omega (arith, c.len-i-end.ensures) in
    let after = rw (take_all c.loop-i.i c.args.rows.now le) at inv.after in
    let none = inv.lawful ∙ fault-end check_matrix check_end c.args.rows.now c.loop-i.i le ∙ rw c.in_ok-check_ending.ensures refl in
    subst IsMatrix (sym c.new-4.ensures)
    (matrix-is-lawful c.args.rows.now c.loop-i.state none after inv.limited c.len-agent_count.ensures.lawful c.len-object_count.ensures.lawful)
