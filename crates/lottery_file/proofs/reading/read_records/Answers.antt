use Rattle.std.proofs.Common.{◌≡◌, ◌∙◌, ◌+◌, ◌-◌, ◌≤◌, [], Ok, true, false, ap, arith, drop, length, refl, rules, subst, sym, take, suc}
use Rattle.std.proofs.lemmas.List.{take_all, take_more}
use Rattle.definitions.specs.Firsts.{fault_after}
use Rattle.lottery_file.specs.Said.{said_by, said_from, nothing}
use Rattle.lottery_file.specs.Checks.{check_record, check_end, fault_of}
use Rattle.lottery_file.specs.Reading.{held}
use Rattle.definitions.proofs.FirstFaults.{fault-next, fault-here, fault-end, fault-at-end, number-here}
use Rattle.lottery_file.proofs.FieldFacts.{refused-here}
use Rattle.lottery_file.proofs.RecordFacts.{said_from-more, ended, not-ended}
use Rattle.lottery_file.proofs.RecordsLeft.{left-next, left-none}
use Rattle.lottery_file.proofs.reading.read_records.Goals as goal

pub loop-row-init : goal.loop-row-init
unfolding said_from
loop-row-init c = (refl, c.start-state.ensures, refl, omega arith, omega arith)

pub returns-in-Err : goal.returns-in-Err
unfolding check_record
returns-in-Err c =
    let inv = c.loop-row.invariant in
    let n = c.loop-row.record_no - 1 in
    let found : c.read.result ≡ Ok true = search rules in
    let here = left-next c.args.reader.now n c.read.new.row c.read.new.self [] (inv.2 ∙ c.read.ensures.more found) in
    let t = rw (sym here.1, inv.1) at c.in-Err.ensures in
    refused-here _ _ _ _ _ (λ k e. inv.0 ∙ fault-here check_record check_end c.args.reader.now n [] k here.0 e ∙ rw (number-here c.args.reader.now n here.0) (let m : n + 1 ≡ c.loop-row.record_no = omega (arith, inv.3) in rw m refl)) t c.refused.ensures

pub overflow_add-record_no : goal.overflow_add-record_no
overflow_add-record_no c =
    let inv = c.loop-row.invariant in
    let n = c.loop-row.record_no - 1 in
    let found : c.read.result ≡ Ok true = search rules in
    let here = left-next c.args.reader.now n c.read.new.row c.read.new.self [] (inv.2 ∙ c.read.ensures.more found) in
    omega (arith, here.0, inv.3, c.requires)

pub loop-row-smaller : goal.loop-row-smaller
loop-row-smaller c =
    let found : c.read.result ≡ Ok true = search rules in
    let more = ap length (c.read.ensures.more found) in
    omega (arith, more)

pub loop-row-preserved : goal.loop-row-preserved
unfolding check_record
loop-row-preserved c =
    let inv = c.loop-row.invariant in
    let rows = c.args.reader.now in
    let n = c.loop-row.record_no - 1 in
    let found : c.read.result ≡ Ok true = search rules in
    let here = left-next rows n c.read.new.row c.read.new.self [] (inv.2 ∙ c.read.ensures.more found) in
    let t = rw (sym here.1, inv.1) at c.in_default.ensures in
    let same : suc n ≡ n + 1 = omega arith in
    let next : n + 1 ≡ c.loop-row.record_no + 1 - 1 = omega (arith, inv.3) in
    subst (λ k. (fault_of c.args.reader.now ≡ fault_after check_record check_end (take k c.args.reader.now) (drop k c.args.reader.now))
    × (held c.take_record.new.state ≡ said_by (take k c.args.reader.now)) × (drop k c.args.reader.now ≡ c.read.new.self) × (1 ≤ c.loop-row.record_no + 1) × (c.loop-row.record_no + 1 ≤ length c.args.reader.now + 1))
    next (
      inv.0 ∙ fault-next check_record check_end rows n [] here.0 t.0,
      t.1 ∙ rw (take_more rows n [] here.0) (sym (said_from-more nothing (take n rows) _)),
      rw same at here.2,
      omega arith,
      omega (arith, here.0, inv.3),
    )

pub returns-then-is_ended : goal.returns-then-is_ended
unfolding held
returns-then-is_ended c =
    let inv = c.loop-row.invariant in
    let n = c.loop-row.record_no - 1 in
    let found : c.read.result ≡ Ok false = search rules in
    let le = left-none c.args.reader.now n (inv.2 ∙ c.read.ensures.end found) in
    let all = rw (take_all n c.args.reader.now le) at inv.1 in
    let lawful = ended (held c.loop-row.state) c.args.reader.now all (sym c.is_ended.ensures ∙ c.if-is_ended.true) in
    (inv.0 ∙ fault-end check_record check_end c.args.reader.now n le ∙ rw lawful refl, all)

pub returns : goal.returns
unfolding held
returns c =
    let inv = c.loop-row.invariant in
    let n = c.loop-row.record_no - 1 in
    let found : c.read.result ≡ Ok false = search rules in
    let le = left-none c.args.reader.now n (inv.2 ∙ c.read.ensures.end found) in
    let all = rw (take_all n c.args.reader.now le) at inv.1 in
    let cut = not-ended (held c.loop-row.state) c.args.reader.now all (sym c.is_ended.ensures ∙ c.if-is_ended.false) in
    inv.0 ∙ fault-at-end check_record check_end c.args.reader.now n c.loop-row.record_no _ le (omega (arith, le, inv.3, inv.4)) cut
