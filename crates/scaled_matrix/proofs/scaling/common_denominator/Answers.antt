use Rattle.std.proofs.Common.{ℕ, ◌<◌, length, subst, arith}
use Rattle.frac128.specs.Lcm.{IsLcm}
use Rattle.scaled_matrix.specs.Entries.{ratio_of}
use Rattle.scaled_matrix.proofs.Denominators.{least_none, least_more}
use Rattle.scaled_matrix.proofs.Lawful.{entry_known, entry_is, entry_is_share}
use Rattle.scaled_matrix.proofs.scaling.common_denominator.Goals as goal

pub loop-index-init : goal.loop-index-init
loop-index-init c = record { least = least_none; fits = omega arith }

pub returns-in-Err-clause-refused : goal.returns-in-Err-clause-refused
returns-in-Err-clause-refused c =
    let l = c.loop-index in
    let x = c.index-entries-index.result in
    let given = c.args.shares.now in
    let entries = given.entries in
    let fractions = c.entries-entries.result.now in
    let seen = c.entries-entries.ensures.value in
    let within : l.index < length fractions = omega arith in
    let known = entry_known fractions entries l.index seen within in
    let at = entry_is fractions entries l.index x seen within c.index-entries-index.is in
    let share = entry_is_share given l.index (ratio_of x) c.entries-entries.ensures.lawful known at in
    let e = c.in-Err.ensures.beyond in
    record {
      k = l.index;
      entry = c.place_of-agent.ensures;
      before = l.multiple;
      before_least = l.invariant.least;
      before_fits = l.invariant.fits;
      after = e.multiple;
      after_least =
          least_more entries l.index (ratio_of x) l.multiple e.multiple known at share l.invariant.least
          (subst (λ (n : ℕ). IsLcm l.multiple n e.multiple) c.den.ensures e.least);
      after_passes = e.above;
      carried = e.held;
    }

pub loop-index-preserved : goal.loop-index-preserved
loop-index-preserved c =
    let l = c.loop-index in
    let x = c.index-entries-index.result in
    let given = c.args.shares.now in
    let entries = given.entries in
    let fractions = c.entries-entries.result.now in
    let seen = c.entries-entries.ensures.value in
    let within : l.index < length fractions = omega arith in
    let known = entry_known fractions entries l.index seen within in
    let at = entry_is fractions entries l.index x seen within c.index-entries-index.is in
    let share = entry_is_share given l.index (ratio_of x) c.entries-entries.ensures.lawful known at in
    let h = c.in-Ok.ensures.within in
    record {
      least =
          least_more entries l.index (ratio_of x) l.multiple c.in-Ok.next known at share l.invariant.least
          (subst (λ (n : ℕ). IsLcm l.multiple n c.in-Ok.next) c.den.ensures h.0);
      fits = h.1;
    }
