use Rattle.std.proofs.Common.{◌+◌, ◌*◌, ◌<◌, length, refl, take, true≢false, sym, subst, arith}
use Rattle.std.specs.Prelude.{sum}
use Rattle.std.specs.Int.{◌∣◌}
use Rattle.scaled_matrix.specs.Scaling.{unit_of, units_in}
use Rattle.definitions.specs.Values.{Ratio}
use Rattle.scaled_matrix.specs.Entries.{ratio_of}
use Rattle.scaled_matrix.proofs.Denominators.{denominator_divides}
use Rattle.scaled_matrix.proofs.Lawful.{entry_known, entry_is, entry_is_share}
use Rattle.scaled_matrix.proofs.Units.{units_more, sum_more}
use Rattle.scaled_matrix.proofs.scaling.units_over.Goals as goal

pub unit_count-unit-requires-clause-limit : goal.unit_count-unit-requires-clause-limit
unit_count-unit-requires-clause-limit c =
    let k = c.loop-index.index in
    let x = c.index-entries-index.result in
    let given = c.args.shares.now in
    let fractions = c.entries-entries.result.now in
    let seen = c.entries-entries.ensures.value in
    let within : k < length fractions = omega arith in
    (entry_is_share given k (ratio_of x) c.entries-entries.ensures.lawful (entry_known fractions given.entries k seen within)
    (entry_is fractions given.entries k x seen within c.index-entries-index.is)).limit

pub unit_count-unit-requires-clause-divides : goal.unit_count-unit-requires-clause-divides
unit_count-unit-requires-clause-divides c =
    let k = c.loop-index.index in
    let x = c.index-entries-index.result in
    let given = c.args.shares.now in
    let fractions = c.entries-entries.result.now in
    let seen = c.entries-entries.ensures.value in
    let within : k < length fractions = omega arith in
    let known = entry_known fractions given.entries k seen within in
    let at = entry_is fractions given.entries k x seen within c.index-entries-index.is in
    denominator_divides c.args.denominator (ratio_of x) (entry_is_share given k (ratio_of x) c.entries-entries.ensures.lawful known at)
    (subst (λ (s : Ratio). s.den ∣ s.num * c.args.denominator) at (c.requires.least.common k (ratio_of x) known))

pub returns-then-is_over_total-clause-refused : goal.returns-then-is_over_total-clause-refused
returns-then-is_over_total-clause-refused c =
    let l = c.loop-index in
    let k = l.index in
    let x = c.index-entries-index.result in
    let entries = c.args.shares.now.entries in
    let d = c.args.denominator in
    let fractions = c.entries-entries.result.now in
    let seen = c.entries-entries.ensures.value in
    let within : k < length fractions = omega arith in
    let sums =
    sum_more d entries k (ratio_of x) (entry_known fractions entries k seen within) (entry_is fractions entries k x seen within c.index-entries-index.is) in
    record {
      denominator = d;
      least = c.requires.least;
      fits = c.requires.fits;
      k = k;
      entry = c.place_of-agent.ensures;
      before = omega (arith, l.invariant.total, l.invariant.within);
      after = omega (arith, sums, l.invariant.total, c.unit_count-unit.ensures.value, c.if-is_over_total.ensures.0 refl);
    }

pub loop-index-preserved : goal.loop-index-preserved
loop-index-preserved c =
    let l = c.loop-index in
    let k = l.index in
    let x = c.index-entries-index.result in
    let entries = c.args.shares.now.entries in
    let d = c.args.denominator in
    let fractions = c.entries-entries.result.now in
    let seen = c.entries-entries.ensures.value in
    let within : k < length fractions = omega arith in
    let known = entry_known fractions entries k seen within in
    let at = entry_is fractions entries k x seen within c.index-entries-index.is in
    let sums = sum_more d entries k (ratio_of x) known at in
    let few : 1000 * d < sum (take k (units_in d entries)) + unit_of d (ratio_of x) → ⊥ = λ more.
    true≢false (sym (c.if-is_over_total.ensures.1 (omega (arith, more, l.invariant.total, c.unit_count-unit.ensures.value)))) in
    record {
      units =
          rw c.in_ok-push.ensures.items
          (rw (l.invariant.units, c.unit_count-unit.ensures.value) (sym (units_more d entries k (ratio_of x) known at)));
      total = omega (arith, sums, l.invariant.total, c.unit_count-unit.ensures.value);
      within = omega (arith, few, l.invariant.total, c.unit_count-unit.ensures.value);
    }
