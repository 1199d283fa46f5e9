use Rattle.std.proofs.Common.{◌≡◌, ℕ, ◌+◌, ◌-◌, ◌/◌, [], ◌∷◌, length-append, ap, ◌∙◌, arith}
use Rattle.definitions.specs.Sets.{set_sum, units_of}
use Rattle.cert_check.specs.HolderTables.{no_bounds}
use Rattle.cert_check.specs.PieceFaults.{cells_in_set}
use Rattle.cert_check.specs.declared.set_sums.Bounds.{Bounds}
use Rattle.cert_check.proofs.PieceCounts.{set_cells_are, set_units_small}
use Rattle.cert_check.proofs.GivenSets.{each_pushed}
use Rattle.cert_check.proofs.set_sums.bounds_of.Goals as goal

pub overflow_add-high : goal.overflow_add-high
overflow_add-high c =
    let small = set_units_small c.args.family.now c.args.x.now c.loop-index.index c.sum-units.result c.requires.given.family c.requires.given.lawful (omega arith) c.sum-units.ensures.value in
    omega (arith, small, c.denominator-d.ensures.value)

pub loop-index-preserved : goal.loop-index-preserved
loop-index-preserved c =
    let units : c.sum-units.result ≡ set_sum (units_of c.args.x.now) (cells_in_set c.args.family.now c.loop-index.index) =
    c.sum-units.ensures.value ∙ ap (set_sum (units_of c.args.x.now)) (set_cells_are c.args.family.now c.loop-index.index (omega arith)) in
    rw c.in_ok-push.ensures.items (record {
      many = omega (arith, length-append c.loop-index.list.items (record { low = c.sum-units.result / c.denominator-d.result; high = (c.sum-units.result + c.denominator-d.result - 1) / c.denominator-d.result } ∷ []), c.loop-index.invariant.many);
      low = each_pushed (λ (s : ℕ) (b : Bounds). b.low ≡ set_sum (units_of c.args.x.now) (cells_in_set c.args.family.now s) / c.args.x.now.denominator) c.loop-index.list.items _ c.loop-index.index no_bounds c.loop-index.invariant.many c.loop-index.invariant.low
          (ap (λ n. n / c.denominator-d.result) units ∙ ap (λ n. set_sum (units_of c.args.x.now) (cells_in_set c.args.family.now c.loop-index.index) / n) c.denominator-d.ensures.value);
      high = each_pushed (λ (s : ℕ) (b : Bounds). b.high ≡ (set_sum (units_of c.args.x.now) (cells_in_set c.args.family.now s) + c.args.x.now.denominator - 1) / c.args.x.now.denominator) c.loop-index.list.items _ c.loop-index.index no_bounds c.loop-index.invariant.many c.loop-index.invariant.high
          (ap (λ n. (n + c.denominator-d.result - 1) / c.denominator-d.result) units ∙ ap (λ n. (set_sum (units_of c.args.x.now) (cells_in_set c.args.family.now c.loop-index.index) + n - 1) / n) c.denominator-d.ensures.value);
    })
