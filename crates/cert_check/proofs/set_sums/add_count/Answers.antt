use Rattle.std.proofs.Common.{ℕ, ◌<◌, ◌^◌, length, get_or, slice_index, arith, refl}
use Rattle.cert_check.proofs.Added.{added, fits}
use Rattle.cert_check.proofs.set_sums.add_count.Goals as goal

pub overflow_add-sums : goal.overflow_add-sums
overflow_add-sums c =
    let inside : get_or c.args.indices.now c.loop-i.i 0 < length c.args.sums.now = c.requires.known c.loop-i.i 0 c.loop-i-test.true in
    let room = fits (λ (m : ℕ). m) (λ (m : ℕ). c.args.count) c.args.indices.now c.loop-i.i (get_or c.args.indices.now c.loop-i.i 0) c.args.count 0 c.loop-i-test.true refl refl (slice_index c.args.sums.now (get_or c.args.indices.now c.loop-i.i 0)) (2 ^ 64) (c.requires.room (get_or c.args.indices.now c.loop-i.i 0) inside) in
    omega (arith, room, c.loop-i.invariant (get_or c.args.indices.now c.loop-i.i 0) inside)

pub loop-i-preserved : goal.loop-i-preserved
loop-i-preserved c = λ s l.
    added (λ (m : ℕ). m) (λ (m : ℕ). c.args.count) c.args.indices.now c.loop-i.i (get_or c.args.indices.now c.loop-i.i 0) c.args.count 0 c.loop-i-test.true refl refl c.loop-i.sums s (slice_index c.args.sums.now s) (omega (arith, l, c.loop-i.auto.sums)) (c.loop-i.invariant s l)
