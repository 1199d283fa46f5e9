use Rattle.std.proofs.Common.{◌≡◌, ◌*◌, ◌^◌, get_or, slice_index, ap, arith, refl}
use Rattle.definitions.specs.declared.Give.{Give}
use Rattle.cert_check.specs.HolderTables.{give_place}
use Rattle.cert_check.specs.TotalTables.{place_at}
use Rattle.cert_check.proofs.Added.{added, fits}
use Rattle.cert_check.proofs.WholeCells.{no_give}
use Rattle.cert_check.proofs.total_table.add_gives.Goals as goal

pub overflow_mul-units : goal.overflow_mul-units
overflow_mul-units c =
    let times : c.args.weight * c.from.result ≡ c.args.weight * (get_or c.args.gives.now c.loop-i.i no_give).count = ap (λ n. c.args.weight * n) c.from.ensures in
    let inside = c.requires.places c.loop-i.i no_give c.loop-i-test.true in
    let room = fits give_place (λ (h : Give). c.args.weight * h.count) c.args.gives.now c.loop-i.i (give_place (get_or c.args.gives.now c.loop-i.i no_give)) (c.args.weight * c.from.result) no_give c.loop-i-test.true refl times
    (slice_index c.args.table.now (give_place (get_or c.args.gives.now c.loop-i.i no_give))) (2 ^ 128) (c.requires.room (get_or c.args.gives.now c.loop-i.i no_give).agent (get_or c.args.gives.now c.loop-i.i no_give).object inside.0 inside.1) in
    omega (arith, room)

pub overflow_add-table : goal.overflow_add-table
overflow_add-table c =
    let times : c.args.weight * c.from.result ≡ c.args.weight * (get_or c.args.gives.now c.loop-i.i no_give).count = ap (λ n. c.args.weight * n) c.from.ensures in
    let inside = c.requires.places c.loop-i.i no_give c.loop-i-test.true in
    let room = fits give_place (λ (h : Give). c.args.weight * h.count) c.args.gives.now c.loop-i.i (give_place (get_or c.args.gives.now c.loop-i.i no_give)) (c.args.weight * c.from.result) no_give c.loop-i-test.true refl times
    (slice_index c.args.table.now (give_place (get_or c.args.gives.now c.loop-i.i no_give))) (2 ^ 128) (c.requires.room (get_or c.args.gives.now c.loop-i.i no_give).agent (get_or c.args.gives.now c.loop-i.i no_give).object inside.0 inside.1) in
    let read : get_or c.loop-i.table c.place_of-place.result 0 ≡ get_or c.loop-i.table (give_place (get_or c.args.gives.now c.loop-i.i no_give)) 0 = ap (λ j. get_or c.loop-i.table j 0) c.place_of-place.ensures in
    let here = c.loop-i.invariant (get_or c.args.gives.now c.loop-i.i no_give).agent (get_or c.args.gives.now c.loop-i.i no_give).object inside.0 inside.1 in
    omega (arith, room, read, here)

pub loop-i-preserved : goal.loop-i-preserved
loop-i-preserved c = λ i a l m.
    let times : c.args.weight * c.from.result ≡ c.args.weight * (get_or c.args.gives.now c.loop-i.i no_give).count = ap (λ n. c.args.weight * n) c.from.ensures in
    added give_place (λ (h : Give). c.args.weight * h.count) c.args.gives.now c.loop-i.i c.place_of-place.result (c.args.weight * c.from.result) no_give c.loop-i-test.true c.place_of-place.ensures times c.loop-i.table (place_at i a) (slice_index c.args.table.now (place_at i a))
    (omega (arith, m, c.loop-i.auto.table)) (c.loop-i.invariant i a l m)
