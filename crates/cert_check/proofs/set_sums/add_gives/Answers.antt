use Rattle.std.proofs.Common.{◌≡◌, ℕ, ◌<◌, ◌^◌, [], List, Vec, Global, All, length, get_or, slice_index, sym, subst, arith}
use Rattle.std.proofs.lemmas.List.{length-map}
use Rattle.std.proofs.lemmas.List.Elements.{All-get_or}
use Rattle.cert_check.specs.HolderTables.{lists_of}
use Rattle.cert_check.proofs.GivenSets.{held_fits, held_more, list_read}
use Rattle.cert_check.proofs.WholeCells.{no_give}
use Rattle.cert_check.proofs.set_sums.add_gives.Goals as goal

pub add_count-requires-clause-known : goal.add_count-requires-clause-known
add_count-requires-clause-known c =
    let inside : c.place_of-place.result < length c.args.lists.now = omega (arith, c.place_of-place.ensures, c.requires.places c.loop-i.i no_give c.loop-i-test.true) in
    let read : c.deref.result.now ≡ get_or (lists_of c.args.lists.now) c.place_of-place.result [] = list_read c.args.lists.now c.place_of-place.result c.index-lists-place.result c.deref.result.now inside c.index-lists-place.is c.deref.ensures.value in
    let many : length (lists_of c.args.lists.now) ≡ length c.args.lists.now = length-map c.args.lists.now (λ (list : Vec ℕ Global). list.items) in
    let known : All (λ s. s < length c.args.sums.now) (get_or (lists_of c.args.lists.now) c.place_of-place.result []) =
    All-get_or (All (λ s. s < length c.args.sums.now)) (lists_of c.args.lists.now) c.place_of-place.result [] (omega (arith, inside, many)) c.requires.known in
    subst (λ (list : List ℕ). All (λ s. s < length c.loop-i.sums) list) (sym read)
    (subst (λ n. All (λ s. s < n) (get_or (lists_of c.args.lists.now) c.place_of-place.result [])) (sym c.loop-i.auto.sums) known)

pub add_count-requires-clause-room : goal.add_count-requires-clause-room
add_count-requires-clause-room c = λ s l.
    let inside : c.place_of-place.result < length c.args.lists.now = omega (arith, c.place_of-place.ensures, c.requires.places c.loop-i.i no_give c.loop-i-test.true) in
    let read : c.deref.result.now ≡ get_or (lists_of c.args.lists.now) c.place_of-place.result [] = list_read c.args.lists.now c.place_of-place.result c.index-lists-place.result c.deref.result.now inside c.index-lists-place.is c.deref.ensures.value in
    let fits = held_fits (lists_of c.args.lists.now) c.args.gives.now c.loop-i.i c.place_of-place.result c.from.result c.deref.result.now no_give c.loop-i-test.true c.place_of-place.ensures c.from.ensures read
    s (slice_index c.args.sums.now s) (2 ^ 64) (c.requires.room s (omega (arith, l, c.loop-i.auto.sums))) in
    omega (arith, fits, c.loop-i.invariant s (omega (arith, l, c.loop-i.auto.sums)))

pub loop-i-preserved : goal.loop-i-preserved
loop-i-preserved c = λ s l.
    let inside : c.place_of-place.result < length c.args.lists.now = omega (arith, c.place_of-place.ensures, c.requires.places c.loop-i.i no_give c.loop-i-test.true) in
    let read : c.deref.result.now ≡ get_or (lists_of c.args.lists.now) c.place_of-place.result [] = list_read c.args.lists.now c.place_of-place.result c.index-lists-place.result c.deref.result.now inside c.index-lists-place.is c.deref.ensures.value in
    let more = held_more (lists_of c.args.lists.now) c.args.gives.now c.loop-i.i c.place_of-place.result c.from.result c.deref.result.now no_give c.loop-i-test.true c.place_of-place.ensures c.from.ensures read s in
    omega (arith, more, c.loop-i.invariant s l, c.add_count.ensures s (omega (arith, l, c.loop-i.auto.sums)))
