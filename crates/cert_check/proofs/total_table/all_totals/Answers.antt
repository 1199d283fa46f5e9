use Rattle.std.proofs.Common.{◌≡◌, ℕ, ◌*◌, ◌<◌, List, length, slice_index, ap, ◌∙◌, arith}
use Rattle.std.proofs.lemmas.List.{length-map, with_items_is}
use Rattle.definitions.specs.Sets.{cell_of}
use Rattle.definitions.specs.Values.{piece_value}
use Rattle.cert_check.specs.PieceFaults.{pieces_value}
use Rattle.cert_check.specs.TotalTables.{place_at}
use Rattle.cert_check.proofs.PieceCounts.{given_fits, given_more, gives_lawful}
use Rattle.cert_check.proofs.TableTotals.{gives_in_table, weighted_term}
use Rattle.cert_check.proofs.total_table.all_totals.Goals as goal

pub add_gives-requires-clause-places : goal.add_gives-requires-clause-places
add_gives-requires-clause-places c =
    let within : c.loop-piece.piece < length (pieces_value c.args.pieces.now) = omega (arith, length-map c.args.pieces.now.list.items piece_value) in
    let gives = gives_lawful c.args.x.now (pieces_value c.args.pieces.now) c.loop-piece.piece c.gives_of.result.now c.requires.given.pieces within c.gives_of.ensures in
    gives_in_table c.args.x.now c.gives_of.result.now (length c.deref_mut.result.now) c.requires.given.small gives (ap (λ (ns : List ℕ). length ns) c.deref_mut.ensures.value ∙ c.loop-piece.invariant.many)

pub add_gives-requires-clause-room : goal.add_gives-requires-clause-room
add_gives-requires-clause-room c = λ i a l m.
    let within : c.loop-piece.piece < length (pieces_value c.args.pieces.now) = omega (arith, length-map c.args.pieces.now.list.items piece_value) in
    let many : length c.deref_mut.result.now ≡ c.args.x.now.agents * 201 = ap (λ (ns : List ℕ). length ns) c.deref_mut.ensures.value ∙ c.loop-piece.invariant.many in
    let term = weighted_term c.args.x.now (pieces_value c.args.pieces.now) c.loop-piece.piece c.weight_of-weight.result c.gives_of.result.now i a c.requires.given.small c.requires.given.pieces within c.weight_of-weight.ensures c.gives_of.ensures l in
    let fits = given_fits c.args.x.now (pieces_value c.args.pieces.now) c.loop-piece.piece (cell_of i a) c.requires.given.lawful c.requires.given.pieces within in
    let read : slice_index c.deref_mut.result.now (place_at i a) ≡ slice_index c.loop-piece.table.items (place_at i a) = ap (λ (ns : List ℕ). slice_index ns (place_at i a)) c.deref_mut.ensures.value in
    let here = c.loop-piece.invariant.totals i a (omega (arith, m, many)) l in
    omega (arith, term, fits, read, here)

pub loop-piece-preserved : goal.loop-piece-preserved
loop-piece-preserved c =
    let within : c.loop-piece.piece < length (pieces_value c.args.pieces.now) = omega (arith, length-map c.args.pieces.now.list.items piece_value) in
    let many : length c.deref_mut.result.now ≡ c.args.x.now.agents * 201 = ap (λ (ns : List ℕ). length ns) c.deref_mut.ensures.value ∙ c.loop-piece.invariant.many in
    let size : length c.add_gives.new.table ≡ c.loop-piece.table.len = c.add_gives.auto.table ∙ c.deref_mut.ensures.len in
    rw (with_items_is c.loop-piece.table c.add_gives.new.table size) (record {
      many = c.add_gives.auto.table ∙ many;
      totals = λ i a l m.
          let term = weighted_term c.args.x.now (pieces_value c.args.pieces.now) c.loop-piece.piece c.weight_of-weight.result c.gives_of.result.now i a c.requires.given.small c.requires.given.pieces within c.weight_of-weight.ensures c.gives_of.ensures m in
          let more = given_more (pieces_value c.args.pieces.now) c.loop-piece.piece (cell_of i a) within in
          let read : slice_index c.deref_mut.result.now (place_at i a) ≡ slice_index c.loop-piece.table.items (place_at i a) = ap (λ (ns : List ℕ). slice_index ns (place_at i a)) c.deref_mut.ensures.value in
          let here = c.loop-piece.invariant.totals i a l m in
          let after = c.add_gives.ensures i a m (omega (arith, l, m, many)) in
          omega (arith, term, more, read, here, after);
    })
