use Rattle.std.proofs.Common.{◌≡◌, ℕ, ◌<◌, ◌≤◌, ◌==◌, List, length, ap, sym, ◌∙◌, subst, arith, All, filter}
use Rattle.std.specs.Prelude.{slice_index}
use Rattle.std.proofs.lemmas.List.{length-map, length-replicate, get_or-replicate, take_all}
use Rattle.definitions.specs.declared.Give.{Give}
use Rattle.definitions.specs.Sets.{cell_of}
use Rattle.definitions.specs.Values.{PieceValue, piece_value}
use Rattle.definitions.specs.Pieces.{piece_count}
use Rattle.cert_check.specs.PieceFaults.{given_in, given_units, gives_at, pieces_value}
use Rattle.cert_check.proofs.PieceCounts.{gives_rise, given_term, given_fits, given_more}
use Rattle.cert_check.proofs.RowTotals.{run_given, run_columns}
use Rattle.cert_check.proofs.totals.totals_of_row.Goals as goal

pub loop-piece-init : goal.loop-piece-init
loop-piece-init c = λ a l. ap (λ (r : List ℕ). slice_index r a) c.requires.row ∙ get_or-replicate 201 a 0 0 l

pub gives_to-gives-requires : goal.gives_to-gives-requires
gives_to-gives-requires c =
    let within : c.loop-piece.piece < length (pieces_value c.args.pieces.now) = omega (arith, length-map c.args.pieces.now.list.items piece_value) in
    gives_rise c.args.x.now (pieces_value c.args.pieces.now) c.loop-piece.piece c.gives_of.result.now c.requires.given.pieces within c.gives_of.ensures

pub add_gives-requires-clause-columns : goal.add_gives-requires-clause-columns
add_gives-requires-clause-columns c =
    let within : c.loop-piece.piece < length (pieces_value c.args.pieces.now) = omega (arith, length-map c.args.pieces.now.list.items piece_value) in
    let many : length c.loop-piece.row ≡ 201 = omega (arith, c.loop-piece.auto.row, ap length c.requires.row, length-replicate {A = ℕ}) in
    let run : c.gives_to-gives.result.now ≡ filter (λ (g : Give). g.agent == c.args.agent) (gives_at (pieces_value c.args.pieces.now) c.loop-piece.piece) =
    c.gives_to-gives.ensures ∙ ap (filter (λ (g : Give). g.agent == c.args.agent)) c.gives_of.ensures in
    subst (λ (gs : List Give). All (λ (g : Give). g.object < length c.loop-piece.row) gs) (sym run)
    (run_columns c.args.x.now (pieces_value c.args.pieces.now) c.loop-piece.piece c.args.agent (length c.loop-piece.row) c.requires.given.small c.requires.given.pieces within many)

pub add_gives-requires-clause-room : goal.add_gives-requires-clause-room
add_gives-requires-clause-room c = λ a l.
    let within : c.loop-piece.piece < length (pieces_value c.args.pieces.now) = omega (arith, length-map c.args.pieces.now.list.items piece_value) in
    let many : length c.loop-piece.row ≡ 201 = omega (arith, c.loop-piece.auto.row, ap length c.requires.row, length-replicate {A = ℕ}) in
    let count : given_in c.gives_to-gives.result.now a ≡ piece_count c.gives_of.result.now (cell_of c.args.agent a) =
    ap (λ (gs : List Give). given_in gs a) c.gives_to-gives.ensures ∙ run_given c.args.agent a c.gives_of.result.now in
    let term = given_term (pieces_value c.args.pieces.now) c.loop-piece.piece c.weight_of.result c.gives_of.result.now (given_in c.gives_to-gives.result.now a) (cell_of c.args.agent a) c.weight_of.ensures c.gives_of.ensures count in
    let fits = given_fits c.args.x.now (pieces_value c.args.pieces.now) c.loop-piece.piece (cell_of c.args.agent a) c.requires.given.lawful c.requires.given.pieces within in
    let here = c.loop-piece.invariant a (omega (arith, many, l)) in
    omega (arith, term, fits, here)

pub loop-piece-preserved : goal.loop-piece-preserved
loop-piece-preserved c = λ a l.
    let within : c.loop-piece.piece < length (pieces_value c.args.pieces.now) = omega (arith, length-map c.args.pieces.now.list.items piece_value) in
    let many : length c.loop-piece.row ≡ 201 = omega (arith, c.loop-piece.auto.row, ap length c.requires.row, length-replicate {A = ℕ}) in
    let count : given_in c.gives_to-gives.result.now a ≡ piece_count c.gives_of.result.now (cell_of c.args.agent a) =
    ap (λ (gs : List Give). given_in gs a) c.gives_to-gives.ensures ∙ run_given c.args.agent a c.gives_of.result.now in
    let term = given_term (pieces_value c.args.pieces.now) c.loop-piece.piece c.weight_of.result c.gives_of.result.now (given_in c.gives_to-gives.result.now a) (cell_of c.args.agent a) c.weight_of.ensures c.gives_of.ensures count in
    let more = given_more (pieces_value c.args.pieces.now) c.loop-piece.piece (cell_of c.args.agent a) within in
    let here = c.loop-piece.invariant a l in
    let after = c.add_gives.ensures a (omega (arith, many, l)) in
    omega (arith, term, more, here, after)

pub returns : goal.returns
returns c =
    let past : length (pieces_value c.args.pieces.now) ≤ c.loop-piece.piece = omega (arith, length-map c.args.pieces.now.list.items piece_value) in
    record {
      many = omega (arith, c.loop-piece.auto.row, ap length c.requires.row, length-replicate {A = ℕ});
      totals = λ a l. c.loop-piece.invariant a l ∙ ap (λ (ps : List PieceValue). given_units ps (cell_of c.args.agent a)) (take_all c.loop-piece.piece (pieces_value c.args.pieces.now) past);
    }
