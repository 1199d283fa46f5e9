use Rattle.std.proofs.Common.{◌≡◌, ℕ, ◌<◌, List, Vec, Global, get_or, length, slice_index, ap, sym, ◌∙◌, arith}
use Rattle.std.proofs.lemmas.List.{get_or-replicate, length-map}
use Rattle.definitions.specs.declared.Give.{Give}
use Rattle.definitions.specs.Sets.{set_sum, units_of}
use Rattle.definitions.specs.Pieces.{piece_count}
use Rattle.cert_check.specs.HolderTables.{lists_of}
use Rattle.cert_check.specs.PieceFaults.{cells_in_set, gives_at, is_rounded, pieces_value}
use Rattle.cert_check.proofs.GivenSets.{gives_placed, held_is_sum, lists_known, sets_silent, sum_fits, within_bounds}
use Rattle.cert_check.proofs.PieceCounts.{gives_lawful}
use Rattle.cert_check.proofs.sets.sets_at.Goals as goal

pub add_gives-requires-clause-places : goal.add_gives-requires-clause-places
add_gives-requires-clause-places c =
    let gives = gives_lawful c.args.x.now (pieces_value c.args.pieces.now) c.args.piece c.gives_of.result.now c.requires.pieces c.requires.piece c.gives_of.ensures in
    gives_placed c.args.family.now c.args.x.now c.requires.given.family c.requires.given.matrix (lists_of c.args.lists.now) c.requires.holders c.gives_of.result.now (length c.args.lists.now) gives
    (sym (length-map c.args.lists.now (λ (list : Vec ℕ Global). list.items)))

pub add_gives-requires-clause-known : goal.add_gives-requires-clause-known
add_gives-requires-clause-known c =
    lists_known c.args.family.now c.args.x.now c.requires.given.family c.requires.given.matrix (lists_of c.args.lists.now) c.requires.holders (length c.fill.new.self)
    (c.fill.ensures.len ∙ c.requires.sums)

pub add_gives-requires-clause-room : goal.add_gives-requires-clause-room
add_gives-requires-clause-room c = λ s l.
    let within : s < length c.args.family.now.sets = omega (arith, l, c.fill.ensures.len, c.requires.sums) in
    let zero : slice_index c.fill.new.self s ≡ 0 = ap (λ (xs : List ℕ). get_or xs s 0) (c.fill.ensures.after (λ y is. is)) ∙ get_or-replicate (length c.args.sums.now) s 0 0 (omega (arith, within, c.requires.sums)) in
    let gives = gives_lawful c.args.x.now (pieces_value c.args.pieces.now) c.args.piece c.gives_of.result.now c.requires.pieces c.requires.piece c.gives_of.ensures in
    let fits = sum_fits c.args.family.now c.args.x.now c.requires.given.family c.requires.given.matrix (lists_of c.args.lists.now) c.requires.holders c.gives_of.result.now s within gives in
    omega (arith, zero, fits)

pub returns-then-are_bounded : goal.returns-then-are_bounded
returns-then-are_bounded c = sym (sets_silent c.args.family.now c.args.x.now (pieces_value c.args.pieces.now) c.args.piece (λ s l.
    let gives = gives_lawful c.args.x.now (pieces_value c.args.pieces.now) c.args.piece c.gives_of.result.now c.requires.pieces c.requires.piece c.gives_of.ensures in
    let zero : slice_index c.fill.new.self s ≡ 0 = ap (λ (xs : List ℕ). get_or xs s 0) (c.fill.ensures.after (λ y is. is)) ∙ get_or-replicate (length c.args.sums.now) s 0 0 (omega (arith, l, c.requires.sums)) in
    let held = held_is_sum c.args.family.now c.args.x.now c.requires.given.family c.requires.given.matrix (lists_of c.args.lists.now) c.requires.holders c.gives_of.result.now s gives in
    let added : slice_index c.add_gives.new.sums s ≡ set_sum (piece_count c.gives_of.result.now) (cells_in_set c.args.family.now s) =
    omega (arith, c.add_gives.ensures s (omega (arith, l, c.fill.ensures.len, c.requires.sums)), zero, held) in
    let sum : slice_index c.add_gives.new.sums s ≡ set_sum (piece_count (gives_at (pieces_value c.args.pieces.now) c.args.piece)) (cells_in_set c.args.family.now s) =
    added ∙ ap (λ (gs : List Give). set_sum (piece_count gs) (cells_in_set c.args.family.now s)) c.gives_of.ensures in
    let test = c.are_bounded.ensures c.if-are_bounded.true s (omega (arith, l, c.add_gives.auto.sums, c.fill.ensures.len, c.requires.sums)) in
    ap (λ m. is_rounded (set_sum (units_of c.args.x.now) (cells_in_set c.args.family.now s)) c.args.x.now.denominator m) (sym sum)
    ∙ sym (within_bounds c.args.family.now c.args.x.now c.args.bounds.now s (slice_index c.add_gives.new.sums s) c.requires.bounds l) ∙ test))
