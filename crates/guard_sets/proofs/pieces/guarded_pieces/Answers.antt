use Rattle.std.proofs.Common.{sym, subst}
use Rattle.std.proofs.lemmas.Result.{err_from_is_err_and}
use Rattle.definitions.specs.Sets.{IsBihierarchy}
use Rattle.peeling.specs.Peelers.{pieces_value}
use Rattle.certificate_laws.proofs.GuardedSides.{guarded_apart}
use Rattle.guard_sets.proofs.Near.{lottery_of, pieces_near}
use Rattle.guard_sets.proofs.pieces.guarded_pieces.Goals as goal

pub trees_apart-requires : goal.trees_apart-requires
trees_apart-requires c = subst IsBihierarchy (sym c.in_ok-family.ensures.family) (guarded_apart c.args.problem.now c.args.x.now c.in_ok-family.ensures.lawful c.requires.apart)

pub returns-in_err-all_pieces-clause-refused : goal.returns-in_err-all_pieces-clause-refused
returns-in_err-all_pieces-clause-refused c =
    let p = err_from_is_err_and c.from_residual-in_err-all_pieces.result c.from_residual-in_err-all_pieces.ensures.1 in
    rw (p.1, p.2) c.in_ok-family.ensures.fits

pub returns-clause-pieces : goal.returns-clause-pieces
returns-clause-pieces c =
    lottery_of c.args.problem.now c.args.x.now c.in_ok-family.family c.in_ok-peeler.peeler (pieces_value c.in_ok-all_pieces.field-0)
    c.in_ok-family.ensures.lawful c.in_ok-family.ensures.family c.in_ok-peeler.ensures.start c.in_ok-all_pieces.ensures.pieces

pub returns-clause-bound : goal.returns-clause-bound
returns-clause-bound c =
    pieces_near c.args.problem.now c.args.x.now c.in_ok-family.ensures.lawful (record { agents = c.requires.agents; columns = c.requires.columns; assignment = c.requires.assignment }) (pieces_value c.in_ok-all_pieces.field-0)
    (lottery_of c.args.problem.now c.args.x.now c.in_ok-family.family c.in_ok-peeler.peeler (pieces_value c.in_ok-all_pieces.field-0)
    c.in_ok-family.ensures.lawful c.in_ok-family.ensures.family c.in_ok-peeler.ensures.start c.in_ok-all_pieces.ensures.pieces)
