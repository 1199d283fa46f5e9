use Rattle.std.proofs.Common.{◌≡◌, ◌∙◌, false, refl, sym, arith}
use Rattle.std.proofs.lemmas.Bool.{both_ways}
use Rattle.std.proofs.lemmas.Result.{err_from_is_err_and}
use Rattle.guard_sets.proofs.Sizes.{guarded_many, guarded_cells, over_limit}
use Rattle.guard_sets.proofs.family.guarded.Goals as goal

pub returns-then-not-is_allowed-clause-refused : goal.returns-then-not-is_allowed-clause-refused
returns-then-not-is_allowed-clause-refused c = record {
  sets_are = c.guard_size-size.ensures.sets ∙ sym (guarded_many c.args.problem.now c.args.x.now c.guard_size-size.ensures.lawful);
  cells_are = c.guard_size-size.ensures.cells ∙ sym (guarded_cells c.args.problem.now c.args.x.now c.guard_size-size.ensures.lawful);
  over = over_limit c.guard_size-size.result.sets c.guard_size-size.result.cells (λ h. both_ways false refl (c.if-not-is_allowed.ensures.1 h));
}

pub all_sets-requires-clause-fits : goal.all_sets-requires-clause-fits
all_sets-requires-clause-fits c =
    let within = c.if-not-is_allowed.ensures.0 refl in
    record {
      sets = omega (arith, within.0, c.guard_size-size.ensures.sets, guarded_many c.args.problem.now c.args.x.now c.guard_size-size.ensures.lawful);
      cells = omega (arith, within.1, c.guard_size-size.ensures.cells, guarded_cells c.args.problem.now c.args.x.now c.guard_size-size.ensures.lawful);
    }

pub returns-in_err-all_sets-clause-refused : goal.returns-in_err-all_sets-clause-refused
returns-in_err-all_sets-clause-refused c =
    let within = c.if-not-is_allowed.ensures.0 refl in
    let p = err_from_is_err_and c.from_residual.result c.from_residual.ensures.1 in
    rw (p.1, p.2) (record {
      sets = omega (arith, within.0, c.guard_size-size.ensures.sets, guarded_many c.args.problem.now c.args.x.now c.guard_size-size.ensures.lawful);
      cells = omega (arith, within.1, c.guard_size-size.ensures.cells, guarded_cells c.args.problem.now c.args.x.now c.guard_size-size.ensures.lawful);
    })
