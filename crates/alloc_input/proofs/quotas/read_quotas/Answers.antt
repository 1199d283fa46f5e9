use Rattle.std.proofs.Common.{arith}
use Rattle.std.proofs.lemmas.Result.{err_from_is_err_and}
use Rattle.alloc_input.proofs.Suits.{few_objects}
use Rattle.alloc_input.proofs.quotas.read_quotas.Goals as goal

pub column_count-columns-requires : goal.column_count-columns-requires
column_count-columns-requires c =
    let reads = c.in_ok-state.ensures.reads in
    let few = few_objects c.args.mode c.args.bytes.now c.args.agents.now c.args.objects.now c.in_ok-rows.rows c.requires.suits c.in_ok-rows.ensures reads.0 in
    omega (arith, few, c.len.ensures.value)

pub returns-in_err-family-clause-fault : goal.returns-in_err-family-clause-fault
returns-in_err-family-clause-fault c =
    let p = err_from_is_err_and c.from_residual-in_err-family.result c.from_residual-in_err-family.ensures.1 in
    rw (p.1, p.2) tt
