use Rattle.std.proofs.Common.{◌≡◌, ◌≤◌, List, ℕ, None, true, length, sym, subst, arith}
use Rattle.std.proofs.lemmas.Result.{err_from_is_err_and}
use Rattle.alloc_input.specs.Quotas.{quotas_fault}
use Rattle.alloc_input.specs.Stated.{setting_of}
use Rattle.alloc_input.proofs.DeclaredSets.{lawful-quotas-suit}
use Rattle.alloc_input.proofs.quotas.solve.read_solve_quotas.Goals as goal

pub column_count-columns-requires : goal.column_count-columns-requires
column_count-columns-requires c =
    let rows = c.args.rows.now in
    let reads = c.in_ok-state.ensures.reads in
    let P : List (List ℕ) → Type 0 = λ names. quotas_fault (setting_of c.args.agents.now names true) rows ≡ None in
    let Q : List (List ℕ) → Type 0 = λ names. length names ≤ 200 in
    let few = subst Q (sym c.requires.objects) (lawful-quotas-suit c.args.agents.now rows c.requires.few (subst P c.requires.objects reads.0)).objects_limit in
    omega (arith, few, c.len.ensures.value)

pub returns-in_err-family : goal.returns-in_err-family
returns-in_err-family c =
    let p = err_from_is_err_and c.from_residual-in_err-family.result c.from_residual-in_err-family.ensures.1 in
    rw (p.1, p.2) tt
