use Rattle.std.proofs.Common.{subst, sym}
use Rattle.alloc_audits.specs.Audit.{certified_fault}
use Rattle.alloc_audits.proofs.SoundAudits.{checked_matrix, matrix_for_family, own_family}
use Rattle.alloc_audits.proofs.VerdictsLemmas.{no_fault}
use Rattle.alloc_audits.proofs.audit.audit.Goals as goal
use Rattle.cert_check.specs.PieceFaults.{IsMatrixFor}
use Rattle.definitions.specs.Sets.{FamilyValue}
use Rattle.lottery_file.specs.Lotteries.{lottery_value}

pub pieces_fault-requires-clause-matrix : goal.pieces_fault-requires-clause-matrix
pieces_fault-requires-clause-matrix c =
    let p = c.args.problem.now in
    let l = lottery_value c.args.lottery.now in
    let h = c.family.ensures.lawful in
    subst (λ (f : FamilyValue). IsMatrixFor f l.shares) (sym c.family.ensures.value)
    (matrix_for_family p.family p l (own_family p h) (checked_matrix p l h c.requires (no_fault (certified_fault p l) tt c.in_ok-certificate_fault.ensures.first)))
