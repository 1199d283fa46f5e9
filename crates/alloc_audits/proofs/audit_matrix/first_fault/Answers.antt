use Rattle.alloc_audits.specs.NameFaults.{first_name_fault}
use Rattle.alloc_audits.proofs.SplitAudits.{fits_family, has_names, one_shape}
use Rattle.alloc_audits.proofs.VerdictsLemmas.{no_fault}
use Rattle.alloc_audits.proofs.audit_matrix.first_fault.Goals as goal
use Rattle.lottery_file.specs.Lotteries.{lottery_value}

pub check_matrix-requires : goal.check_matrix-requires
check_matrix-requires c =
    let given = c.args.shares.now in
    let l = lottery_value c.args.lottery.now in
    let passes = rw (c.agents.ensures.value, c.objects.ensures.value) at c.in_ok-check_names.ensures in
    let names = has_names given l (no_fault (first_name_fault given.agents given.objects l.agents l.columns) tt passes) in
    one_shape given c.args.x.now c.args.family.now l c.requires.units c.requires.lawful names

pub check_pieces_in-requires-clause-matrix : goal.check_pieces_in-requires-clause-matrix
check_pieces_in-requires-clause-matrix c =
    let given = c.args.shares.now in
    let l = lottery_value c.args.lottery.now in
    let passes = rw (c.agents.ensures.value, c.objects.ensures.value) at c.in_ok-check_names.ensures in
    let names = has_names given l (no_fault (first_name_fault given.agents given.objects l.agents l.columns) tt passes) in
    let shape = one_shape given c.args.x.now c.args.family.now l c.requires.units c.requires.lawful names in
    fits_family given c.args.x.now c.args.family.now l shape c.requires.agents c.requires.columns
