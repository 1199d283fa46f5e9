-- Both parts are lemmas.
use Rattle.certificate_laws.proofs.Dominance.{undominated}
use Rattle.certificate_laws.proofs.OffLists.{undominated_off_lists}
use Rattle.certificate_laws.proofs.no_dominance.Goals as goal

pub returns : goal.returns
returns c = record { assignments = undominated; off_lists = undominated_off_lists }
