-- Both parts are lemmas.
use Rattle.rounding_laws.proofs.Quotas.{keeps_quotas, small_cell}
use Rattle.rounding_laws.proofs.rounding_keeps_quotas.Goals as goal

pub returns : goal.returns
returns c = record { quotas = keeps_quotas; cells = small_cell }
