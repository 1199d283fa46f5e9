-- Both parts are lemmas.
use Rattle.eating_laws.proofs.Fine.{scale_eating, scale_partial}
use Rattle.eating_laws.proofs.table_laws.finer_moments.Goals as goal

pub returns : goal.returns
returns c market k D e h = (scale_eating market k D e h, λ m. scale_partial market k D m e h)
