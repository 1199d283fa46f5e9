-- Both parts are lemmas.
use Rattle.certificate_laws.proofs.RecipePrices.{prices_many, prices_are}
use Rattle.certificate_laws.proofs.recipe.prices_by_sets.Goals as goal

pub returns : goal.returns
returns c p d e y h made = (prices_many p d e h y made, prices_are p d e h y made)
