-- A lemma.
use Rattle.certificate_laws.proofs.RecipePrices.{same_recipe}
use Rattle.certificate_laws.proofs.recipe.one_recipe.Goals as goal

pub returns : goal.returns
returns c p d e y z h a b = same_recipe p d e h y z a b
