-- The parts are lemmas.
use Rattle.certificate_laws.proofs.RecipeWorths.{some_eaten, places_from_recipe, recipe_from_places}
use Rattle.certificate_laws.proofs.recipe.worths_by_places.Goals as goal

pub returns : goal.returns
returns c p d e h table = record {
  worths = λ y. (places_from_recipe p d e h table y, recipe_from_places p d e h table y);
  eaten = some_eaten p d e h table;
}
