-- What is made from what is eaten certifies it, and is small.
use Rattle.definitions.specs.Values.{prices_value}
use Rattle.price_cert.proofs.RecipeAgrees.{certifies_eaten}
use Rattle.price_cert.proofs.Small.{eaten_small}
use Rattle.price_cert.proofs.answer.certificate.Goals as goal

pub returns-clause-certifies : goal.returns-clause-certifies
returns-clause-certifies c =
    certifies_eaten c.args.problem.now c.requires.eaten.0 c.args.eaten.now (prices_value c.in_ok-prices.prices) c.in_ok-recipe.ensures.lawful c.requires.eaten.1
    (c.in_ok-prices.ensures c.requires.eaten.0 c.requires.eaten.1)

pub returns-clause-small : goal.returns-clause-small
returns-clause-small c =
    eaten_small c.args.problem.now c.requires.eaten.0 c.args.eaten.now (prices_value c.in_ok-prices.prices) c.in_ok-recipe.ensures.lawful c.requires.eaten.1
    (c.in_ok-prices.ensures c.requires.eaten.0 c.requires.eaten.1)
