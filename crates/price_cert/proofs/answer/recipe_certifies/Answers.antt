-- A lemma.
use Rattle.price_cert.proofs.Certified.{certified}
use Rattle.price_cert.proofs.answer.recipe_certifies.Goals as goal

pub returns : goal.returns
returns c p d e y h table made = certified p h d e table y made
