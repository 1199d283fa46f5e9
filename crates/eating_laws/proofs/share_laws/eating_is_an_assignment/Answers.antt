-- A lemma.
use Rattle.eating_laws.proofs.Assignment.{eating_assigns}
use Rattle.eating_laws.proofs.share_laws.eating_is_an_assignment.Goals as goal

pub returns : goal.returns
returns c p x e h table a = eating_assigns p x e h table a
