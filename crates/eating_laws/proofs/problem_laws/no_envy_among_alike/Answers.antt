-- A lemma.
use Rattle.eating_laws.proofs.Envy.{no_envy}
use Rattle.eating_laws.proofs.problem_laws.no_envy_among_alike.Goals as goal

pub returns : goal.returns
returns c p x e i j h a l l' alike envy = no_envy p x e i j h a l l' alike envy
