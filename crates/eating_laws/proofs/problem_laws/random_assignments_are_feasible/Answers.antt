-- A lemma.
use Rattle.eating_laws.proofs.Feasible.{random_feasible}
use Rattle.eating_laws.proofs.problem_laws.random_assignments_are_feasible.Goals as goal

pub returns : goal.returns
returns c p x h a = random_feasible p x h a
