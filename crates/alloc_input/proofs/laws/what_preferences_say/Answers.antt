use Rattle.std.proofs.Common.{ap}
use Rattle.definitions.specs.Values.{ProblemValue}
use Rattle.alloc_input.proofs.SaidPreferences.{header-said, known-said, lists-said, objects-said}
use Rattle.alloc_input.proofs.laws.what_preferences_say.Goals as goal

pub returns : goal.returns
returns c = record {
  header = header-said;
  agents = λ rows quota_rows p h. ap (λ (q : ProblemValue). q.agents) h.1;
  objects = objects-said;
  known = known-said;
  lists = lists-said;
}
