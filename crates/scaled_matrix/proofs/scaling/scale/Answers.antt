use Rattle.std.proofs.Common.{◌≡◌, ◌∙◌, length, ap}
use Rattle.std.proofs.lemmas.List.{length-map}
use Rattle.scaled_matrix.specs.Scaling.{unit_of}
use Rattle.scaled_matrix.proofs.Units.{units_exact}
use Rattle.scaled_matrix.proofs.scaling.scale.Goals as goal

pub returns-clause-scaled : goal.returns-clause-scaled
returns-clause-scaled c =
    let given = c.args.shares.now in
    let d = c.in_ok-denominator.denominator in
    let least = c.in_ok-denominator.ensures.least in
    let lawful = c.agents.ensures.lawful in
    let agents : c.len-agents.result ≡ length given.agents = c.len-agents.ensures.value ∙ ap length c.agents.ensures.value in
    let columns : c.len-columns.result ≡ length given.objects = c.len-columns.ensures.value ∙ ap length c.objects.ensures.value in
    rw c.new.ensures (record {
      entries = lawful.shape;
      agents = agents;
      columns = columns;
      shape = rw (c.in_ok-units.ensures.units, agents, columns) (length-map given.entries (unit_of d) ∙ lawful.shape);
      least = least;
      units = λ k s found. rw c.in_ok-units.ensures.units (units_exact d given.entries lawful.lawful least.common k s found);
    })
