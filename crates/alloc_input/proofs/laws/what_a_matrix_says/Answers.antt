use Rattle.alloc_input.proofs.SaidMatrices.{header-said, fields-said, shape-said, entries-said, missing-said}
use Rattle.alloc_input.proofs.laws.what_a_matrix_says.Goals as goal

pub returns : goal.returns
returns c = record {
  header = header-said;
  objects = λ rows m h. h.objects_read;
  agents = λ rows m h. h.agents_read;
  fields = fields-said;
  shape = shape-said;
  entries = entries-said;
  missing = missing-said;
}
