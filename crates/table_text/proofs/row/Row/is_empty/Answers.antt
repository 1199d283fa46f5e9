use Rattle.std.proofs.Common.{◌≡◌, sym, length, ◌∙◌}
use Rattle.std.specs.Vec.{vec_len}
use Rattle.csv.specs.Records.{cut_from}
use Rattle.csv.proofs.RecordFacts.{cut-length}
use Rattle.table_text.proofs.row.Row.is_empty.Goals as goal

pub returns : goal.returns
returns c =
    let size : vec_len c.self.inside.ends ≡ length (cut_from 0 c.self.inside.ends.items c.self.inside.bytes.items) =
    c.self.inside.ends.ok.0 ∙ sym (cut-length 0 c.self.inside.ends.items c.self.inside.bytes.items) in
    rw (← c.self.view_is, ← size) c.is_empty.ensures
