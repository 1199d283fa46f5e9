use Rattle.std.proofs.Common.{◌≡◌, false}
use Rattle.std.specs.Prelude.{is_some}
use Rattle.definitions.specs.Texts.{name_index}
use Rattle.table_text.proofs.KnownNames.{name-absent}
use Rattle.lottery_file.proofs.fields.is_taken.Goals as goal

pub returns-clause-free : goal.returns-clause-free
returns-clause-free c = λ e. let absent : is_some (name_index c.args.names.now c.args.name.now) ≡ false = cc in name-absent c.args.names.now c.args.name.now absent
