use Rattle.std.proofs.Common.{◌≡◌, ◌∙◌, false, ap, sym}
use Rattle.std.specs.Prelude.{is_some}
use Rattle.definitions.specs.Texts.{has_name, null_name}
use Rattle.table_text.proofs.KnownNames.{is_some-name_index}
use Rattle.layer_tests.proofs.inputs.need_plain.Goals as goal

pub returns-else-is_some : goal.returns-else-is_some
returns-else-is_some c =
    sym (is_some-name_index c.args.objects.now null_name) ∙ ap is_some (sym c.find_bytes.ensures.value) ∙ sym c.is_some.ensures ∙ c.if-is_some.false
