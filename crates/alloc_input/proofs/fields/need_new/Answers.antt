use Rattle.std.proofs.Common.{◌≡◌, ◌∙◌, refl, sym, ap, false}
use Rattle.std.specs.Prelude.{is_some}
use Rattle.definitions.specs.Texts.{name_index}
use Rattle.alloc_input.proofs.KnownNames.{absent-name}
use Rattle.alloc_input.proofs.fields.need_new.Goals as goal

pub returns : goal.returns
returns c =
    let none : is_some (name_index c.args.names.now c.args.text.now) ≡ false = sym (ap is_some c.find_bytes.ensures.value) ∙ sym c.if-is_some.ensures in
    (rw none refl, absent-name c.args.names.now c.args.text.now c.find_bytes.result c.find_bytes.ensures.value c.if-is_some.ensures)
