use Rattle.std.proofs.Common.{◌∙◌, sym, refl}
use Rattle.std.proofs.lemmas.Bool.{eqb-true}
use Rattle.table_text.proofs.SignedFacts.{signed-nil, signed-minus, signed-plus, cast-plus, cast-minus, some-length}
use Rattle.table_text.proofs.numbers.read_signed.Goals as goal

pub returns-then-is_empty : goal.returns-then-is_empty
returns-then-is_empty c = signed-nil c.args.text.now (eqb-true _ _ (sym c.if-is_empty.ensures))

pub returns-in_err-size : goal.returns-in_err-size
returns-in_err-size c = rw c.from_residual.ensures (sym (signed-minus c.args.text.now (some-length c.args.text.now c.if-is_empty.ensures) c.if-text-eq45.true ∙ rw (← c.in_err-size.ensures.value) refl))

pub returns-then-text-eq45 : goal.returns-then-text-eq45
returns-then-text-eq45 c = rw (cast-minus c.in_ok-size.size c.in_ok-size.ensures.within) (sym (signed-minus c.args.text.now (some-length c.args.text.now c.if-is_empty.ensures) c.if-text-eq45.true ∙ rw (← c.in_ok-size.ensures.value) refl))

pub returns-in_err-size-2 : goal.returns-in_err-size-2
returns-in_err-size-2 c = rw c.from_residual-in_err-size-2.ensures (sym (signed-plus c.args.text.now (some-length c.args.text.now c.if-is_empty.ensures) c.if-text-eq45.false ∙ rw (← c.in_err-size-2.ensures.value) refl))

pub returns : goal.returns
returns c = rw (cast-plus c.in_ok-size-2.size c.in_ok-size-2.ensures.within) (sym (signed-plus c.args.text.now (some-length c.args.text.now c.if-is_empty.ensures) c.if-text-eq45.false ∙ rw (← c.in_ok-size-2.ensures.value) refl))
