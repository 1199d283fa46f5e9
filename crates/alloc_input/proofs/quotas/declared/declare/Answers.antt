use Rattle.std.proofs.Common.{◌∙◌}
use Rattle.std.proofs.lemmas.Result.{on_ok_weaker}
use Rattle.alloc_input.proofs.KnownNames.{absent-name, known-name, new-name}
use Rattle.alloc_input.proofs.quotas.declared.declare.Goals as goal

pub returns-then-is_some : goal.returns-then-is_some
returns-then-is_some c = known-name c.args.objects.now c.in-Some.name.now _ _ c.in-Some.ensures c.find.ensures.value c.if-is_some.ensures

pub add_name-requires : goal.add_name-requires
add_name-requires c = absent-name c.args.objects.now c.in-Some.name.now _ c.find.ensures.value c.if-is_some.ensures

pub returns : goal.returns
returns c = on_ok_weaker c.add_name.result (λ e. e ∙ new-name c.args.objects.now c.in-Some.name.now _ _ c.in-Some.ensures c.find.ensures.value c.if-is_some.ensures) c.add_name.ensures
