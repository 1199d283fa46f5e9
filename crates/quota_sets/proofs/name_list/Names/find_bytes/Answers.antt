use Rattle.std.proofs.Common.{◌∙◌, sym}
use Rattle.quota_sets.proofs.ByBytes.{name_index-map}
use Rattle.quota_sets.proofs.NameLemmas.{name_index-no_text}
use Rattle.quota_sets.proofs.name_list.Names.find_bytes.Goals as goal

pub returns-in_default-clause-value : goal.returns-in_default-clause-value
returns-in_default-clause-value c =
    rw (← c.self.view_is) (name_index-no_text c.args.bytes.now c.in_default.ensures.cases.0 c.self.inside.set.keys)

pub returns-in_err-place-clause-value : goal.returns-in_err-place-clause-value
returns-in_err-place-clause-value c =
    rw (c.from_residual.ensures, ← c.self.view_is) (sym c.in_err-place.was ∙ c.get_index_of.ensures.index ∙ rw c.in-Ok.ensures.cases.0 (sym (name_index-map c.self.inside.set.keys c.args.bytes.now)))

pub returns-clause-value : goal.returns-clause-value
returns-clause-value c =
    rw (← c.self.view_is) (sym c.in_ok-place.was ∙ c.get_index_of.ensures.index ∙ rw c.in-Ok.ensures.cases.0 (sym (name_index-map c.self.inside.set.keys c.args.bytes.now)))
