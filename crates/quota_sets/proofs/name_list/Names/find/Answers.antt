use Rattle.std.proofs.Common.{◌∙◌, sym}
use Rattle.quota_sets.proofs.ByBytes.{name_index-map}
use Rattle.quota_sets.proofs.name_list.Names.find.Goals as goal

pub returns-in_err-place-clause-value : goal.returns-in_err-place-clause-value
returns-in_err-place-clause-value c =
    rw (c.from_residual.ensures, ← c.self.view_is) (sym c.in_err-place.was ∙ c.get_index_of.ensures.index ∙ sym (name_index-map c.self.inside.set.keys c.args.name.now))

pub returns-clause-value : goal.returns-clause-value
returns-clause-value c =
    rw (← c.self.view_is) (sym c.in_ok-place.was ∙ c.get_index_of.ensures.index ∙ sym (name_index-map c.self.inside.set.keys c.args.name.now))
