use Rattle.std.proofs.Common.{◌∙◌, sym, ap, Some}
use Rattle.seed_pact.proofs.EntryFacts.{entry-at, name-at}
use Rattle.seed_pact.proofs.entries.Entries.find.Goals as goal

pub returns : goal.returns
returns c =
    let place = sym c.in_ok-place.ensures.value in
    (rw (← c.self.view_is) (entry-at _ _ _ _ c.self.invariant place) ∙ ap Some (sym c.index.ensures), c.name_at.ensures ∙ name-at _ _ _ place)
