use Rattle.std.proofs.Common.{◌∙◌, sym}
use Rattle.seed_pact.proofs.EntryFacts.{entry-free, found-alike}
use Rattle.seed_pact.proofs.records.is_known.Goals as goal

pub returns-clause-free : goal.returns-clause-free
returns-clause-free c = λ e. entry-free c.args.entries.now c.args.name.now (sym (found-alike _ _ _ _ c.find.ensures) ∙ sym c.is_some.ensures ∙ e)
