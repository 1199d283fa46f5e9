use Rattle.std.proofs.Common.{length, refl}
use Rattle.alloc_audits.proofs.EnvyLemmas.{envy_text-parts}
use Rattle.alloc_audits.proofs.envy.entries_text.Goals as goal

pub returns : goal.returns
returns c =
    envy_text-parts c.args.agents.now c.args.entries.now (length c.args.entries.now) c.new-text.result.items c.put_entries.new.into.items c.put_end.new.into.items
    refl c.new-text.ensures.items c.in_ok-put_entries.ensures c.in_ok-put_end.ensures.ok
