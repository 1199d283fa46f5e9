use Rattle.std.proofs.Common.{◌∙◌}
use Rattle.alloc_audits.proofs.envy.envy_of_shares.Goals as goal

pub returns : goal.returns
returns c =
    let listed = c.deref.ensures.value ∙ c.in-Ok.ensures.exact in
    let named = rw c.agents.ensures.value at c.entries_text.ensures in
    rw listed at named
