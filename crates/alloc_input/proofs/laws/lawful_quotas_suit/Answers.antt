use Rattle.alloc_input.proofs.DeclaredSets.{lawful-quotas-suit}
use Rattle.alloc_input.proofs.laws.lawful_quotas_suit.Goals as goal

pub returns : goal.returns
returns c = lawful-quotas-suit
