use Rattle.std.proofs.Common.{◌∙◌, sym, ap}
use Rattle.seed_pact.specs.Commitments.{joint_seed_of}
use Rattle.seed_pact.specs.Pacts.{PactValue}
use Rattle.seed_pact.proofs.Orders.{order-of-reveals}
use Rattle.seed_pact.proofs.Permuted.{reads-permuted}
use Rattle.seed_pact.proofs.laws.order_of_reveals.Goals as goal

pub returns-clause-reads : goal.returns-clause-reads
returns-clause-reads c = reads-permuted

pub returns-clause-pact : goal.returns-clause-pact
returns-clause-pact c = λ rows others p q h k same turned. h.1 ∙ order-of-reveals rows others h.0 k.0 same turned ∙ sym k.1

pub returns-clause-seed : goal.returns-clause-seed
returns-clause-seed c = λ rows others p q h k same turned. ap (λ (v : PactValue). joint_seed_of v.contributions) (h.1 ∙ order-of-reveals rows others h.0 k.0 same turned ∙ sym k.1)
