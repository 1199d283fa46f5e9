-- Both parts are lemmas.
use Rattle.side_laws.proofs.Trees.{chain_step, chain_none}
use Rattle.side_laws.proofs.chain_steps_up.Goals as goal

pub returns : goal.returns
returns c f t family trees = (chain_step f family.lawful t trees, chain_none t)
