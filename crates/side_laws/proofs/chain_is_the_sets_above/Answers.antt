-- Both parts are lemmas.
use Rattle.side_laws.proofs.Trees.{parent_known, chain_distinct, parent_chain_above}
use Rattle.definitions.specs.Trees.{parent_at}
use Rattle.side_laws.proofs.chain_is_the_sets_above.Goals as goal

pub returns : goal.returns
returns c f t family trees s known = record {
  members = parent_chain_above f family.lawful t trees s known;
  once = chain_distinct f family.lawful t trees (parent_at t s) (parent_known f family.lawful t trees s known);
}
