-- Both parts are lemmas.
use Rattle.side_laws.proofs.Trees.{chain_holds, cell_chain_distinct}
use Rattle.side_laws.proofs.chain_is_the_holders.Goals as goal

pub returns : goal.returns
returns c f t family trees side cell known inside =
    record { members = chain_holds f family.lawful t trees side cell known inside; once = cell_chain_distinct f family.lawful t trees side cell known inside }
