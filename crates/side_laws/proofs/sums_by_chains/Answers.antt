-- Both parts are lemmas.
use Rattle.side_laws.proofs.ChainSums.{along_chain, set_sum_by_chains}
use Rattle.side_laws.proofs.sums_by_chains.Goals as goal

pub returns : goal.returns
returns c f t family trees side known = record { cells = along_chain f family t trees side known; sets = set_sum_by_chains f family t trees side known }
