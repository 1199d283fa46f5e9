use Rattle.std.proofs.Common.{length}
use Rattle.definitions.specs.Trees.{chain_of}
use Rattle.price_cert.proofs.ranks.+rank_of.Given as goal

abbrev pub decreases-rank_of : goal.decreases-rank_of
decreases-rank_of l = length (chain_of l.trees.now l.set)
