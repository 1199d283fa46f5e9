use Rattle.std.proofs.Common.{◌≡◌, Some, map}
use Rattle.std.specs.List.{range_with_len}
use Rattle.price_cert.specs.Ranks.{rank_in, AreRanksFound}
use Rattle.price_cert.proofs.ranks.ranks_of.Given as goal

abbrev pub invariant-loop-set : goal.invariant-loop-set
invariant-loop-set l = record {
  ranks : l.ranks.items ≡ map (λ s. rank_in l.numbers l.top l.trees (Some s)) (range_with_len 1 l.set);
  found : AreRanksFound l.numbers l.top l.trees l.found.items;
}
