use Rattle.std.proofs.Common.{◌≡◌, map}
use Rattle.std.specs.List.{range_with_len}
use Rattle.price_cert.specs.Ranks.{price_in}
use Rattle.price_cert.proofs.ranks.prices_of.Given as goal

abbrev pub invariant-loop-set : goal.invariant-loop-set
invariant-loop-set l = l.prices.items ≡ map (price_in l.width l.ranks l.top l.trees) (range_with_len 1 l.set)
