use Rattle.std.proofs.Common.{◌≡◌, map, take}
use Rattle.price_cert.specs.Moments.{number_in}
use Rattle.price_cert.proofs.moments.numbers_of.Given as goal

abbrev pub invariant-loop-moment : goal.invariant-loop-moment
invariant-loop-moment l = l.numbers.items ≡ map (number_in l.order) (take l.moment-index l.moments)
