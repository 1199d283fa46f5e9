use Rattle.std.proofs.Common.{◌≡◌, ◌++◌, take}
use Rattle.std.specs.Prelude.{filter, nat_lt}
use Rattle.price_cert.proofs.moments.moments_before.Given as goal

abbrev pub invariant-loop-moment : goal.invariant-loop-moment
invariant-loop-moment l = l.found.items ≡ filter (λ m. nat_lt m l.end) (take l.moment-index l.moments)

abbrev pub invariant-loop-cap : goal.invariant-loop-cap
invariant-loop-cap l = l.found.items ≡ filter (λ m. nat_lt m l.end) l.moments ++ filter (λ m. nat_lt m l.end) (take l.cap-index l.caps)
