use Rattle.std.proofs.Common.{◌≡◌, map}
use Rattle.std.specs.List.{range_with_len}
use Rattle.price_cert.specs.Worths.{worths_in}
use Rattle.price_cert.proofs.worths.all_worths.Given as goal

abbrev pub invariant-loop-agent : goal.invariant-loop-agent
invariant-loop-agent l = map (λ w. w.items) l.worths.items ≡ map (worths_in l.recipe l.problem l.trees l.eaten) (range_with_len 0 l.agent)
