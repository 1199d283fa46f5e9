use Rattle.std.proofs.Common.{◌≡◌, ◌≤◌, length, take}
use Rattle.std.specs.Prelude.{max, fold}
use Rattle.price_cert.proofs.recipe.width_of.Given as goal

abbrev pub invariant-loop-agent : goal.invariant-loop-agent
invariant-loop-agent l = (l.longest ≡ fold (λ a list. max a (length list)) 0 (take l.agent l.problem.lists)) × (l.longest ≤ 201)
