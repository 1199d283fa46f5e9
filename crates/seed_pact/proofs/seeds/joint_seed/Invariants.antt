use Rattle.std.proofs.Common.{take}
use Rattle.std.specs.List.{concat}
use Rattle.sha2.specs.Hashers.{Holds256}
use Rattle.seed_pact.proofs.seeds.joint_seed.Given as goal

abbrev pub invariant-loop-contribution : goal.invariant-loop-contribution
invariant-loop-contribution l = Holds256 l.hasher (concat (take l.contribution-index l.contribution-items))
