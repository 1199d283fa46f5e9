use Rattle.std.proofs.Common.{◌≡◌, take}
use Rattle.lottery_file.specs.Lotteries.{lists_value}
use Rattle.alloc_steps.proofs.copies.lists_of.Given as goal

-- the lists so far
abbrev pub invariant-loop-agent : goal.invariant-loop-agent
invariant-loop-agent l = lists_value l.lists.items ≡ take l.agent l.problem.lists
