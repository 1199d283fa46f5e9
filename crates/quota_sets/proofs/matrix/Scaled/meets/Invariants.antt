use Rattle.std.proofs.Common.{ℕ, ◌<◌, get_or}
use Rattle.definitions.specs.Sets.{SetValue, IsSetFeasible}
use Rattle.quota_sets.proofs.matrix.Scaled.meets.Given as goal

abbrev pub invariant-loop-place : goal.invariant-loop-place
invariant-loop-place l = (k : ℕ) (d : SetValue) → k < l.place → IsSetFeasible l.self (get_or l.family.sets k d)
