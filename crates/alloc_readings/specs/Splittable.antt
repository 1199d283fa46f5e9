-- Texts of a matrix and of quotas from which a lottery can be made.
use Rattle.std.specs.Prelude.{◌≤◌, ℕ, List, Ok, length}
use Rattle.alloc_outcomes.specs.Limits.{file_limit}
use Rattle.alloc_readings.specs.Family.{QuotasTextReads}
use Rattle.alloc_readings.specs.Shares.{MatrixTextReads}
use Rattle.definitions.specs.Scaling.{IsScaled}
use Rattle.definitions.specs.Sets.{FamilyValue, ScaledValue, IsBihierarchy, IsFeasible, IsScaledMatrix}
use Rattle.definitions.specs.Values.{SharesValue}
use Rattle.scaled_matrix.specs.Scaling.{IsOverTotal}

-- texts of a matrix and of quotas that are short and lawful; no two sets of one side cross; all
-- shares together are at most 1,000; and the shares, in units over their least common denominator,
-- are feasible
pub record IsSplittable (matrix quotas : List ℕ) (given : SharesValue)
    (f : FamilyValue) : Type 0 where
  pub short : (length matrix ≤ file_limit) × (length quotas ≤ file_limit)
  pub shares : MatrixTextReads matrix (Ok given)
  pub family : QuotasTextReads given quotas (Ok f)
  pub apart : IsBihierarchy f
  pub total : IsOverTotal given → ⊥
  pub feasible : (x : ScaledValue) → IsScaled given x → IsScaledMatrix x → IsFeasible f x
