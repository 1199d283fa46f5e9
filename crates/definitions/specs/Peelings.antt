-- A decomposition under way, as the code keeps it: one step of it, and what it has given so far.
use Rattle.std.specs.Prelude.{◌≡◌, ◌≢◌, ℕ, ◌+◌, ◌*◌, ◌<◌, ◌≤◌, List, length, map, slice_index, All, AllPairs, sum_by, Option, Some}
use Rattle.definitions.specs.declared.Cell.{Cell}
use Rattle.definitions.specs.Pieces.{WeightedMatrix}
use Rattle.definitions.specs.Rounding.{Rounds, fractional_count, SideSet}

-- a decomposition under way: its sets, what is left of the matrix and of the denominator, the weights given, and the last piece
pub record PeelerValue : Type 0 where
  pub agents : ℕ
  pub columns : ℕ
  pub sets : List SideSet
  pub rest : List ℕ
  pub left : ℕ
  pub given : ℕ
  pub piece : Option (List ℕ)

-- the cells of each of its sets
abbrev pub sets_of : PeelerValue → List (List Cell)
sets_of v = map (λ s. s.cells) v.sets

-- one step takes the piece m with weight w off what is left: m rounds it; what rounds the new rest rounds the old one and isn't m;
-- and the count of fractional cells and sets falls
pub record IsStep (old new : PeelerValue) (w : ℕ) (m : List ℕ) : Type 0 where
  pub same : (new.sets ≡ old.sets) × (new.agents ≡ old.agents) × (new.columns ≡ old.columns) × (length new.rest ≡ length old.rest)
  pub piece : new.piece ≡ Some m
  pub weight : 1 ≤ w
  pub left : new.left + w ≡ old.left
  pub given : new.given ≡ old.given + w
  pub rounds : Rounds old.columns (sets_of old) old.rest old.left m
  pub rest : (i : ℕ) → i < length old.rest → slice_index new.rest i + w * slice_index m i ≡ slice_index old.rest i
  pub bounded : All (λ y. y ≤ 1000 * new.left) new.rest
  pub ahead : 1 ≤ new.left → (m' : List ℕ) → Rounds old.columns (sets_of old) new.rest new.left m' → Rounds old.columns (sets_of old) old.rest old.left m' × (m' ≢ m)
  pub fewer : 1 ≤ new.left → fractional_count old.columns (sets_of old) new.rest new.left < fractional_count old.columns (sets_of old) old.rest old.left

-- the pieces that were taken off x over `total` so far, where y over d is left
pub record Peeled (columns : ℕ) (sets : List (List Cell)) (x : List ℕ) (total : ℕ) (y : List ℕ) (d : ℕ) (ps : List WeightedMatrix) : Type 0 where
  pub shape : length y ≡ length x
  pub weights : All (λ p. 1 ≤ p.weight) ps
  pub given : sum_by (λ p. p.weight) ps + d ≡ total
  pub cells : (i : ℕ) → i < length x → sum_by (λ p. p.weight * slice_index p.matrix i) ps + slice_index y i ≡ slice_index x i
  pub rounded : All (λ p. Rounds columns sets x total p.matrix) ps
  pub distinct : AllPairs (λ p q. p.matrix ≢ q.matrix) ps
  pub ahead : 1 ≤ d → (m : List ℕ) → Rounds columns sets y d m → Rounds columns sets x total m × All (λ p. p.matrix ≢ m) ps
  pub few : 1 ≤ d → length ps + fractional_count columns sets y d ≤ fractional_count columns sets x total
  pub last : length ps ≤ fractional_count columns sets x total + 1
