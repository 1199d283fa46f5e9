-- What contracts see of a net: its sets, what is left of a matrix and of its denominator, and a whole matrix.
use Rattle.std.specs.Prelude.{◌≡◌, ℕ, ◌*◌, ◌≤◌, ◌^◌, ◌⊎◌, List, length, map, sum, All}
use Rattle.definitions.specs.declared.Cell.{Cell}
use Rattle.definitions.specs.Sets.{SetValue, FamilyValue, ScaledValue, IsCellWithin, NoCrossing}
use Rattle.definitions.specs.Rounding.{SideSet}

-- the sets, the remainder, the weight left and the whole matrix; matrices row by row
pub record NetValue : Type 0 where
  pub agents : ℕ
  pub columns : ℕ
  pub sets : List SideSet
  pub rest : List ℕ
  pub left : ℕ
  pub whole : List ℕ

-- the cells of each of these sets
abbrev pub set_cells_of : List SideSet → List (List Cell)
set_cells_of sets = map (λ s. s.cells) sets

-- the cells of each set of a net
abbrev pub net_sets : NetValue → List (List Cell)
net_sets v = set_cells_of v.sets

-- a set of a family as its side and its cells
abbrev pub side_set : SetValue → SideSet
side_set s = record { side = s.side; cells = s.cells }

-- the sets of a family as their sides and cells
abbrev pub side_sets : FamilyValue → List SideSet
side_sets f = map side_set f.sets

-- a lawful net: sets of known sides over its cells of which no two of one side cross, at most so much left, and few whole units
pub record IsNet (v : NetValue) : Type 0 where
  pub agents_limit : v.agents ≤ 1000
  pub columns_limit : v.columns ≤ 201
  pub sets_limit : length v.sets ≤ 2000
  pub sides : All (λ s. (s.side ≡ 1) ⊎ (s.side ≡ 2)) v.sets
  pub apart : NoCrossing (map (λ s. s.cells) v.sets) (map (λ s. s.side) v.sets)
  pub inside : All (λ s. All (IsCellWithin v.agents v.columns) s.cells) v.sets
  pub rest_shape : length v.rest ≡ v.agents * v.columns
  pub whole_shape : length v.whole ≡ v.agents * v.columns
  pub left_limit : v.left ≤ 2 ^ 116
  pub rest_limit : All (λ y. y ≤ 1000 * v.left) v.rest
  pub total : sum v.rest ≤ 1000 * 2 ^ 116
  pub whole_limit : All (λ n. n ≤ 1000) v.whole

-- the net has the sets of the family, and all of the matrix is left
pub record IsNetOf (f : FamilyValue) (x : ScaledValue) (v : NetValue) : Type 0 where
  pub agents : v.agents ≡ f.agents
  pub columns : v.columns ≡ f.columns
  pub sets : v.sets ≡ side_sets f
  pub rest : v.rest ≡ x.units
  pub left : v.left ≡ x.denominator
