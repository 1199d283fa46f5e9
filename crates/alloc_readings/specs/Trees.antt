-- Whether a family has two trees.
use Rattle.std.specs.Prelude.{Result, Ok, Err}
use Rattle.bihierarchy.specs.Crossing.{IsLeastCrossing}
use Rattle.bihierarchy.specs.declared.trees.TreesFault.{TreesFault}
use Rattle.bihierarchy.specs.declared.trees.TreesFault.TheVariants as trees
use Rattle.definitions.specs.Sets.{FamilyValue}
use Rattle.definitions.specs.Trees.{TreesValue, AreTreesOf}

-- a family has these trees, or this is its least pair of sets that cross
abbrev pub CrossesOrTrees : FamilyValue → Result TreesValue TreesFault → Type 0
CrossesOrTrees f (Ok t) = AreTreesOf f t
CrossesOrTrees f (Err (trees.Crossing first second)) = IsLeastCrossing f first second
CrossesOrTrees f (Err trees.NoMemory) = ⊥
