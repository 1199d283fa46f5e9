-- What the refusal of a set says.
use Rattle.std.specs.Prelude.{Bool, true, false}
use Rattle.definitions.specs.Sets.{SetValue}
use Rattle.quota_sets.specs.declared.family.InsertFault.{InsertFault}
use Rattle.quota_sets.specs.declared.family.InsertFault.TheVariants.{TooManySets, TooManyCells, NoMemory}

-- the set that a refusal hands back
abbrev pub refused_set : InsertFault → SetValue
refused_set (TooManySets set) = set
refused_set (TooManyCells set) = set
refused_set (NoMemory set) = set

-- whether it says that there are too many sets
abbrev pub is_too_many_sets : InsertFault → Bool
is_too_many_sets (TooManySets set) = true
is_too_many_sets (TooManyCells set) = false
is_too_many_sets (NoMemory set) = false

-- whether it says that there would be too many cells
abbrev pub is_too_many_cells : InsertFault → Bool
is_too_many_cells (TooManySets set) = false
is_too_many_cells (TooManyCells set) = true
is_too_many_cells (NoMemory set) = false
