-- What a refusal says.
use Rattle.std.specs.Prelude.{Bool, true, false, String}
use Rattle.std.specs.declared.alloc.Global.{Global}
use Rattle.quota_sets.specs.declared.name_list.NameFault.{NameFault}
use Rattle.quota_sets.specs.declared.name_list.NameFault.TheVariants.{Repeated, NoMemory}

-- the name that a refusal hands back
abbrev pub refused_name : NameFault → String Global
refused_name (Repeated name) = name
refused_name (NoMemory name) = name

-- whether it says that the name is there already
abbrev pub is_repeated : NameFault → Bool
is_repeated (Repeated name) = true
is_repeated (NoMemory name) = false
