-- How many cells are capped, and so how many limits come after the stated sets.
use Rattle.std.specs.Prelude.{ℕ, ◌-◌, List, length, sum_by, nat_le, if◌then◌else◌}
use Rattle.definitions.specs.Values.{Agent}

-- the capped cells of an agent: those of the places before the last, where the demand is 2 or more
abbrev pub capped_count : ℕ → List ℕ → ℕ
capped_count demand list = if nat_le 2 demand then length list - 1 else 0

-- the capped cells of these agents
abbrev pub caps_before : List Agent → ℕ
caps_before agents = sum_by (λ w. capped_count w.demand w.list) agents
