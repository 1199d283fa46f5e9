-- The first fault of names that should be given ones: checks 1 and 2.
-- Places count from 0 here, and from 1 in a fault.
use Rattle.std.specs.Prelude.{ℕ, ◌+◌, not, List, length, slice_get, Option, Some, None, if◌then◌else◌}
use Rattle.std.specs.Option.{option_map, option_or}
use Rattle.std.specs.Str.{bytes_eq}
use Rattle.cert_check.specs.ShapeFaults.{same_entry}
use Rattle.cert_check.specs.declared.faults.Fault.{Fault}
use Rattle.cert_check.specs.declared.faults.Fault.TheVariants.{AgentsDiffer, ColumnsDiffer}
use Rattle.definitions.specs.Firsts.{first_in}

-- two lists of names differ at this place, or one of them ends there
abbrev pub name_look : List (List ℕ) → List (List ℕ) → ℕ → Option ℕ
name_look due found k =
    if not (same_entry bytes_eq (slice_get due k) (slice_get found k)) then Some (k + 1) else None

-- the first place at which they do
abbrev pub first_difference : List (List ℕ) → List (List ℕ) → Option ℕ
first_difference due found = first_in (name_look due found) 0 (length due + 1)

-- 1, and then 2: the names of agents, or of columns, differ first at this place
abbrev pub first_name_fault : (agents columns agents_found columns_found : List (List ℕ)) → Option Fault
first_name_fault agents columns agents_found columns_found =
    option_or (option_map (λ place. AgentsDiffer place) (first_difference agents agents_found))
    (option_map (λ place. ColumnsDiffer place) (first_difference columns columns_found))
