use Rattle.std.proofs.Common.{◌≡◌, map, drop, take}
use Rattle.std.specs.List.{filter_map}
use Rattle.alloc_input.specs.Checks.{first_of}
use Rattle.alloc_input.specs.Stated.{member_of}
use Rattle.alloc_input.specs.Quotas.{check_member}
use Rattle.alloc_input.proofs.quotas.labels.read_named.Given as goal

abbrev pub invariant-loop-j : goal.invariant-loop-j
invariant-loop-j l =
    (first_of (map (check_member l.bundle l.names) (drop 2 l.row)) ≡ first_of (map (check_member l.bundle l.names) (drop l.j (drop 2 l.row))))
    × (l.list.items ≡ filter_map (member_of l.names) (take l.j (drop 2 l.row)))
