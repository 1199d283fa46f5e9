use Rattle.std.proofs.Common.{◌≡◌, ◌≤◌, map, take, All}
use Rattle.std.specs.Prelude.{◌^◌}
use Rattle.definitions.specs.Sets.{cell_of}
use Rattle.price_cert.specs.Worths.{place_value, place_in}
use Rattle.price_cert.proofs.worths.places_of.Given as goal

abbrev pub invariant-loop-object : goal.invariant-loop-object
invariant-loop-object l = (map place_value l.places.items ≡ map (λ a. place_in l.recipe l.trees l.eaten (cell_of l.agent a)) (take l.object-index l.object-items))
    × All (λ q. q.level ≤ 2 ^ 26) l.places.items
