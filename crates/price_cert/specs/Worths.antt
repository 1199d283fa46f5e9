-- Places of the lists by the recipe's numbers, and their worths.
use Rattle.std.specs.Prelude.{ℕ, ◌-◌, ◌*◌, min, List, [], ◌∷◌, Option, map, nat_lt, ℤ, pos}
use Rattle.definitions.specs.declared.Cell.{Cell}
use Rattle.definitions.specs.Sets.{cell_of, units_of, unit_at}
use Rattle.definitions.specs.Trees.{TreesValue, deepest_at}
use Rattle.definitions.specs.Values.{ProblemValue, list_at}
use Rattle.definitions.specs.Certificate.{ListPlace, next_level, worth_here, worths_along}
use Rattle.eating.specs.Eaten.{EatenValue}
use Rattle.price_cert.specs.declared.recipe.Recipe.{Recipe}
use Rattle.price_cert.specs.declared.worths.Place.{Place}
use Rattle.price_cert.specs.Moments.{number_in}
use Rattle.price_cert.specs.Ranks.{rank_at}

-- what contracts see of a place
abbrev pub place_value : Place → ListPlace
place_value q = record { eaten = q.eaten; level = q.level }

-- the place of a cell: its level is the width times what the least of the rank of its deepest set and of the number of its own
-- moment is below the top
abbrev pub place_in : Recipe → TreesValue → EatenValue → Cell → ListPlace
place_in r t v c = record {
  eaten = nat_lt 0 (units_of v.shares c);
  level = r.width * (r.top - min (rank_at r.ranks.items r.top (deepest_at t 2 c)) (number_in r.order.items (unit_at v.shares.columns v.caps c)));
}

-- the places of agent i's list
abbrev pub places_in : Recipe → ProblemValue → TreesValue → EatenValue → ℕ → List ListPlace
places_in r p t v i = map (λ a. place_in r t v (cell_of i a)) (list_at p i)

-- for each place the level of the next eaten place, from there on, plus the distance to it
abbrev pub levels_ahead : List ListPlace → List (Option ℕ)
levels_ahead [] = []
levels_ahead (b ∷ bs) = next_level (b ∷ bs) ∷ levels_ahead bs

-- the worths of places with these levels ahead, where `before` is the worth of the place before them
abbrev pub worths_by : ℤ → List (Option ℕ) → List ℤ
worths_by before [] = []
worths_by before (level ∷ levels) = worth_here before level ∷ worths_by (worth_here before level) levels

-- the worths of agent i's list
abbrev pub worths_in : Recipe → ProblemValue → TreesValue → EatenValue → ℕ → List ℤ
worths_in r p t v i = worths_along (pos 0) (places_in r p t v i)
