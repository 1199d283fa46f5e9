-- The numbers from which prices and worths are made.
use Rattle.std.specs.Prelude.{◌≡◌, ◌+◌, ◌<◌, ◌≤◌, length, map, IfSome, Some}
use Rattle.std.specs.List.{range_with_len}
use Rattle.std.specs.List.Sorted.{IsStrictlyIncreasing}
use Rattle.definitions.specs.declared.Cell.{Cell}
use Rattle.definitions.specs.Sets.{IsCellWithin}
use Rattle.definitions.specs.Trees.{TreesValue, deepest_at}
use Rattle.definitions.specs.Values.{ProblemValue, IsProblem}
use Rattle.definitions.specs.Certificate.{recipe_width}
use Rattle.eating.specs.Eaten.{EatenValue}
use Rattle.price_cert.specs.declared.recipe.Recipe.{Recipe}
use Rattle.price_cert.specs.Moments.{IsNumbering, number_in}
use Rattle.price_cert.specs.Ranks.{rank_in}

-- the recipe's numbers are those of the problem, of its trees, and of what is eaten in it
pub record IsRecipeFor (p : ProblemValue) (t : TreesValue) (v : EatenValue) (r : Recipe) : Type 0 where
  pub lawful : IsProblem p
  pub numbering : IsNumbering v.shares.denominator v.moments v.caps r.order.items
  pub top : r.top ≡ length r.order.items + 1
  pub ranks : r.ranks.items ≡ map (λ s. rank_in (map (number_in r.order.items) v.moments) r.top t (Some s)) (range_with_len 1 (length v.moments))
  pub width : r.width ≡ recipe_width p
  pub small : r.width ≤ 202

-- the recipe's numbers are small, and it has a rank for the deepest set of each cell
pub record IsFitting (r : Recipe) (t : TreesValue) (v : EatenValue) : Type 0 where
  pub agents : v.shares.agents ≡ t.agents
  pub columns : v.shares.columns ≡ t.columns
  pub agents_few : t.agents ≤ 1000
  pub columns_few : t.columns ≤ 201
  pub rise : IsStrictlyIncreasing r.order.items
  pub few : length r.order.items ≤ 202000
  pub top : r.top ≡ length r.order.items + 1
  pub width : r.width ≤ 202
  pub deepest : (c : Cell) → IsCellWithin t.agents t.columns c → IfSome (deepest_at t 2 c) (λ s. (0 < s) × (s ≤ length r.ranks.items))
