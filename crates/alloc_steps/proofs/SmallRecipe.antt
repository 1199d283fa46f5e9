-- The prices and worths of the recipe are within 2^40, whatever tables of parents are taken.
use Rattle.std.proofs.Common.{◌≤◌, ◌^◌, ◌+ℤ◌, ◌≤ℤ◌, ◌<ℤ◌, ℕ, ℤ, List, pos, nat_abs, sym, subst, length, get_or, arith, All}
use Rattle.std.specs.List.{range_with_len}
use Rattle.std.proofs.lemmas.Int.{ints}
use Rattle.std.proofs.lemmas.List.Elements.{All-map, All-from_recursion, All-weaker}
use Rattle.definitions.specs.Certificate.{recipe_price, recipe_worths, IsRecipeOf}
use Rattle.definitions.specs.Eating.{IsEatingTable}
use Rattle.definitions.specs.Values.{ProblemValue, IsProblem, PricesValue, market_of}
use Rattle.definitions.proofs.Lists.{each_below}
use Rattle.price_cert.proofs.Small.{price_small, worths_small}

-- prices and worths are within 2^40
pub record AreWithin (y : PricesValue) : Type 0 where
  pub prices : All (λ n. n ≤ 2 ^ 40) y.price
  pub worths : All (λ ws. All (λ w. nat_abs w ≤ 2 ^ 40) ws) y.worth

abs_small : (w : ℤ) → pos 0 ≤ℤ (w +ℤ pos 201) → w <ℤ pos (2 ^ 25) → nat_abs w ≤ 2 ^ 40
abs_small w low high = omega (arith, ints, low, high)

-- the recipe's numbers are
pub recipe_within : (p : ProblemValue) (d : ℕ) (e : List ℕ) (y : PricesValue) → IsProblem p → IsEatingTable (market_of p) d e → IsRecipeOf p d e y → AreWithin y
recipe_within p d e y h table made = record {
  prices = subst (All (λ n. n ≤ 2 ^ 40)) (sym made.prices) (All-map (λ n. n ≤ 2 ^ 40) (recipe_price p made.trees d e) (range_with_len 1 p.stated)
      (λ k b l. (let low = price_small p h d e table made.trees (get_or (range_with_len 1 p.stated) k b) in omega (arith, low))));
  worths = subst (All (All (λ w. nat_abs w ≤ 2 ^ 40))) (sym made.worths)
      (All-map (All (λ w. nat_abs w ≤ 2 ^ 40)) (recipe_worths p d e) (range_with_len 0 (length p.lists))
      (All-from_recursion (λ i. All (λ w. nat_abs w ≤ 2 ^ 40) (recipe_worths p d e i)) (range_with_len 0 (length p.lists))
      (each_below (λ i. All (λ w. nat_abs w ≤ 2 ^ 40) (recipe_worths p d e i)) 0 (length p.lists)
      (λ i l m. All-weaker (λ w. (pos 0 ≤ℤ (w +ℤ pos 201)) × (w <ℤ pos (2 ^ 25))) (λ w. nat_abs w ≤ 2 ^ 40) (λ w both. abs_small w both.0 both.1) (recipe_worths p d e i)
      (worths_small p h d e table i (omega (arith, m)))))));
}
