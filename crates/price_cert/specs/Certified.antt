-- What is promised of the prices and worths that are made.
use Rattle.std.specs.Prelude.{ℕ, ◌<◌, ◌^◌, List, All, pos, ◌+ℤ◌, ◌≤ℤ◌, ◌<ℤ◌}
use Rattle.definitions.specs.declared.Cell.{Cell}
use Rattle.definitions.specs.Sets.{units_of}
use Rattle.definitions.specs.Values.{ProblemValue, IsProblem, PricesValue, market_of}
use Rattle.definitions.specs.Eating.{share, IsEatingTable}
use Rattle.definitions.specs.Certificate.{Certifies, IsRecipeOf}
use Rattle.eating.specs.Answers.{IsEatenBy}
use Rattle.eating.specs.Eaten.{EatenValue}

-- what the agents have in the end, by cells
abbrev pub shares_of : ProblemValue → ℕ → List ℕ → Cell → ℕ
shares_of p d e c = share (market_of p) d e c.agent c.object

-- the recipe's numbers certify the shares of the eating table
abbrev pub RecipeCertifies : Type 0
RecipeCertifies = (p : ProblemValue) (d : ℕ) (e : List ℕ) (y : PricesValue)
    → IsProblem p → IsEatingTable (market_of p) d e → IsRecipeOf p d e y → Certifies p d (shares_of p d e) y

-- y are the recipe's numbers for the eating table of what is eaten
abbrev pub IsRecipeForEaten : ProblemValue → EatenValue → PricesValue → Type 0
IsRecipeForEaten p v y = (e : List ℕ) → IsEatenBy p e v → IsRecipeOf p v.shares.denominator e y

-- y certifies what is eaten
abbrev pub CertifiesEaten : ProblemValue → EatenValue → PricesValue → Type 0
CertifiesEaten p v y = Certifies p v.shares.denominator (units_of v.shares) y

-- prices and worths are below 2^25, and worths at least -201
pub record AreSmall (y : PricesValue) : Type 0 where
  pub prices : All (λ n. n < 2 ^ 25) y.price
  pub worths : All (λ ws. All (λ w. (pos 0 ≤ℤ (w +ℤ pos 201)) × (w <ℤ pos (2 ^ 25))) ws) y.worth
