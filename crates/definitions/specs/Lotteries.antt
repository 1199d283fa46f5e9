-- Lotteries, and which of them solves a problem or splits given shares. The project's own.
use Rattle.std.specs.Prelude.{◌≡◌, ℕ, ◌≤◌, ◌⊎◌, Bool, true, false, List, [], ◌∷◌, ◌++◌, Option, Some, None, length, All, sum_by}
use Rattle.std.specs.Str.{bytes_eq}
use Rattle.definitions.specs.Sets.{FamilyValue, ScaledValue, units_of, cells_of, IsScaledMatrix}
use Rattle.definitions.specs.Values.{ProblemValue, IsProblem, PricesValue, PieceValue, SharesValue, column_count, market_of}
use Rattle.definitions.specs.Eating.{IsEatingTable, IsLowestTerms, IsAssignmentOf}
use Rattle.definitions.specs.Certificate.{Certifies, IsRecipeOf}
use Rattle.definitions.specs.Scaling.{IsScaled}
use Rattle.definitions.specs.Pieces.{WeightedMatrix, Decomposes, weighted_pieces, AreGives}
use Rattle.definitions.specs.Texts.{null_name}

-- the design that a lottery may carry: the demands of its agents and the stated sets
pub record DesignValue : Type 0 where
  pub demands : List ℕ
  pub family : FamilyValue

-- a lottery: the names, the expected assignment, the lists and prices where it solves a problem, and the weighted pieces
pub record LotteryValue : Type 0 where
  pub agents : List (List ℕ)
  pub columns : List (List ℕ)
  pub shares : ScaledValue
  pub lists : List (List ℕ)
  pub prices : Option PricesValue
  pub pieces : List PieceValue
  pub design : Option DesignValue

-- its pieces as weighted matrices
abbrev pub matrices_of : LotteryValue → List WeightedMatrix
matrices_of l = weighted_pieces l.shares.agents l.shares.columns l.pieces

-- the last of these names is `none`
abbrev pub ends_with_none : List (List ℕ) → Bool
ends_with_none [] = false
ends_with_none (name ∷ []) = bytes_eq name null_name
ends_with_none (name ∷ next ∷ names) = ends_with_none (next ∷ names)

-- the lottery has prices: its last column is `none`, and each agent has a list and a list of worths
pub record HasPrices (l : LotteryValue) : Type 0 where
  pub named : ends_with_none l.columns ≡ true
  pub prices : PricesValue
  pub given : l.prices ≡ Some prices
  pub lists : length l.lists ≡ length l.agents
  pub worths : length prices.worth ≡ length l.agents

-- the lottery has no prices: its last column isn't `none`, and it has no lists
pub record HasNoPrices (l : LotteryValue) : Type 0 where
  pub named : ends_with_none l.columns ≡ false
  pub prices : l.prices ≡ None
  pub lists : l.lists ≡ []

-- a lawful lottery: a lawful matrix with a row for each agent and a column for each column, prices exactly where the last column is
-- `none`, weights of at least 1 that add up to the denominator, and lawful gives in each piece
pub record IsLottery (l : LotteryValue) : Type 0 where
  pub shares : IsScaledMatrix l.shares
  pub rows : l.shares.agents ≡ length l.agents
  pub columns : l.shares.columns ≡ length l.columns
  pub priced : HasPrices l ⊎ HasNoPrices l
  pub weights : All (λ p. 1 ≤ p.weight) l.pieces
  pub adds_up : sum_by (λ p. p.weight) l.pieces ≡ l.shares.denominator
  pub gives : All (λ p. AreGives l.shares.agents l.shares.columns p.gives) l.pieces

-- l solves a lawful problem, with pieces for the family f: the names and lists are the problem's; the shares are those of the eating table in
-- lowest terms; the prices are those of the recipe and certify the shares; and the pieces decompose them
pub record SolvesFor (f : FamilyValue) (p : ProblemValue) (l : LotteryValue) : Type 0 where
  pub problem : IsProblem p
  pub lottery : IsLottery l
  pub agents : l.agents ≡ p.agents
  pub columns : l.columns ≡ p.objects ++ null_name ∷ []
  pub lists : l.lists ≡ p.lists
  pub moments : List ℕ
  pub prices : PricesValue
  pub table : IsEatingTable (market_of p) l.shares.denominator moments
  pub lowest : IsLowestTerms l.shares.denominator moments
  pub rows : IsAssignmentOf (column_count p) (market_of p) l.shares.denominator moments l.shares
  pub priced : l.prices ≡ Some prices
  pub recipe : IsRecipeOf p l.shares.denominator moments prices
  pub certified : Certifies p l.shares.denominator (units_of l.shares) prices
  pub pieces : Decomposes (column_count p) (cells_of f) l.shares.units l.shares.denominator (matrices_of l)

-- l solves the problem: its pieces decompose the shares for the problem's own family, which has each agent's row
abbrev pub Solves : ProblemValue → LotteryValue → Type 0
Solves p l = SolvesFor p.family p l

-- l splits the given shares, with pieces for the family f: the names are those given, the shares are in units over their least common
-- denominator, there are no prices and no lists, and the pieces decompose the shares
pub record Splits (given : SharesValue) (f : FamilyValue) (l : LotteryValue) : Type 0 where
  pub lottery : IsLottery l
  pub agents : l.agents ≡ given.agents
  pub columns : l.columns ≡ given.objects
  pub scaled : IsScaled given l.shares
  pub plain : (l.prices ≡ None) × (l.lists ≡ [])
  pub pieces : Decomposes l.shares.columns (cells_of f) l.shares.units l.shares.denominator (matrices_of l)
