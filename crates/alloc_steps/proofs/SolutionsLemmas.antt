-- The lotteries that solve a problem: they are one but for the pieces, and there is one where there are few moments.
use Rattle.std.proofs.Common.{◌≡◌, ◌∙◌, ◌<◌, ℕ, List, Option, Some, ap, sym, subst, length, arith}
use Rattle.std.specs.Prelude.{◌^◌}
use Rattle.definitions.specs.Certificate.{IsRecipeOf, distinct_moments}
use Rattle.definitions.specs.Eating.{IsAssignmentOf, demand_sum}
use Rattle.definitions.specs.Lotteries.{LotteryValue, DesignValue, SolvesFor}
use Rattle.definitions.specs.Sets.{FamilyValue, ScaledValue}
use Rattle.definitions.specs.Values.{PieceValue, PricesValue, ProblemValue, IsProblem, column_count, limits_of, market_of}
use Rattle.eating_laws.proofs.Limits.{demand_total}
use Rattle.eating_laws.proofs.Unique.{same_table}
use Rattle.certificate_laws.proofs.RecipePrices.{same_recipe}
use Rattle.eating.proofs.ManyMoments.{many_moments}
use Rattle.eating.proofs.OneAnswer.{one_assignment}
use Rattle.eating.specs.Answers.{IsEatenBy}
use Rattle.eating.specs.Eaten.{EatenValue}
use Rattle.alloc_steps.specs.Solutions.{FitsWithFew}

-- a lottery by its parts
make : (agents columns : List (List ℕ)) (shares : ScaledValue) (lists : List (List ℕ)) (prices : Option PricesValue) (pieces : List PieceValue) (design : Option DesignValue) → LotteryValue
make agents columns shares lists prices pieces design = record {
  agents = agents;
  columns = columns;
  shares = shares;
  lists = lists;
  prices = prices;
  pieces = pieces;
  design = design;
}

same_but_pieces : (l m : LotteryValue) → m.agents ≡ l.agents → m.columns ≡ l.columns → m.shares ≡ l.shares → m.lists ≡ l.lists → m.prices ≡ l.prices
    → m ≡ record l { pieces = m.pieces; design = m.design }
unfolding make
same_but_pieces l m a b c d e =
    ap (λ agents. make agents m.columns m.shares m.lists m.prices m.pieces m.design) a
    ∙ ap (λ columns. make l.agents columns m.shares m.lists m.prices m.pieces m.design) b
    ∙ ap (λ shares. make l.agents l.columns shares m.lists m.prices m.pieces m.design) c
    ∙ ap (λ lists. make l.agents l.columns l.shares lists m.prices m.pieces m.design) d
    ∙ ap (λ prices. make l.agents l.columns l.shares l.lists prices m.pieces m.design) e

module _ (p : ProblemValue) (f g : FamilyValue) (l m : LotteryValue) (s : SolvesFor f p l) (t : SolvesFor g p m) where
  table : (m.shares.denominator ≡ l.shares.denominator) × (t.moments ≡ s.moments)
  table = same_table (market_of p) m.shares.denominator l.shares.denominator t.moments s.moments t.table s.table t.lowest s.lowest

  shares : m.shares ≡ l.shares
  shares =
      one_assignment (column_count p) (market_of p) l.shares.denominator s.moments m.shares l.shares
      (subst (λ D. IsAssignmentOf (column_count p) (market_of p) D s.moments m.shares) table.0
      (subst (λ e. IsAssignmentOf (column_count p) (market_of p) m.shares.denominator e m.shares) table.1 t.rows))
      s.rows

  prices : t.prices ≡ s.prices
  prices =
      same_recipe p l.shares.denominator s.moments s.problem t.prices s.prices
      (subst (λ D. IsRecipeOf p D s.moments t.prices) table.0
      (subst (λ e. IsRecipeOf p m.shares.denominator e t.prices) table.1 t.recipe))
      s.recipe

  -- two lotteries that solve a problem are one but for the pieces
  pub one_but_pieces : m ≡ record l { pieces = m.pieces; design = m.design }
  one_but_pieces =
      same_but_pieces l m (t.agents ∙ sym s.agents) (t.columns ∙ sym s.columns) shares (t.lists ∙ sym s.lists)
      (t.priced ∙ ap Some prices ∙ sym s.priced)

-- the shares of a lottery that solves a problem are what is eaten in it
pub solution_eaten : (p : ProblemValue) (f : FamilyValue) (l : LotteryValue) (e : List ℕ) (v : EatenValue) → SolvesFor f p l → IsEatenBy p e v → l.shares ≡ v.shares
solution_eaten p f l e v s eaten =
    let table = same_table (market_of p) l.shares.denominator v.shares.denominator s.moments e s.table eaten.table s.lowest eaten.lowest in
    one_assignment (column_count p) (market_of p) v.shares.denominator e l.shares v.shares
    (subst (λ D. IsAssignmentOf (column_count p) (market_of p) D e l.shares) table.0
    (subst (λ moments. IsAssignmentOf (column_count p) (market_of p) l.shares.denominator moments l.shares) table.1 s.rows))
    eaten.shares

-- with few moments, or few limits, no table is too fine
pub fits_with_few : (p : ProblemValue) → IsProblem p → FitsWithFew p
fits_with_few p h = record {
  moments = λ D e table few D' fine. (let many : 2 ^ 116 < demand_sum (market_of p) ^ length (distinct_moments e D) = (many_moments p D' h fine).moments D e table in
      absurd (omega (arith, few, many, ap (λ n. n ^ length (distinct_moments e D)) (demand_total p h))));
  limits = λ few D fine. (let many : 2 ^ 116 < demand_sum (market_of p) ^ length (limits_of p) = (many_moments p D h fine).limits in
      absurd (omega (arith, few, many, ap (λ n. n ^ length (limits_of p)) (demand_total p h))));
}
