-- The lottery that a decomposition makes: it is lawful, and its pieces decompose its shares.
use Rattle.std.proofs.Common.{◌≡◌, ◌≤◌, ◌⊎◌, ◌∙◌, ℕ, List, Option, Result, Ok, Err, All, inr, length, subst, sym}
use Rattle.std.proofs.lemmas.List.Elements.{All-map}
use Rattle.definitions.specs.declared.Cell.{Cell}
use Rattle.definitions.specs.Gives.{pieces_of, piece_of_matrix}
use Rattle.definitions.specs.Lotteries.{HasNoPrices, HasPrices, IsLottery, LotteryValue, matrices_of}
use Rattle.definitions.specs.Peelings.{PeelerValue, sets_of}
use Rattle.definitions.specs.Pieces.{AreGives, Decomposes, WeightedMatrix, weighted_pieces}
use Rattle.definitions.specs.Sets.{FamilyValue, ScaledValue, IsScaledMatrix, cells_of}
use Rattle.definitions.specs.Values.{PieceValue, PricesValue}
use Rattle.definitions.proofs.Gives.{AreShaped, weighted_back, all_gives_lawful}
use Rattle.definitions.proofs.Sums.{sum_mapped}
use Rattle.device_core.specs.declared.faults.SinkFault.{SinkFault}
use Rattle.device_core.specs.declared.faults.SinkFault.TheVariants as sink
use Rattle.peeling.specs.Peelers.{IsPeeler, IsStart}
use Rattle.peeling.proofs.Given.{start_sets, shaped_pieces}
use Rattle.alloc_steps.specs.Writing.{lottery_with, WritesLottery, WritesLotteryOrNothing}

-- ---- whole matrices as the pieces of a lottery

module _ (agents columns : List (List ℕ)) (x : ScaledValue) (lists : List (List ℕ)) (prices : Option PricesValue) (ps : List WeightedMatrix) where
  -- the lottery with these pieces is lawful
  pub lawful_with : IsScaledMatrix x → x.agents ≡ length agents → x.columns ≡ length columns
      → HasPrices (lottery_with agents columns x lists prices ps) ⊎ HasNoPrices (lottery_with agents columns x lists prices ps)
      → AreShaped x.agents x.columns ps → (sets : List (List Cell)) → Decomposes x.columns sets x.units x.denominator ps
      → IsLottery (lottery_with agents columns x lists prices ps)
  lawful_with matrix rows wide priced shaped sets decompose =
      let lawful : All (λ (p : PieceValue). AreGives x.agents x.columns p.gives) (pieces_of x.columns ps) = all_gives_lawful x.agents x.columns ps shaped in
      record {
        shares = matrix;
        rows = rows;
        columns = wide;
        priced = priced;
        weights = All-map (λ (p : PieceValue). 1 ≤ p.weight) (piece_of_matrix (length columns)) ps decompose.weights;
        adds_up = sum_mapped (λ (p : PieceValue). p.weight) (piece_of_matrix (length columns)) ps ∙ decompose.adds_up;
        gives = subst (λ c. All (λ (p : PieceValue). AreGives x.agents x.columns p.gives) (pieces_of c ps)) wide lawful;
      }

  -- its pieces decompose what the matrices do
  pub decompose_with : x.columns ≡ length columns → AreShaped x.agents x.columns ps → (sets : List (List Cell)) → Decomposes x.columns sets x.units x.denominator ps
      → Decomposes x.columns sets x.units x.denominator (matrices_of (lottery_with agents columns x lists prices ps))
  decompose_with wide shaped sets decompose =
      let back : weighted_pieces x.agents x.columns (pieces_of x.columns ps) ≡ ps = weighted_back x.agents x.columns ps shaped in
      subst (λ c. Decomposes x.columns sets x.units x.denominator (weighted_pieces x.agents x.columns (pieces_of c ps))) wide
      (subst (λ (qs : List WeightedMatrix). Decomposes x.columns sets x.units x.denominator qs) (sym back) decompose)

-- ---- a decomposition that starts with a matrix

module _ (f : FamilyValue) (x : ScaledValue) (v : PeelerValue) (ps : List WeightedMatrix) (start : IsStart f x v) (columns : x.columns ≡ f.columns) (decompose : Decomposes v.columns (sets_of v) v.rest v.left ps) where
  -- its pieces have the matrix's shape
  pub shaped_at : IsPeeler v → x.agents ≡ f.agents → AreShaped x.agents x.columns ps
  shaped_at lawful rows =
      subst (λ c. AreShaped x.agents c ps) (start.columns ∙ sym columns) (subst (λ a. AreShaped a v.columns ps) (start.agents ∙ sym rows) (shaped_pieces v ps lawful decompose))

  -- it decomposes the matrix
  pub decomposes_at : Decomposes x.columns (cells_of f) x.units x.denominator ps
  decomposes_at =
      subst (λ d. Decomposes x.columns (cells_of f) x.units d ps) start.left
      (subst (λ (u : List ℕ). Decomposes x.columns (cells_of f) u v.left ps) start.rest
      (subst (λ (s : List (List Cell)). Decomposes x.columns s v.rest v.left ps) (start_sets f x v start)
      (subst (λ c. Decomposes c (sets_of v) v.rest v.left ps) (start.columns ∙ sym columns) decompose)))

-- ---- what a writer leaves

-- a lottery was begun
pub begun : {K T : Type 0} (written : K → Option (List ℕ)) (property : LotteryValue → Type 0) (old new : K) (r : Result T SinkFault) → WritesLottery written property old new r → WritesLotteryOrNothing written property old new r
begun written property old new (Ok v) w = w
begun written property old new (Err sink.Failed) w = w
begun written property old new (Err sink.NoMemory) w = inr w
