-- The lottery that a decomposition of what is eaten in a problem makes.
use Rattle.std.proofs.Common.{◌≡◌, ◌∙◌, ◌++◌, ◌∷◌, [], ℕ, suc, All, List, Option, None, Some, Result, ap, arith, inl, length, length-append, refl, subst, sym, true}
use Rattle.std.specs.Prelude.{slice_get, sum_by}
use Rattle.std.specs.List.{AllZip}
use Rattle.std.proofs.lemmas.Option.{slice_get_within}
use Rattle.definitions.specs.Certificate.{Certifies, HasShapeOf, IsRecipeOf}
use Rattle.definitions.specs.Lotteries.{LotteryValue, SolvesFor, ends_with_none, matrices_of}
use Rattle.definitions.specs.Peelings.{PeelerValue, sets_of}
use Rattle.definitions.specs.Pieces.{AreGives, Decomposes, WeightedMatrix, weighted, weighted_pieces}
use Rattle.definitions.specs.Sets.{FamilyValue, ScaledValue, IsScaledMatrix, cells_of, units_of}
use Rattle.definitions.specs.Texts.{null_name}
use Rattle.definitions.specs.Values.{IsProblem, PieceValue, PricesValue, ProblemValue, column_count}
use Rattle.definitions.proofs.Gives.{AreShaped}
use Rattle.definitions.proofs.Sums.{sum_mapped}
use Rattle.device_core.specs.declared.faults.SinkFault.{SinkFault}
use Rattle.eating.specs.Answers.{IsEatenBy}
use Rattle.eating.specs.Eaten.{EatenValue}
use Rattle.eating_laws.proofs.Limits.{agent_count}
use Rattle.lottery_file.specs.Written.{ShapesAgree}
use Rattle.peeling.specs.Peelers.{ArePiecesOf, IsPeeler, IsStart}
use Rattle.alloc_steps.specs.Writing.{lottery_with, WritesLottery, WritesPieces}
use Rattle.alloc_steps.proofs.Decomposed.{decompose_with, decomposes_at, lawful_with, shaped_at}

-- names and then `none` end with `none`
ends_after : (names : List (List ℕ)) → ends_with_none (names ++ null_name ∷ []) ≡ true
ends_after [] = refl
ends_after (a ∷ []) = refl
ends_after (a ∷ b ∷ names) = ends_after (b ∷ names)

-- lists of equal length whose entries agree place by place
zip_places : {X Y : Type 0} (R : X → Y → Type 0) (xs : List X) (ys : List Y) → length ys ≡ length xs
    → ((i : ℕ) (x : X) (y : Y) → slice_get xs i ≡ Some x → slice_get ys i ≡ Some y → R x y) → AllZip R xs ys
zip_places R [] [] same each = tt
zip_places R [] (y ∷ ys) same each = absurd (omega (arith, same))
zip_places R (x ∷ xs) [] same each = absurd (omega (arith, same))
zip_places R (x ∷ xs) (y ∷ ys) same each = (each 0 x y refl refl, zip_places R xs ys (omega (arith, same)) (λ i a b e f. each (suc i) a b e f))

-- there is a worth for each place of each list
worths_agree : (p : ProblemValue) (y : PricesValue) → HasShapeOf p y → AllZip (λ list worth. length worth ≡ length list) p.lists y.worth
worths_agree p y shape =
    zip_places (λ list worth. length worth ≡ length list) p.lists y.worth shape.lists
    (λ i list worth e f. rw (f, e) at (shape.places i (slice_get_within p.lists i list e)))

-- a lottery by its parts, without a design
unfoldable pub put_together : (agents columns : List (List ℕ)) (shares : ScaledValue) (lists : List (List ℕ)) (prices : Option PricesValue) (pieces : List PieceValue) → LotteryValue
put_together agents columns shares lists prices pieces = record {
  agents = agents;
  columns = columns;
  shares = shares;
  lists = lists;
  prices = prices;
  pieces = pieces;
  design = None;
}

-- a family over the problem's agents and columns
pub record IsSized (p : ProblemValue) (f : FamilyValue) : Type 0 where
  pub agents : f.agents ≡ length p.agents
  pub columns : f.columns ≡ column_count p

-- the problem's own is
pub own_sized : (p : ProblemValue) → IsProblem p → IsSized p p.family
own_sized p lawful = record { agents = lawful.family_agents; columns = lawful.family_columns }

-- what is eaten in a problem, with prices that certify it, and a family
module _ (f : FamilyValue) (p : ProblemValue) (v : EatenValue) (y : PricesValue) (e : List ℕ) (sized : IsSized p f) (lawful : IsProblem p) (eaten : IsEatenBy p e v) (certified : Certifies p v.shares.denominator (units_of v.shares) y) where
  abbrev with_none : List (List ℕ)
  with_none = p.objects ++ null_name ∷ []

  eaten_agents : v.shares.agents ≡ length p.agents
  eaten_agents = eaten.shares.agents ∙ agent_count p lawful

  eaten_columns : v.shares.columns ≡ length with_none
  eaten_columns = eaten.shares.columns ∙ sym (length-append p.objects (null_name ∷ []))

  -- it has a row for each agent of the family
  pub family_rows : v.shares.agents ≡ f.agents
  family_rows = eaten_agents ∙ sym sized.agents

  family_columns : v.shares.columns ≡ f.columns
  family_columns = eaten.shares.columns ∙ sym sized.columns

  -- it can be written
  shapes : ShapesAgree p.agents with_none v.shares p.lists (Some y)
  shapes = record {
    row_each = eaten_agents;
    unit_each = eaten_columns;
    listed = record { many = lawful.lists_many; places = worths_agree p y certified.shape };
  }

  -- pieces that decompose it make a lottery that solves the problem
  solves_with : (ps : List WeightedMatrix) → IsScaledMatrix v.shares → IsRecipeOf p v.shares.denominator e y → AreShaped v.shares.agents v.shares.columns ps
      → Decomposes v.shares.columns (cells_of f) v.shares.units v.shares.denominator ps → SolvesFor f p (lottery_with p.agents with_none v.shares p.lists (Some y) ps)
  solves_with ps matrix recipe shaped decompose = record {
    problem = lawful;
    lottery = lawful_with p.agents with_none v.shares p.lists (Some y) ps matrix eaten_agents eaten_columns
        (inl (record { named = ends_after p.objects; prices = y; given = refl; lists = lawful.lists_many; worths = certified.shape.lists ∙ lawful.lists_many }))
        shaped (cells_of f) decompose;
    agents = refl;
    columns = refl;
    lists = refl;
    moments = e;
    prices = y;
    table = eaten.table;
    lowest = eaten.lowest;
    rows = eaten.shares;
    priced = refl;
    recipe = recipe;
    certified = certified;
    pieces = subst (λ c. Decomposes c (cells_of f) v.shares.units v.shares.denominator (matrices_of (lottery_with p.agents with_none v.shares p.lists (Some y) ps))) eaten.shares.columns
        (decompose_with p.agents with_none v.shares p.lists (Some y) ps eaten_columns shaped (cells_of f) decompose);
  }

  -- the lottery that is written with the pieces of such a decomposition
  solved_written : {K T : Type 0} (written : K → Option (List ℕ)) (w : PeelerValue) (old new : K) (r : Result T SinkFault) → IsScaledMatrix v.shares → IsRecipeOf p v.shares.denominator e y
      → IsStart f v.shares w → IsPeeler w
      → WritesPieces w.columns (sets_of w) w.rest w.left (lottery_with p.agents with_none v.shares p.lists (Some y)) (written old) (written new) r → WritesLottery written (SolvesFor f p) old new r
  solved_written written w old new r matrix recipe start peeler did =
      let wide : v.shares.columns ≡ f.columns = family_columns in
      let shaped : AreShaped v.shares.agents v.shares.columns did.pieces = shaped_at f v.shares w did.pieces start wide did.decompose peeler family_rows in
      record {
        lottery = lottery_with p.agents with_none v.shares p.lists (Some y) did.pieces;
        plain = refl;
        has = solves_with did.pieces matrix recipe shaped (decomposes_at f v.shares w did.pieces start wide did.decompose);
        bytes = did.bytes;
      }

  -- the lottery of such pieces in a list solves the problem
  solves_list : (pieces : List PieceValue) (w : PeelerValue) → IsScaledMatrix v.shares → IsRecipeOf p v.shares.denominator e y → IsStart f v.shares w → ArePiecesOf w pieces
      → SolvesFor f p (put_together p.agents with_none v.shares p.lists (Some y) pieces)
  unfolding put_together
  solves_list pieces w matrix recipe start did =
      let wide : v.shares.columns ≡ f.columns = family_columns in
      let rows : w.agents ≡ v.shares.agents = start.agents ∙ sym family_rows in
      let across : w.columns ≡ v.shares.columns = start.columns ∙ sym wide in
      let weight : WeightedMatrix → ℕ = λ q. q.weight in
      let adds_up : sum_by (λ (q : PieceValue). q.weight) pieces ≡ v.shares.denominator =
      sym (sum_mapped weight (weighted w.agents w.columns) pieces) ∙ did.decompose.adds_up ∙ start.left in
      let gives : All (λ (q : PieceValue). AreGives v.shares.agents v.shares.columns q.gives) pieces =
      subst (λ c. All (λ (q : PieceValue). AreGives v.shares.agents c q.gives) pieces) across
      (subst (λ a. All (λ (q : PieceValue). AreGives a w.columns q.gives) pieces) rows did.gives) in
      let split : Decomposes v.shares.columns (cells_of f) v.shares.units v.shares.denominator (weighted_pieces w.agents w.columns pieces) =
      decomposes_at f v.shares w (weighted_pieces w.agents w.columns pieces) start wide did.decompose in
      let own : Decomposes v.shares.columns (cells_of f) v.shares.units v.shares.denominator (weighted_pieces v.shares.agents v.shares.columns pieces) =
      subst (λ c. Decomposes v.shares.columns (cells_of f) v.shares.units v.shares.denominator (weighted_pieces v.shares.agents c pieces)) across
      (subst (λ a. Decomposes v.shares.columns (cells_of f) v.shares.units v.shares.denominator (weighted_pieces a w.columns pieces)) rows split) in
      record {
        problem = lawful;
        lottery = record {
          shares = matrix;
          rows = eaten_agents;
          columns = eaten_columns;
          priced = inl (record { named = ends_after p.objects; prices = y; given = refl; lists = lawful.lists_many; worths = certified.shape.lists ∙ lawful.lists_many });
          weights = did.weights;
          adds_up = adds_up;
          gives = gives;
        };
        agents = refl;
        columns = refl;
        lists = refl;
        moments = e;
        prices = y;
        table = eaten.table;
        lowest = eaten.lowest;
        rows = eaten.shares;
        priced = refl;
        recipe = recipe;
        certified = certified;
        pieces = subst (λ c. Decomposes c (cells_of f) v.shares.units v.shares.denominator (weighted_pieces v.shares.agents v.shares.columns pieces)) eaten.shares.columns own;
      }

  -- the same of the parts that calls give
  pub solves_gathered : (agents columns lists : List (List ℕ)) (shares : ScaledValue) (pieces : List PieceValue) (w : PeelerValue) (g : FamilyValue) (x : ScaledValue)
      → agents ≡ p.agents → columns ≡ with_none → lists ≡ p.lists → shares ≡ v.shares → g ≡ f → x ≡ v.shares
      → IsScaledMatrix v.shares → IsRecipeOf p v.shares.denominator e y → IsStart g x w → ArePiecesOf w pieces
      → SolvesFor f p (put_together agents columns shares lists (Some y) pieces)
  solves_gathered agents columns lists shares pieces w g x of_agents of_columns of_lists of_shares of_family of_units matrix recipe start did =
      let begun_with : IsStart f v.shares w = subst (λ (h : FamilyValue). IsStart h v.shares w) of_family (subst (λ (z : ScaledValue). IsStart g z w) of_units start) in
      let same : put_together agents columns shares lists (Some y) pieces ≡ put_together p.agents with_none v.shares p.lists (Some y) pieces =
      ap (λ a. put_together a columns shares lists (Some y) pieces) of_agents
      ∙ ap (λ c. put_together p.agents c shares lists (Some y) pieces) of_columns
      ∙ ap (λ z. put_together p.agents with_none z lists (Some y) pieces) of_shares
      ∙ ap (λ l. put_together p.agents with_none v.shares l (Some y) pieces) of_lists in
      subst (SolvesFor f p) (sym same) (solves_list pieces w matrix recipe begun_with did)

  -- ---- the same of what the calls of the problem and of what is eaten give

  pub shapes_made : (agents names lists : List (List ℕ)) (x : ScaledValue) → agents ≡ p.agents → names ≡ with_none → lists ≡ p.lists → x ≡ v.shares → ShapesAgree agents names x lists (Some y)
  shapes_made agents names lists x of_agents of_names of_lists of_shares = rw (of_agents, of_names, of_lists, of_shares) shapes

  pub solved_made : {K T : Type 0} (written : K → Option (List ℕ)) (w : PeelerValue) (old new : K) (r : Result T SinkFault) → IsScaledMatrix v.shares → IsRecipeOf p v.shares.denominator e y
      → (agents names lists : List (List ℕ)) (x : ScaledValue) → agents ≡ p.agents → names ≡ with_none → lists ≡ p.lists → x ≡ v.shares
      → IsStart f x w → IsPeeler w
      → WritesPieces w.columns (sets_of w) w.rest w.left (lottery_with agents names x lists (Some y)) (written old) (written new) r → WritesLottery written (SolvesFor f p) old new r
  solved_made written w old new r matrix recipe agents names lists x of_agents of_names of_lists of_shares start peeler did =
      solved_written written w old new r matrix recipe (rw of_shares at start) peeler (rw (of_agents, of_names, of_lists, of_shares) at did)
