-- Every check of an audit passes exactly where the lottery is sound.
use Rattle.std.proofs.Common.{◌≡◌, ◌∙◌, ◌<◌, ◌≤◌, ◌^◌, ◌++◌, ◌⊎◌, ◌∷◌, [], ℕ, suc, zero, List, Option, Some, None, true, ap, sym, subst, refl, inl, inr, arith, length, All}
use Rattle.std.specs.Prelude.{ℤ, nat_abs, slice_get, unwrap_or, MatchOption}
use Rattle.std.specs.List.{AllByRecursion, AllZip}
use Rattle.std.proofs.lemmas.Bool.{both_ways}
use Rattle.std.proofs.lemmas.Int.{ints}
use Rattle.std.proofs.lemmas.List.{length_push}
use Rattle.std.proofs.lemmas.List.Elements.{All-from_recursion, All-weaker}
use Rattle.std.proofs.lemmas.Slice.Zip.{AllZip-long}
use Rattle.alloc_audits.specs.Audit.{audit_fault, certified_fault, prices_of}
use Rattle.cert_check.specs.PieceFaults.{ArePiecesFor, IsMatrixFor, first_piece_fault}
use Rattle.cert_check.specs.PriceFaults.{AreSmall, IsMatrixOf, first_price_fault}
use Rattle.cert_check.specs.ShapeFaults.{AreShapeOf, first_shape_fault}
use Rattle.cert_check.specs.Verdicts.{verdict_of}
use Rattle.cert_check.specs.declared.faults.Fault.{Fault}
use Rattle.cert_check.proofs.Gains.{IsSmallWorth}
use Rattle.cert_check.proofs.PiecePass.{pass_pieces, pieces_pass}
use Rattle.cert_check.proofs.PricePass.{neither, pass_prices, passes, prices_pass}
use Rattle.cert_check.proofs.ShapePass.{shape_verdict}
use Rattle.definitions.proofs.Families.{stated_count}
use Rattle.definitions.specs.Assignment.{IsRandomAssignment}
use Rattle.definitions.specs.Certificate.{Certifies, HasShapeOf}
use Rattle.definitions.specs.Lotteries.{HasNoPrices, HasPrices, LotteryValue, ends_with_none, matrices_of}
use Rattle.definitions.specs.Pieces.{Decomposes}
use Rattle.definitions.specs.Sets.{FamilyValue, IsFamily, cells_of, units_of}
use Rattle.definitions.specs.Texts.{null_name}
use Rattle.definitions.specs.Values.{IsProblem, PricesValue, ProblemValue, column_count, worths_of}
use Rattle.definitions.proofs.Passed.{both-pass}
use Rattle.lottery_file.specs.Lotteries.{IsLawfulLottery, IsPriced, IsRanking}
use Rattle.lottery_laws.specs.Sound.{IsSound, IsSoundFor}

abbrev no_prices : PricesValue
no_prices = record { price = []; worth = [] }

-- the prices that a lottery has
prices_are : (l : LotteryValue) (y : PricesValue) → l.prices ≡ Some y → prices_of l ≡ y
prices_are l y e = ap (λ o. unwrap_or o no_prices) e

-- names up to `none` end with it
null_last : (names : List (List ℕ)) → ends_with_none (names ++ null_name ∷ []) ≡ true
null_last [] = refl
null_last (a ∷ []) = refl
null_last (a ∷ b ∷ names) = null_last (b ∷ names)

-- ---- lists and worths of a lawful lottery

small_worth : (w : ℤ) → nat_abs w ≤ 2 ^ 40 → IsSmallWorth w
small_worth w h = (omega (arith, ints, h), omega (arith, ints, h))

small_worths : (columns : ℕ) (lists : List (List ℕ)) (worths : List (List ℤ)) → AllZip (IsRanking columns) lists worths → AllByRecursion (All IsSmallWorth) worths
small_worths columns [] [] h = tt
small_worths columns [] (w ∷ worths) h = absurd h
small_worths columns (list ∷ lists) [] h = absurd h
small_worths columns (list ∷ lists) (w ∷ worths) h =
    (All-weaker (λ u. nat_abs u ≤ 2 ^ 40) IsSmallWorth small_worth w h.0.places.small, small_worths columns lists worths h.1)

worth_each : (columns : ℕ) (lists : List (List ℕ)) (worths : List (List ℤ)) (i : ℕ) → AllZip (IsRanking columns) lists worths → i < length lists
    → length (unwrap_or (slice_get worths i) []) ≡ length (unwrap_or (slice_get lists i) [])
worth_each columns [] [] i h inside = absurd (omega (arith, inside))
worth_each columns [] (w ∷ worths) i h inside = absurd h
worth_each columns (list ∷ lists) [] i h inside = absurd h
worth_each columns (list ∷ lists) (w ∷ worths) zero h inside = h.0.places.many
worth_each columns (list ∷ lists) (w ∷ worths) (suc i) h inside = worth_each columns lists worths i h.1 (omega (arith, inside))

few_prices : (l : LotteryValue) (o : Option PricesValue) → MatchOption o (l.lists ≡ []) (IsPriced l) → length (unwrap_or o no_prices).price ≤ 1000
few_prices l None h = omega arith
few_prices l (Some y) h = h.prices.many

pub prices_few : (l : LotteryValue) → IsLawfulLottery l → length (prices_of l).price ≤ 1000
prices_few l w = few_prices l l.prices w.priced

-- ---- the shape

abbrev HasShape : ProblemValue → LotteryValue → Type 0
HasShape p l = AreShapeOf p l.agents l.columns l.lists (length (prices_of l).price)

abbrev shape_fault : ProblemValue → LotteryValue → Option Fault
shape_fault p l = first_shape_fault p l.agents l.columns l.lists (length (prices_of l).price)

pub shape_from : (p : ProblemValue) (l : LotteryValue) → shape_fault p l ≡ None → HasShape p l
shape_from p l e = (shape_verdict p l.agents l.columns l.lists (length (prices_of l).price) (verdict_of (shape_fault p l)) refl).0 (ap verdict_of e)

shape_none : (p : ProblemValue) (l : LotteryValue) → HasShape p l → shape_fault p l ≡ None
shape_none p l s = passes (shape_fault p l) ((shape_verdict p l.agents l.columns l.lists (length (prices_of l).price) (verdict_of (shape_fault p l)) refl).1 s)

-- of lists and a number of prices that are the lottery's
pub shape_as : (p : ProblemValue) (l : LotteryValue) (lists : List (List ℕ)) (prices : ℕ) → lists ≡ l.lists → prices ≡ length (prices_of l).price
    → AreShapeOf p l.agents l.columns lists prices → HasShape p l
shape_as p l lists prices same many s = record {
  agents_same = s.agents_same;
  columns_same = s.columns_same;
  prices_many = s.prices_many ∙ many;
  lists_same = s.lists_same ∙ same;
}

-- ---- a lawful lottery of the problem's shape

module _ (p : ProblemValue) (l : LotteryValue) (h : IsProblem p) (w : IsLawfulLottery l) (s : HasShape p l) where
  -- it has prices
  priced_by : HasPrices l ⊎ HasNoPrices l → l.prices ≡ Some (prices_of l)
  priced_by (inl has) = has.given ∙ ap Some (sym (prices_are l has.prices has.given))
  priced_by (inr none) =
      absurd (both_ways (ends_with_none l.columns) none.named (subst (λ (names : List (List ℕ)). ends_with_none names ≡ true) s.columns_same (null_last p.objects)))

  priced : l.prices ≡ Some (prices_of l)
  priced = priced_by w.lottery.priced

  prices_lawful : IsPriced l (prices_of l)
  prices_lawful = subst (λ (o : Option PricesValue). MatchOption o (l.lists ≡ []) (IsPriced l)) priced w.priced

  lists : AllZip (IsRanking (length l.columns)) l.lists (prices_of l).worth
  lists = prices_lawful.lists

  pub matrix_of_problem : IsMatrixOf p l.shares
  matrix_of_problem = record {
    agents = w.lottery.rows ∙ ap (λ (names : List (List ℕ)). length names) (sym s.agents_same);
    columns = w.lottery.columns ∙ ap (λ (names : List (List ℕ)). length names) (sym s.columns_same) ∙ length_push p.objects null_name;
  }

  pub shape_of_problem : HasShapeOf p (prices_of l)
  shape_of_problem = record {
    prices = sym s.prices_many ∙ sym (stated_count p h);
    lists = AllZip-long (IsRanking (length l.columns)) l.lists (prices_of l).worth lists ∙ ap (λ (ls : List (List ℕ)). length ls) (sym s.lists_same);
    places = λ i inside.
        subst (λ (ls : List (List ℕ)). length (worths_of (prices_of l) i) ≡ length (unwrap_or (slice_get ls i) [])) (sym s.lists_same)
        (worth_each (length l.columns) l.lists (prices_of l).worth i lists (subst (λ (ls : List (List ℕ)). i < length ls) s.lists_same inside));
  }

  pub small_prices : AreSmall (prices_of l)
  small_prices = record {
    prices = prices_lawful.prices.small;
    worths = All-from_recursion (All IsSmallWorth) (prices_of l).worth (small_worths (length l.columns) l.lists (prices_of l).worth lists);
  }

-- ---- a lawful lottery of which no check of shape or of prices fails

abbrev price_fault : ProblemValue → LotteryValue → Option Fault
price_fault p l = first_price_fault p l.shares (prices_of l)

module _ (p : ProblemValue) (l : LotteryValue) (h : IsProblem p) (w : IsLawfulLottery l) (e : certified_fault p l ≡ None) where
  checked_shape : HasShape p l
  checked_shape = shape_from p l (both-pass (shape_fault p l) (price_fault p l) e).0

  pub checked_matrix : IsMatrixOf p l.shares
  checked_matrix = matrix_of_problem p l h w checked_shape

  checked_prices : IsRandomAssignment p l.shares.denominator (units_of l.shares) × Certifies p l.shares.denominator (units_of l.shares) (prices_of l)
  checked_prices = prices_pass p l.shares (prices_of l) h w.lottery.shares checked_matrix (shape_of_problem p l h w checked_shape) (both-pass (shape_fault p l) (price_fault p l) e).1

  pub checked_assignment : IsRandomAssignment p l.shares.denominator (units_of l.shares)
  checked_assignment = checked_prices.0

-- ---- pieces

-- a lawful family over the problem's agents and columns
pub record IsOver (p : ProblemValue) (f : FamilyValue) : Type 0 where
  pub lawful : IsFamily f
  pub agents : f.agents ≡ length p.agents
  pub columns : f.columns ≡ column_count p

-- the problem's own is
pub own_family : (p : ProblemValue) → IsProblem p → IsOver p p.family
own_family p h = record { lawful = h.family; agents = h.family_agents; columns = h.family_columns }

pub matrix_for_family : (f : FamilyValue) (p : ProblemValue) (l : LotteryValue) → IsOver p f → IsMatrixOf p l.shares → IsMatrixFor f l.shares
matrix_for_family f p l over m = record { agents = m.agents ∙ sym over.agents; columns = m.columns ∙ sym over.columns }

-- ---- all checks

-- where every check passes, the lottery is sound
pub passes_sound : (f : FamilyValue) (p : ProblemValue) (l : LotteryValue) → IsProblem p → IsLawfulLottery l → IsOver p f
    → certified_fault p l ≡ None → first_piece_fault f l.shares l.pieces ≡ None → IsSoundFor f p l
passes_sound f p l h w over certified pieces =
    let s : HasShape p l = checked_shape p l h w certified in
    let m : IsMatrixOf p l.shares = checked_matrix p l h w certified in
    let q : ArePiecesFor l.shares l.pieces = record { weights = w.lottery.weights; adds_up = w.lottery.adds_up; gives = w.lottery.gives } in
    record {
      problem = h;
      lottery = w.lottery;
      agents = sym s.agents_same;
      columns = sym s.columns_same;
      lists = sym s.lists_same;
      prices = prices_of l;
      priced = priced p l h w s;
      assigned = (checked_prices p l h w certified).0;
      certified = (checked_prices p l h w certified).1;
      pieces = subst (λ n. Decomposes n (cells_of f) l.shares.units l.shares.denominator (matrices_of l)) m.columns
          (pieces_pass f l.shares l.pieces over.lawful w.lottery.shares (matrix_for_family f p l over m) q pieces);
    }

-- the same for the problem's own family
pub passes_sound_own : (p : ProblemValue) (l : LotteryValue) → IsProblem p → IsLawfulLottery l → audit_fault p l ≡ None → IsSound p l
passes_sound_own p l h w e =
    let checks = both-pass (certified_fault p l) (first_piece_fault p.family l.shares l.pieces) e in
    passes_sound p.family p l h w (own_family p h) checks.0 checks.1

module _ (f : FamilyValue) (p : ProblemValue) (l : LotteryValue) (s : IsSoundFor f p l) where
  is_prices : prices_of l ≡ s.prices
  is_prices = prices_are l s.prices s.priced

  has_shape : HasShape p l
  has_shape = record {
    agents_same = sym s.agents;
    columns_same = sym s.columns;
    prices_many = sym (stated_count p s.problem) ∙ sym s.certified.shape.prices ∙ ap (λ (y : PricesValue). length y.price) (sym is_prices);
    lists_same = sym s.lists;
  }

  wide : l.shares.columns ≡ column_count p
  wide = s.lottery.columns ∙ ap (λ (names : List (List ℕ)). length names) s.columns ∙ length_push p.objects null_name

  matrix : IsMatrixOf p l.shares
  matrix = record { agents = s.lottery.rows ∙ ap (λ (names : List (List ℕ)). length names) s.agents; columns = wide }

  -- where the lottery is sound, every check passes
  pub sound_certified : certified_fault p l ≡ None
  sound_certified =
      neither (shape_fault p l) (price_fault p l) (shape_none p l has_shape)
      (subst (λ (y : PricesValue). first_price_fault p l.shares y ≡ None) (sym is_prices)
      (pass_prices p l.shares s.prices s.problem s.lottery.shares matrix s.certified.shape s.assigned s.certified))

  pub sound_pieces : IsOver p f → first_piece_fault f l.shares l.pieces ≡ None
  sound_pieces over =
      pass_pieces f l.shares l.pieces over.lawful s.lottery.shares (matrix_for_family f p l over matrix)
      (record { weights = s.lottery.weights; adds_up = s.lottery.adds_up; gives = s.lottery.gives })
      (subst (λ n. Decomposes n (cells_of f) l.shares.units l.shares.denominator (matrices_of l)) (sym wide) s.pieces)

-- the same for the problem's own family
pub sound_passes : (p : ProblemValue) (l : LotteryValue) → IsSound p l → audit_fault p l ≡ None
sound_passes p l s = neither (certified_fault p l) _ (sound_certified p.family p l s) (sound_pieces p.family p l s (own_family p s.problem))
