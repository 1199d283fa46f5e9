-- Every check of an audit over given shares passes exactly where the lottery splits them.
use Rattle.std.proofs.Common.{◌≡◌, ◌∙◌, ◌+◌, ◌⊎◌, [], ℕ, List, None, Ok, ap, sym, subst, refl, inl, inr, length, false}
use Rattle.std.specs.Option.{option_map}
use Rattle.std.specs.Str.{bytes_eq}
use Rattle.std.proofs.lemmas.Bool.{both_ways, not_from_true}
use Rattle.std.proofs.lemmas.Slice.Eq.{bytes_eq-Decides}
use Rattle.alloc_audits.specs.AuditMatrix.{matrix_fault}
use Rattle.alloc_audits.specs.NameFaults.{first_difference, first_name_fault, name_look}
use Rattle.alloc_input.specs.Matrices.{IsMatrix}
use Rattle.alloc_input.proofs.MatrixSuits.{matrix-unpriced}
use Rattle.alloc_readings.proofs.SharesLemmas.{one_scale}
use Rattle.cert_check.specs.MatrixFaults.{AreSame, HaveOneShape, first_matrix_fault}
use Rattle.cert_check.specs.PieceFaults.{ArePiecesFor, IsMatrixFor, first_piece_fault}
use Rattle.cert_check.specs.Verdicts.{verdict_of}
use Rattle.cert_check.specs.declared.faults.Fault.TheVariants as faults
use Rattle.cert_check.proofs.MatrixPass.{matrix_verdict}
use Rattle.cert_check.proofs.PiecePass.{pass_pieces, pieces_pass}
use Rattle.cert_check.proofs.PricePass.{neither, passes}
use Rattle.cert_check.proofs.Quiet.{not_false, quiet, quiet_at, silent, silent_at}
use Rattle.cert_check.proofs.ShapePass.{lists_same, same_lists}
use Rattle.definitions.specs.Lotteries.{HasNoPrices, HasPrices, LotteryValue, Splits, ends_with_none}
use Rattle.definitions.specs.Scaling.{IsScaled}
use Rattle.definitions.specs.Sets.{FamilyValue, IsFamily, IsScaledMatrix, ScaledValue}
use Rattle.definitions.specs.Values.{SharesValue}
use Rattle.definitions.proofs.Passed.{both-pass, map-none}
use Rattle.lottery_file.specs.Lotteries.{IsLawfulLottery}
use Rattle.scaled_matrix.specs.Entries.{IsShares}

-- ---- names

names_from : (due found : List (List ℕ)) → first_difference due found ≡ None → due ≡ found
names_from due found e = same_lists bytes_eq bytes_eq-Decides due found (λ k l. not_false _ (quiet _ _ (quiet_at (name_look due found) (length due + 1) e k l)))

names_none : (due found : List (List ℕ)) → due ≡ found → first_difference due found ≡ None
names_none due found e = silent_at (name_look due found) (length due + 1) (λ k l. silent _ _ (not_from_true _ (lists_same bytes_eq bytes_eq-Decides due found e k)))

pub record HasNames (given : SharesValue) (l : LotteryValue) : Type 0 where
  pub agents : given.agents ≡ l.agents
  pub columns : given.objects ≡ l.columns

pub has_names : (given : SharesValue) (l : LotteryValue) → first_name_fault given.agents given.objects l.agents l.columns ≡ None → HasNames given l
has_names given l e =
    let both = both-pass (option_map (λ place. faults.AgentsDiffer place) (first_difference given.agents l.agents)) (option_map (λ place. faults.ColumnsDiffer place) (first_difference given.objects l.columns)) e in
    record {
      agents = names_from given.agents l.agents (map-none (λ place. faults.AgentsDiffer place) (first_difference given.agents l.agents) both.0);
      columns = names_from given.objects l.columns (map-none (λ place. faults.ColumnsDiffer place) (first_difference given.objects l.columns) both.1);
    }

no_name_fault : (given : SharesValue) (l : LotteryValue) → HasNames given l → first_name_fault given.agents given.objects l.agents l.columns ≡ None
no_name_fault given l n =
    neither (option_map (λ place. faults.AgentsDiffer place) (first_difference given.agents l.agents)) (option_map (λ place. faults.ColumnsDiffer place) (first_difference given.objects l.columns))
    (ap (option_map (λ place. faults.AgentsDiffer place)) (names_none given.agents l.agents n.agents)) (ap (option_map (λ place. faults.ColumnsDiffer place)) (names_none given.objects l.columns n.columns))

-- ---- shapes

module _ (given : SharesValue) (x : ScaledValue) (f : FamilyValue) (l : LotteryValue) where
  -- units of the given shares, and a lottery over the same names, have one shape
  pub one_shape : IsScaled given x → IsLawfulLottery l → HasNames given l → HaveOneShape x l.shares
  one_shape scaled w n = record {
    agents = scaled.agents ∙ ap (λ (names : List (List ℕ)). length names) n.agents ∙ sym w.lottery.rows;
    columns = scaled.columns ∙ ap (λ (names : List (List ℕ)). length names) n.columns ∙ sym w.lottery.columns;
  }

  pub fits_family : HaveOneShape x l.shares → x.agents ≡ f.agents → x.columns ≡ f.columns → IsMatrixFor f l.shares
  fits_family s agents columns = record { agents = sym s.agents ∙ agents; columns = sym s.columns ∙ columns }

  pub pieces_fit : IsLawfulLottery l → ArePiecesFor l.shares l.pieces
  pieces_fit w = record { weights = w.lottery.weights; adds_up = w.lottery.adds_up; gives = w.lottery.gives }

-- matrices of one shape that are the same are equal
same_matrix : (x y : ScaledValue) → HaveOneShape x y → AreSame x y → x ≡ y
same_matrix x y s e =
    ap (λ d. record x { denominator = d }) e.denominator ∙ ap (λ n. record { denominator = y.denominator; agents = n; columns = x.columns; units = x.units }) s.agents
    ∙ ap (λ n. record { denominator = y.denominator; agents = y.agents; columns = n; units = x.units }) s.columns ∙ ap (λ us. record y { units = us }) e.units

-- a lottery whose last column isn't `none` has no prices and no lists
plain : (l : LotteryValue) → ends_with_none l.columns ≡ false → HasPrices l ⊎ HasNoPrices l → (l.prices ≡ None) × (l.lists ≡ [])
plain l last (inl has) = absurd (both_ways (ends_with_none l.columns) last has.named)
plain l last (inr none) = (none.prices, none.lists)

-- ---- all checks

-- where every check passes, the lottery splits the shares
pub passes_split : (given : SharesValue) (x : ScaledValue) (f : FamilyValue) (l : LotteryValue) → IsMatrix given → IsScaled given x → IsScaledMatrix x
    → x.agents ≡ f.agents → x.columns ≡ f.columns → IsFamily f → IsLawfulLottery l → matrix_fault given x f l ≡ None → Splits given f l
passes_split given x f l lawful scaled m agents columns h w e =
    let first = both-pass (first_name_fault given.agents given.objects l.agents l.columns) _ e in
    let second = both-pass (first_matrix_fault x l.shares) (first_piece_fault f l.shares l.pieces) first.1 in
    let n : HasNames given l = has_names given l first.0 in
    let s : HaveOneShape x l.shares = one_shape given x f l scaled w n in
    let same : AreSame x l.shares = (matrix_verdict x l.shares m w.lottery.shares s (verdict_of (first_matrix_fault x l.shares)) refl).0 (ap verdict_of second.0) in
    record {
      lottery = w.lottery;
      agents = sym n.agents;
      columns = sym n.columns;
      scaled = subst (IsScaled given) (same_matrix x l.shares s same) scaled;
      plain = plain l (subst (λ (names : List (List ℕ)). ends_with_none names ≡ false) n.columns (matrix-unpriced given lawful)) w.lottery.priced;
      pieces = pieces_pass f l.shares l.pieces h w.lottery.shares (fits_family given x f l s agents columns) (pieces_fit given x f l w) second.1;
    }

-- where it splits them, every check passes
pub split_passes : (given : SharesValue) (x : ScaledValue) (f : FamilyValue) (l : LotteryValue) → IsShares given → IsScaled given x → IsScaledMatrix x
    → f.agents ≡ length given.agents → f.columns ≡ length given.objects → IsFamily f → Splits given f l → matrix_fault given x f l ≡ None
split_passes given x f l lawful scaled m agents columns h splits =
    let equal : x ≡ l.shares = cc (one_scale given lawful (Ok x) (Ok l.shares) (scaled, m) (splits.scaled, splits.lottery.shares)) in
    let s : HaveOneShape x l.shares = record { agents = ap (λ (y : ScaledValue). y.agents) equal; columns = ap (λ (y : ScaledValue). y.columns) equal } in
    let same : AreSame x l.shares = record { denominator = ap (λ (y : ScaledValue). y.denominator) equal; units = ap (λ (y : ScaledValue). y.units) equal } in
    let fits : IsMatrixFor f l.shares = record { agents = splits.scaled.agents ∙ sym agents; columns = splits.scaled.columns ∙ sym columns } in
    let q : ArePiecesFor l.shares l.pieces = record { weights = splits.lottery.weights; adds_up = splits.lottery.adds_up; gives = splits.lottery.gives } in
    neither (first_name_fault given.agents given.objects l.agents l.columns) _ (no_name_fault given l (record { agents = sym splits.agents; columns = sym splits.columns }))
    (neither (first_matrix_fault x l.shares) (first_piece_fault f l.shares l.pieces)
    (passes (first_matrix_fault x l.shares) ((matrix_verdict x l.shares m splits.lottery.shares s (verdict_of (first_matrix_fault x l.shares)) refl).1 same))
    (pass_pieces f l.shares l.pieces h splits.lottery.shares fits q splits.pieces))
