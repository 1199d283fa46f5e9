-- Lottery values that are lawful, and so can be written.
use Rattle.std.proofs.Common.{◌≡◌, ◌<◌, ◌≤◌, ◌∷◌, [], ℕ, List, Option, Some, None, Bool, true, false, get_or, length, sym, arith}
use Rattle.std.specs.Prelude.{if◌then◌else◌, ℤ, IfSome, MatchOption}
use Rattle.std.specs.List.{AllZip}
use Rattle.std.specs.Str.{bytes_eq}
use Rattle.std.proofs.lemmas.Bool.{both_ways}
use Rattle.std.proofs.lemmas.List.Folds.{list_any_at}
use Rattle.std.proofs.lemmas.Option.{slice_get_within, get_or_from_slice_get}
use Rattle.std.proofs.lemmas.Slice.Eq.{bytes_eq-Decides}
use Rattle.definitions.specs.Texts.{null_name, has_name}
use Rattle.definitions.specs.Sets.{FamilyValue}
use Rattle.definitions.specs.Lotteries.{LotteryValue, Splits, ends_with_none}
use Rattle.definitions.specs.Values.{PieceValue, PricesValue, SharesValue}
use Rattle.lottery_file.specs.Checks.{weight_sum}
use Rattle.lottery_file.specs.Lotteries.{AreLawfulNames, AreColumns, IsLawfulLottery, IsPriced, IsRanking}
use Rattle.lottery_file.specs.Written.{AreListed, ShapesAgree}

worth-each : (columns : ℕ) (lists : List (List ℕ)) (worths : List (List ℤ)) → AllZip (IsRanking columns) lists worths → AllZip (λ list worth. length worth ≡ length list) lists worths
worth-each columns [] [] h = tt
worth-each columns [] (w ∷ worths) h = absurd h
worth-each columns (l ∷ lists) [] h = absurd h
worth-each columns (l ∷ lists) (w ∷ worths) h = (h.0.places.many, worth-each columns lists worths h.1)

lists-agree : (l : LotteryValue) (o : Option PricesValue) → MatchOption o (l.lists ≡ []) (IsPriced l) → IfSome o (λ y. AreListed (length l.agents) l.lists y.worth)
lists-agree l None h = tt
lists-agree l (Some y) h = record { many = h.many; places = worth-each (length l.columns) l.lists y.worth h.lists }

-- so a lawful lottery can be written
pub lawful-shapes : (l : LotteryValue) → IsLawfulLottery l → ShapesAgree l.agents l.columns l.shares l.lists l.prices
lawful-shapes l h = record { row_each = h.lottery.rows; unit_each = h.lottery.columns; listed = lists-agree l l.prices h.priced }

-- weights that add up to something are of some piece
pub pieces-some : (ps : List PieceValue) (d : ℕ) → weight_sum ps ≡ d → 0 < d → 1 ≤ length ps
pieces-some [] d e some = absurd (omega (arith, e))
pieces-some (p ∷ ps) d e some = omega arith

plain-lists : (l : LotteryValue) → l.prices ≡ None → l.lists ≡ [] → MatchOption l.prices (l.lists ≡ []) (IsPriced l)
plain-lists l prices lists = rw prices lists

within-many : (t : Bool) (n : ℕ) → n ≤ 200 → n ≤ (if t then 201 else 200)
within-many true n h = omega arith
within-many false n h = h

-- lawful names of at most 200 columns, without `none`
pub plain-columns : (names : List (List ℕ)) → AreLawfulNames names → has_name names null_name ≡ false → length names ≤ 200 → AreColumns names
plain-columns names h without few = record {
  names = h;
  null_last = λ k e. absurd (both_ways (has_name names null_name) without
      (list_any_at (bytes_eq null_name) names k [] (slice_get_within names k null_name e) ((bytes_eq-Decides null_name (get_or names k [])).1 (sym (get_or_from_slice_get names k null_name [] e)))));
  many = within-many (ends_with_none names) (length names) few;
}

-- a lottery that splits given shares over lawful names is lawful
pub splits-lawful : (given : SharesValue) (f : FamilyValue) (l : LotteryValue) → Splits given f l → l.design ≡ None
    → AreLawfulNames given.agents → 1 ≤ length given.agents → length given.agents ≤ 1000
    → AreLawfulNames given.objects → has_name given.objects null_name ≡ false → length given.objects ≤ 200 → IsLawfulLottery l
splits-lawful given f l h design agents some few objects without columns_few = record {
  lottery = h.lottery;
  agents = rw h.agents agents;
  agents_many = rw h.agents (some, few);
  columns = rw h.columns (plain-columns given.objects objects without columns_few);
  priced = plain-lists l h.plain.0 h.plain.1;
  pieces = pieces-some l.pieces l.shares.denominator h.lottery.adds_up h.lottery.shares.one;
  design = design;
}
