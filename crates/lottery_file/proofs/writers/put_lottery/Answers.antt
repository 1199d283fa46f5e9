use Rattle.std.proofs.Common.{◌≡◌, ◌∙◌, ◌++◌, ◌∷◌, [], ℕ, List, Option, Vec, Global, Bor, refl, ap, sym, length, map}
use Rattle.std.specs.Prelude.{codes, decimal, option_map, option_copied}
use Rattle.std.proofs.lemmas.List.{length-map}
use Rattle.table_text.specs.Rows.{rows_text}
use Rattle.definitions.specs.Lotteries.{LotteryValue}
use Rattle.definitions.specs.Values.{PricesValue, prices_value, piece_value}
use Rattle.definitions.specs.declared.Piece.{Piece}
use Rattle.definitions.specs.declared.Prices.{Prices}
use Rattle.lottery_file.specs.Lotteries.{lists_value, lottery_value}
use Rattle.lottery_file.specs.Written.{head_rows, pieces_rows}
use Rattle.lottery_file.proofs.Buffering.{puts_as, puts_next, puts_stop, puts_refused}
use Rattle.lottery_file.proofs.WrittenRows.{prices_seen, whole_text}
use Rattle.lottery_file.proofs.writers.put_lottery.Goals as goal

-- the head by what its writer is given
head_seen : (l : LotteryValue) (given : List (Vec ℕ Global)) (lists : List (Vec ℕ Global)) (r : Option (Bor Prices)) (prices : Option Prices) → given ≡ lists → l.lists ≡ lists_value lists → option_copied r ≡ prices → l.prices ≡ option_map prices_value prices
    → rows_text (head_rows l.agents l.columns l.shares (lists_value given) (option_map (λ (y : Bor Prices). prices_value y.now) r)) ≡ rows_text (head_rows l.agents l.columns l.shares l.lists l.prices)
head_seen l given lists r prices e e2 f f2 =
    ap (λ (ls : List (List ℕ)). rows_text (head_rows l.agents l.columns l.shares ls (option_map (λ (y : Bor Prices). prices_value y.now) r))) (ap lists_value e ∙ sym e2)
    ∙ ap (λ (o : Option PricesValue). rows_text (head_rows l.agents l.columns l.shares l.lists o)) (prices_seen r ∙ ap (option_map prices_value) f ∙ sym f2)

-- the pieces by what their writer is given
pieces_seen : (agents columns : List (List ℕ)) (given pieces : List Piece) → given ≡ pieces → rows_text (pieces_rows agents columns 1 (map piece_value given)) ≡ rows_text (pieces_rows agents columns 1 (map piece_value pieces))
pieces_seen agents columns given pieces e = ap (λ (ps : List Piece). rows_text (pieces_rows agents columns 1 (map piece_value ps))) e

pub returns-in_err-put_head : goal.returns-in_err-put_head
returns-in_err-put_head g c =
    let v = c.args.lottery.now in
    let l = lottery_value v in
    let head = puts_as (head_seen l c.deref.result.now v.lists.items c.as_ref-prices.result v.prices c.deref.ensures.value refl c.as_ref-prices.ensures.value refl) c.in_err-put_head.ensures in
    let rest = rows_text (pieces_rows l.agents l.columns 1 l.pieces) ++ rows_text ((codes "end" ∷ decimal (length l.pieces) ∷ []) ∷ []) in
    puts_refused c.from_residual.result c.from_residual.ensures.1
    (puts_as (whole_text l (length l.pieces) refl) (puts_stop rest head))

pub returns-in_err-put_pieces : goal.returns-in_err-put_pieces
returns-in_err-put_pieces g c =
    let v = c.args.lottery.now in
    let l = lottery_value v in
    let head = puts_as (head_seen l c.deref.result.now v.lists.items c.as_ref-prices.result v.prices c.deref.ensures.value refl c.as_ref-prices.ensures.value refl) c.in_ok-put_head.ensures in
    let pieces = puts_as (pieces_seen l.agents l.columns c.as_slice-pieces.result.now v.pieces.list.items c.as_slice-pieces.ensures.value) c.in_err-put_pieces.ensures in
    let rest = rows_text ((codes "end" ∷ decimal (length l.pieces) ∷ []) ∷ []) in
    puts_refused c.from_residual-in_err-put_pieces.result c.from_residual-in_err-put_pieces.ensures.1
    (puts_as (whole_text l (length l.pieces) refl) (puts_next head (puts_stop rest pieces)))

pub returns : goal.returns
returns g c =
    let v = c.args.lottery.now in
    let l = lottery_value v in
    let head = puts_as (head_seen l c.deref.result.now v.lists.items c.as_ref-prices.result v.prices c.deref.ensures.value refl c.as_ref-prices.ensures.value refl) c.in_ok-put_head.ensures in
    let pieces = puts_as (pieces_seen l.agents l.columns c.as_slice-pieces.result.now v.pieces.list.items c.as_slice-pieces.ensures.value) c.in_ok-put_pieces.ensures in
    let count : length c.as_slice-pieces.result.now ≡ length l.pieces = ap length c.as_slice-pieces.ensures.value ∙ sym (length-map v.pieces.list.items piece_value) in
    puts_as (whole_text l (length c.as_slice-pieces.result.now) count) (puts_next head (puts_next pieces (c.put_made.ensures _ c.row_of_number-row.ensures)))
