-- A lawful lottery reads back from what is written of it.
use Rattle.std.proofs.Common.{◌≡◌, ◌+◌, ◌*◌, ◌≤◌, ◌∙◌, ◌++◌, ◌∷◌, [], ℕ, List, Option, Some, None, true, false, ◌⊎◌, refl, sym, ap, subst, length, append_assoc, arith, inl, inr}
use Rattle.std.specs.Prelude.{All, MatchOption}
use Rattle.std.proofs.lemmas.List.Elements.{All-nil, All-append, All-head, All-tail}
use Rattle.std.proofs.lemmas.List.Sums.{sum_by-cons}
use Rattle.csv.specs.Reading.{strip_bom}
use Rattle.csv.specs.Writing.{fields_text, is_blank}
use Rattle.definitions.specs.Texts.{Row}
use Rattle.definitions.specs.Sets.{ScaledValue}
use Rattle.definitions.specs.Values.{PieceValue, PricesValue}
use Rattle.definitions.specs.Pieces.{AreGives}
use Rattle.definitions.specs.Lotteries.{LotteryValue, DesignValue, HasPrices, HasNoPrices, ends_with_none}
use Rattle.table_text.specs.Rows.{IsTextOf}
use Rattle.table_text.proofs.TextFacts.{IsFilled, IsTextOf-rows_text, read_back-all_filled}
use Rattle.lottery_file.specs.Said.{Before, nothing}
use Rattle.lottery_file.specs.Checks.{is_priced, may_follow, weight_sum}
use Rattle.lottery_file.specs.Lotteries.{IsLawfulLottery, IsPriced, ReadsAs, TextReadsAs, lottery_of}
use Rattle.lottery_file.specs.Written.{head_rows, name_rows, share_rows, price_rows, worth_rows, priced_rows, pieces_rows, end_row, rows_of, lottery_text}
use Rattle.lottery_file.specs.declared.words.Word.{Word}
use Rattle.lottery_file.specs.declared.words.Word.TheVariants as word
use Rattle.lottery_file.proofs.Passing.{Passes, passes-none, passes-as, passes-append, passes-lawful}
use Rattle.lottery_file.proofs.HeadPass.{after_all, names-pass, shares-pass, rows-as, prices-pass}
use Rattle.lottery_file.proofs.PlacesPass.{worths-pass}
use Rattle.lottery_file.proofs.PiecesPass.{IsReady, last_of, after-gives, after-pieces, pieces-pass, end-pass}
use Rattle.lottery_file.proofs.FilledRows.{names-shown, names-filled, shares-filled, prices-filled, worths-filled, pieces-filled, end-filled}
use Rattle.lottery_file.proofs.SoundNames.{priced-ends}

after-any : {X : Type 0} (w : Word) (xs : List X) (last : Option Word) → 1 ≤ length xs → after_all w xs last ≡ Some w
after-any w [] last some = absurd (omega arith)
after-any w (x ∷ xs) last some = refl

-- pieces of weight at least 1 are no more than their weights together
pieces-few : (ps : List PieceValue) → All (λ p. 1 ≤ p.weight) ps → length ps ≤ weight_sum ps
pieces-few [] h = omega arith
pieces-few (p ∷ ps) h =
    omega (arith, sum_by-cons (λ (q : PieceValue). q.weight) p ps, All-head (λ (q : PieceValue). 1 ≤ q.weight) p ps h, pieces-few ps (All-tail (λ (q : PieceValue). 1 ≤ q.weight) p ps h))

-- what is said after the rows
said_rows : LotteryValue → Before
said_rows l = record nothing {
  last = Some word.Row;
  denominator = l.shares.denominator;
  agents = l.agents;
  columns = l.columns;
  rows = length l.agents;
  units = l.shares.units;
}

-- and after prices and worths
said_priced : LotteryValue → PricesValue → Before
said_priced l y = record nothing {
  last = Some word.Worth;
  denominator = l.shares.denominator;
  agents = l.agents;
  columns = l.columns;
  rows = length l.agents;
  units = l.shares.units;
  prices = y.price;
  lists = l.lists;
  worths = y.worth;
}

-- the version, the denominator, the names and the rows pass
rows-pass : (l : LotteryValue) → IsLawfulLottery l → Passes nothing (name_rows l.shares.denominator l.agents l.columns ++ share_rows l.agents (length l.columns) l.shares.units) (said_rows l)
unfolding said_rows may_follow
rows-pass l h =
    let x = h.lottery.shares in
    let b : Before = record nothing { last = Some word.Objects; denominator = l.shares.denominator; agents = l.agents; columns = l.columns } in
    let shape : length l.shares.units ≡ length l.agents * length l.columns = rw (← h.lottery.rows, ← h.lottery.columns) x.shape in
    let names = names-pass l.shares.denominator l.agents l.columns (omega (arith, x.one)) x.limit h.agents h.agents_many.0 h.agents_many.1 h.columns in
    let none : 0 + length l.agents ≡ length l.agents = omega arith in
    let shares = shares-pass l.agents [] l.shares.units b refl h.agents refl shape (omega (arith, x.total)) x.limit refl in
    passes-append nothing b (said_rows l) (name_rows l.shares.denominator l.agents l.columns) (share_rows l.agents (length l.columns) l.shares.units) names
    (passes-as b _ (said_rows l) _ (rows-as b (0 + length l.agents) (length l.agents) l.shares.units l.shares.units (after_all word.Row l.agents (Some word.Objects)) (Some word.Row) none refl (after-any word.Row l.agents (Some word.Objects) h.agents_many.0)) shares)

-- then prices and worths, where there are some
head-pass : (l : LotteryValue) → IsLawfulLottery l → (c : Before) → Passes (said_rows l) (priced_rows l.agents l.columns l.lists l.prices) c → Passes nothing (head_rows l.agents l.columns l.shares l.lists l.prices) c
unfolding head_rows
head-pass l h c k =
    let names = name_rows l.shares.denominator l.agents l.columns in
    let shares = share_rows l.agents (length l.columns) l.shares.units in
    let priced = priced_rows l.agents l.columns l.lists l.prices in
    subst (λ (rows : List Row). Passes nothing rows c) (append_assoc names shares priced) (passes-append nothing (said_rows l) c (names ++ shares) priced (rows-pass l h) k)

-- what is said before the first piece of a lottery
abbrev before_pieces : LotteryValue → Before → Before
before_pieces l b = record b { denominator = l.shares.denominator; agents = l.agents; columns = l.columns; pieces = [] }

-- the pieces and the end pass
body-pass : (l : LotteryValue) → IsLawfulLottery l → (b : Before) → IsReady (before_pieces l b) → may_follow word.Piece b.last ≡ true
    → Passes (before_pieces l b) (pieces_rows l.agents l.columns 1 l.pieces ++ end_row (length l.pieces) ∷ []) (record (before_pieces l b) { pieces = l.pieces; last = Some word.End })
unfolding may_follow
body-pass l h b ready follows =
    let x = h.lottery.shares in
    let few : length l.pieces ≤ l.shares.denominator = omega (arith, pieces-few l.pieces h.lottery.weights, h.lottery.adds_up) in
    let lawful : All (λ p. AreGives (length l.agents) (length l.columns) p.gives) l.pieces = rw (← h.lottery.rows, ← h.lottery.columns) h.lottery.gives in
    let c : Before = record (before_pieces l b) { pieces = l.pieces; last = last_of l.pieces b.last } in
    let pieces = pieces-pass l.pieces 1 (before_pieces l b) refl (omega (arith, few, x.limit)) h.lottery.weights (omega (arith, h.lottery.adds_up)) x.limit lawful ready follows in
    let last : may_follow word.End c.last ≡ true = end-follows l.pieces b.last h.pieces in
    passes-append (before_pieces l b) c _ (pieces_rows l.agents l.columns 1 l.pieces) (end_row (length l.pieces) ∷ []) pieces
    (end-pass c (length l.pieces) refl (omega (arith, few, x.limit)) h.lottery.adds_up last)
  where
    end-follows : (ps : List PieceValue) (last : Option Word) → 1 ≤ length ps → may_follow word.End (last_of ps last) ≡ true
    end-follows [] last some = absurd (omega arith)
    end-follows (p ∷ ps) last some = after-pieces word.End ps (after_all word.Give p.gives (Some word.Piece)) refl refl (after-gives word.End p.gives refl refl)

-- all records of a lottery pass, where those before the first piece do
whole-pass : (l : LotteryValue) → IsLawfulLottery l → (b : Before) → Passes nothing (head_rows l.agents l.columns l.shares l.lists l.prices) (before_pieces l b) → IsReady (before_pieces l b) → may_follow word.Piece b.last ≡ true
    → Passes nothing (rows_of l) (record (before_pieces l b) { pieces = l.pieces; last = Some word.End })
whole-pass l h b head ready follows = passes-append nothing (before_pieces l b) _ (head_rows l.agents l.columns l.shares l.lists l.prices) _ head (body-pass l h b ready follows)

-- a lottery by its parts
lottery-as : (l : LotteryValue) (shares : ScaledValue) (lists : List (List ℕ)) (prices : Option PricesValue) (design : Option DesignValue) → shares ≡ l.shares → lists ≡ l.lists → prices ≡ l.prices → design ≡ l.design
    → record { agents = l.agents; columns = l.columns; shares = shares; lists = lists; prices = prices; pieces = l.pieces; design = design } ≡ l
lottery-as l shares lists prices design e f g d = rw (e, f, g, d) refl

shares-as : (x : ScaledValue) (a c : ℕ) → x.agents ≡ a → x.columns ≡ c → record { denominator = x.denominator; agents = a; columns = c; units = x.units } ≡ x
shares-as x a c e f = rw (← e, ← f) refl

-- records that pass and say the lottery read as it
reads-as : (l : LotteryValue) (c : Before) → Passes nothing (rows_of l) c → c.last ≡ Some word.End → lottery_of c ≡ l → ReadsAs (rows_of l) l
reads-as l c h last e = (passes-lawful (rows_of l) c h (rw last refl), sym (ap lottery_of h.says ∙ e))

reads-plain : (l : LotteryValue) → IsLawfulLottery l → ends_with_none l.columns ≡ false → l.prices ≡ None → l.lists ≡ [] → ReadsAs (rows_of l) l
unfolding said_rows may_follow
reads-plain l h ends prices lists =
    let b = said_rows l in
    let unpriced : is_priced b ≡ false = priced-ends l.columns h.columns ∙ ends in
    let none : Passes b (priced_rows l.agents l.columns l.lists l.prices) b = rw prices (passes-none b) in
    let c : Before = record b { pieces = l.pieces; last = Some word.End } in
    let ready : IsReady b = record { named = record { agents = h.agents; columns = h.columns }; rows = omega arith; lists = inl unpriced } in
    let said : lottery_of c ≡ l = rw unpriced (lottery-as l _ [] None None (shares-as l.shares (length l.agents) (length l.columns) h.lottery.rows h.lottery.columns) (sym lists) (sym prices) (sym h.design)) in
    reads-as l c (whole-pass l h b (head-pass l h b none) ready refl) refl said

reads-priced : (l : LotteryValue) (y : PricesValue) → IsLawfulLottery l → ends_with_none l.columns ≡ true → l.prices ≡ Some y → IsPriced l y → ReadsAs (rows_of l) l
unfolding said_rows said_priced may_follow
reads-priced l y h ends prices p =
    let b = said_rows l in
    let d = said_priced l y in
    let priced : is_priced b ≡ true = priced-ends l.columns h.columns ∙ ends in
    let last = after_all word.Price y.price (Some word.Row) in
    let m : Before = record b { prices = y.price; last = last } in
    let set = prices-pass y.price 1 b refl (omega (arith, p.prices.many)) p.prices.small (record { rows = omega arith; priced = priced }) refl in
    let lists = worths-pass l.agents [] l.lists y.worth m refl refl p.many p.lists (record { rows = omega arith; priced = priced; agents = h.agents; columns = h.columns }) refl refl (worth-follows y.price) in
    let closed = passes-as m _ d _ (ap (λ (o : Option Word). record d { last = o }) (after-any word.Worth l.agents last h.agents_many.0)) lists in
    let all : Passes b (priced_rows l.agents l.columns l.lists l.prices) d = rw prices (passes-append b m d (price_rows 1 y.price) (worth_rows l.agents l.columns l.lists y.worth) set closed) in
    let c : Before = record d { pieces = l.pieces; last = Some word.End } in
    let ready : IsReady d = record { named = record { agents = h.agents; columns = h.columns }; rows = omega arith; lists = inr (omega (arith, p.many)) } in
    let said : lottery_of c ≡ l = rw priced (lottery-as l _ l.lists (Some y) None (shares-as l.shares (length l.agents) (length l.columns) h.lottery.rows h.lottery.columns) refl (sym prices) (sym h.design)) in
    reads-as l c (whole-pass l h d (head-pass l h d all) ready refl) refl said
  where
    worth-follows : (prices : List ℕ) → may_follow word.Worth (after_all word.Price prices (Some word.Row)) ≡ true
    worth-follows [] = refl
    worth-follows (y ∷ prices) = refl

priced-here : (l : LotteryValue) (o : Option PricesValue) (y : PricesValue) → o ≡ Some y → MatchOption o (l.lists ≡ []) (IsPriced l) → IsPriced l y
priced-here l o y e p = rw e at p

reads-case : (l : LotteryValue) → IsLawfulLottery l → HasPrices l ⊎ HasNoPrices l → ReadsAs (rows_of l) l
reads-case l h (inl p) = reads-priced l p.prices h p.named p.given (priced-here l l.prices p.prices p.given h.priced)
reads-case l h (inr p) = reads-plain l h p.named p.prices p.lists

-- the records of a lawful lottery read as it
pub rows-read : (l : LotteryValue) → IsLawfulLottery l → ReadsAs (rows_of l) l
rows-read l h = reads-case l h h.lottery.priced

priced-filled : (l : LotteryValue) (o : Option PricesValue) → IsLawfulLottery l → MatchOption o (l.lists ≡ []) (IsPriced l) → All IsFilled (priced_rows l.agents l.columns l.lists o)
priced-filled l None h p = All-nil IsFilled
priced-filled l (Some y) h p =
    All-append IsFilled (price_rows 1 y.price) (worth_rows l.agents l.columns l.lists y.worth)
    (prices-filled 1 y.price (omega (arith, p.prices.many)) p.prices.small)
    (worths-filled l.agents l.columns l.lists y.worth (names-shown l.agents h.agents.lawful) (names-shown l.columns h.columns.names.lawful) p.lists)

rows-filled : (l : LotteryValue) → IsLawfulLottery l → All IsFilled (rows_of l)
unfolding head_rows
rows-filled l h =
    let x = h.lottery.shares in
    let few : length l.pieces ≤ l.shares.denominator = omega (arith, pieces-few l.pieces h.lottery.weights, h.lottery.adds_up) in
    let lawful : All (λ p. AreGives (length l.agents) (length l.columns) p.gives) l.pieces = rw (← h.lottery.rows, ← h.lottery.columns) h.lottery.gives in
    let head = All-append IsFilled (name_rows l.shares.denominator l.agents l.columns) _ (names-filled l.shares.denominator l.agents l.columns (omega (arith, x.limit)) h.agents h.columns.names)
    (All-append IsFilled (share_rows l.agents (length l.columns) l.shares.units) _ (shares-filled l.agents (length l.columns) l.shares.units (1000 * l.shares.denominator) h.agents.lawful x.total (omega (arith, x.limit))) (priced-filled l l.prices h h.priced)) in
    All-append IsFilled _ (pieces_rows l.agents l.columns 1 l.pieces ++ end_row (length l.pieces) ∷ []) head
    (All-append IsFilled (pieces_rows l.agents l.columns 1 l.pieces) (end_row (length l.pieces) ∷ [])
    (pieces-filled l.agents l.columns 1 l.pieces (names-shown l.agents h.agents.lawful) (names-shown l.columns h.columns.names.lawful) (omega (arith, few, x.limit)) (omega (arith, h.lottery.adds_up, x.limit)) lawful)
    (end-filled (length l.pieces) (omega (arith, few, x.limit))))

-- the text of a lottery begins with its word
no-mark : (l : LotteryValue) → strip_bom (lottery_text l) ≡ lottery_text l
unfolding head_rows name_rows strip_bom fields_text is_blank
no-mark l = refl

-- the text of a lawful lottery reads as it
pub text-reads : (l : LotteryValue) → IsLawfulLottery l → TextReadsAs (lottery_text l) l
text-reads l h =
    let rows = rows_of l in
    let is : IsTextOf (lottery_text l) rows = subst (IsTextOf (lottery_text l)) (read_back-all_filled rows (rows-filled l h)) (IsTextOf-rows_text rows (no-mark l)) in
    (rows, is, rows-read l h)
