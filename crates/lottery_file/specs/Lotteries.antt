-- A lottery as one value, and how a text reads as one.
use Rattle.std.specs.Prelude.{◌≡◌, ◌≢◌, ◌+◌, ◌-◌, ◌<◌, ◌≤◌, ◌^◌, ℕ, ℤ, true, List, [], Some, None, Vec, All, AllPairs, MatchOption, length, map, option_map, if◌then◌else◌, nat_abs, slice_get}
use Rattle.std.specs.List.{AllZip}
use Rattle.std.specs.declared.alloc.Global.{Global}
use Rattle.definitions.specs.Lotteries.{LotteryValue, IsLottery, ends_with_none}
use Rattle.definitions.specs.Texts.{Row, null_name, is_name}
use Rattle.definitions.specs.Values.{PricesValue, prices_value, piece_value}
use Rattle.table_text.specs.Rows.{IsTextOf}
use Rattle.lottery_file.specs.Said.{Before, said_by}
use Rattle.lottery_file.specs.Checks.{is_priced, fault_of}
use Rattle.lottery_file.specs.declared.Lottery.{Lottery}
use Rattle.lottery_file.specs.declared.faults.LotteryKind.{LotteryKind}
use Rattle.lottery_file.specs.declared.faults.LotteryRefusal.{LotteryRefusal}
use Rattle.lottery_file.specs.declared.faults.LotteryRefusal.TheVariants as refusal

-- the columns of each list
abbrev pub lists_value : List (Vec ℕ Global) → List (List ℕ)
lists_value lists = map (λ list. list.items) lists

-- what clients see of a lottery
abbrev pub lottery_value : Lottery → LotteryValue
lottery_value l = record {
  agents = l.agents;
  columns = l.columns;
  shares = l.shares;
  lists = lists_value l.lists.items;
  prices = option_map prices_value l.prices;
  pieces = map piece_value l.pieces.list.items;
  design = None;
}

-- the lottery that these records say, where they are whole and lawful
abbrev pub lottery_of : Before → LotteryValue
lottery_of b = record {
  agents = b.agents;
  columns = b.columns;
  shares = record {
    denominator = b.denominator;
    agents = length b.agents;
    columns = length b.columns;
    units = b.units;
  };
  lists = b.lists;
  prices = if is_priced b then Some (record { price = b.prices; worth = b.worths }) else None;
  pieces = b.pieces;
  design = None;
}

-- the records are lawful, and this is what they say
abbrev pub ReadsAs : List Row → LotteryValue → Type 0
ReadsAs rows l = (fault_of rows ≡ None) × (l ≡ lottery_of (said_by rows))

-- the records of the text read as the lottery
abbrev pub TextReadsAs : List ℕ → LotteryValue → Type 0
TextReadsAs bytes l = (rows : List Row) × IsTextOf bytes rows × ReadsAs rows l

-- the text's first unlawful record, from 1, with its first failed check; or the fault after the last record
abbrev pub TextHasFault : List ℕ → ℕ → LotteryKind → Type 0
TextHasFault bytes record_no kind = (rows : List Row) × IsTextOf bytes rows × (fault_of rows ≡ Some (record_no, kind))

-- a text is refused for its fault; for want of memory at any text
abbrev pub RefusedFor : List ℕ → LotteryRefusal → Type 0
RefusedFor bytes (refusal.Fault f) = TextHasFault bytes f.record_no f.kind
RefusedFor bytes refusal.NoMemory = Unit {0}

-- lawful names, no two of them equal
pub record AreLawfulNames (names : List (List ℕ)) : Type 0 where
  pub lawful : All (λ name. is_name name ≡ true) names
  pub distinct : AllPairs (λ a b. a ≢ b) names

-- names of columns: at most 200 besides `none`, which may only be the last
pub record AreColumns (columns : List (List ℕ)) : Type 0 where
  pub names : AreLawfulNames columns
  pub null_last : (k : ℕ) → slice_get columns k ≡ Some null_name → k + 1 ≡ length columns
  pub many : length columns ≤ (if ends_with_none columns then 201 else 200)

-- places of a list over this many columns: no column twice, and one worth for each place, within 2^40
pub record AreRanked (columns : ℕ) (list : List ℕ) (worths : List ℤ) : Type 0 where
  pub distinct : AllPairs (λ a b. a ≢ b) list
  pub within : All (λ a. a < columns) list
  pub many : length worths ≡ length list
  pub small : All (λ u. nat_abs u ≤ 2 ^ 40) worths

-- a whole list: its last place is that of `none`, the last column
pub record IsRanking (columns : ℕ) (list : List ℕ) (worths : List ℤ) : Type 0 where
  pub places : AreRanked columns list worths
  pub last : slice_get list (length list - 1) ≡ Some (columns - 1)

-- prices of at most 1,000 sets, each within 2^40
pub record ArePrices (prices : List ℕ) : Type 0 where
  pub many : length prices ≤ 1000
  pub small : All (λ y. y ≤ 2 ^ 40) prices

-- prices, and one list for each agent with its worths
pub record IsPriced (l : LotteryValue) (y : PricesValue) : Type 0 where
  pub prices : ArePrices y.price
  pub many : length l.lists ≡ length l.agents
  pub lists : AllZip (IsRanking (length l.columns)) l.lists y.worth

-- a lottery within the limits of a text of version 1
pub record IsLawfulLottery (l : LotteryValue) : Type 0 where
  pub lottery : IsLottery l
  pub agents : AreLawfulNames l.agents
  pub agents_many : (1 ≤ length l.agents) × (length l.agents ≤ 1000)
  pub columns : AreColumns l.columns
  pub priced : MatchOption l.prices (l.lists ≡ []) (IsPriced l)
  pub pieces : 1 ≤ length l.pieces
  pub design : l.design ≡ None
