-- What lawful records say, as far as they were read.
use Rattle.std.specs.Prelude.{◌≡◌, ◌*◌, ◌^◌, ◌≤◌, ℕ, ℤ, true, false, List, [], Option, Some, None, length, sum, All}
use Rattle.std.specs.List.{AllZip}
use Rattle.definitions.specs.Pieces.{AreGives}
use Rattle.definitions.specs.Values.{PieceValue}
use Rattle.lottery_file.specs.Said.{Before}
use Rattle.lottery_file.specs.Checks.{is_priced, weight_sum}
use Rattle.lottery_file.specs.Lotteries.{AreLawfulNames, AreColumns, AreRanked, IsRanking, ArePrices}
use Rattle.lottery_file.specs.declared.words.Word.{Word}
use Rattle.lottery_file.specs.declared.words.Word.TheVariants as word

-- how far a text has come, by the kind of its last record
abbrev pub stage : Option Word → ℕ
stage None = 0
stage (Some word.Lottery) = 1
stage (Some word.Denominator) = 2
stage (Some word.Agents) = 3
stage (Some word.Objects) = 4
stage (Some word.Row) = 5
stage (Some word.Price) = 6
stage (Some word.Worth) = 7
stage (Some word.Piece) = 8
stage (Some word.Give) = 8
stage (Some word.End) = 9

-- the denominator and the names are lawful, once their records were read
pub record IsSoundHead (b : Before) : Type 0 where
  pub denominator : b.denominator ≤ 2 ^ 116
  pub positive : 2 ≤ stage b.last → 1 ≤ b.denominator
  pub agents : AreLawfulNames b.agents
  pub agents_many : length b.agents ≤ 1000
  pub agents_some : 3 ≤ stage b.last → 1 ≤ length b.agents
  pub columns : AreColumns b.columns

-- no record that cites names was read
pub record IsBlank (b : Before) : Type 0 where
  pub rows : b.rows ≡ 0
  pub units : b.units ≡ []
  pub prices : b.prices ≡ []
  pub lists : b.lists ≡ []
  pub open_list : b.open_list ≡ []
  pub worths : b.worths ≡ []
  pub open_worths : b.open_worths ≡ []
  pub pieces : b.pieces ≡ []

-- whole rows of units, all together within 1,000 over the denominator
pub record AreUnits (denominator columns rows : ℕ) (units : List ℕ) : Type 0 where
  pub shape : length units ≡ rows * columns
  pub total : sum units ≤ 1000 * denominator

-- pieces of weight at least 1 and at most the denominator together, with lawful gives
pub record ArePieces (denominator agents columns : ℕ) (pieces : List PieceValue) : Type 0 where
  pub weights : All (λ p. 1 ≤ p.weight) pieces
  pub total : weight_sum pieces ≤ denominator
  pub gives : All (λ p. AreGives agents columns p.gives) pieces

-- no list is open
abbrev pub IsShut : List ℕ → List ℤ → Type 0
IsShut list worths = (list ≡ []) × (worths ≡ [])

-- all rows were read, one list for each agent where there are prices, with none open, and a piece
pub record IsFilled (b : Before) : Type 0 where
  pub rows : b.rows ≡ length b.agents
  pub lists : is_priced b ≡ true → length b.lists ≡ length b.agents
  pub shut : IsShut b.open_list b.open_worths
  pub pieces : 1 ≤ length b.pieces

-- the rows, prices, lists and pieces are lawful
pub record IsSoundBody (b : Before) : Type 0 where
  pub blank : stage b.last ≤ 4 → IsBlank b
  pub units : AreUnits b.denominator (length b.columns) b.rows b.units
  pub rows : b.rows ≤ length b.agents
  pub prices : ArePrices b.prices
  pub lists : AllZip (IsRanking (length b.columns)) b.lists b.worths
  pub lists_many : length b.lists ≤ length b.agents
  pub unpriced : is_priced b ≡ false → b.lists ≡ []
  pub open_list : AreRanked (length b.columns) b.open_list b.open_worths
  pub shut_unpriced : is_priced b ≡ false → IsShut b.open_list b.open_worths
  pub shut_all : length b.agents ≤ length b.lists → IsShut b.open_list b.open_worths
  pub pieces : ArePieces b.denominator (length b.agents) (length b.columns) b.pieces
  pub filled : 8 ≤ stage b.last → IsFilled b
  pub whole : 9 ≤ stage b.last → weight_sum b.pieces ≡ b.denominator

-- what lawful records say
pub record IsSound (b : Before) : Type 0 where
  pub head : IsSoundHead b
  pub body : IsSoundBody b
