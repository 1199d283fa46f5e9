-- The text of a lottery that is written while its pieces are peeled.
use Rattle.std.specs.Prelude.{◌≡◌, ℕ, ◌⊎◌, List, length, Option, None, Result, Ok, Err}
use Rattle.definitions.specs.declared.Cell.{Cell}
use Rattle.definitions.specs.Sets.{ScaledValue}
use Rattle.definitions.specs.Values.{PricesValue}
use Rattle.definitions.specs.Pieces.{WeightedMatrix, Decomposes}
use Rattle.definitions.specs.Gives.{pieces_of}
use Rattle.definitions.specs.Lotteries.{LotteryValue}
use Rattle.device_core.specs.declared.faults.SinkFault.{SinkFault}
use Rattle.device_core.specs.declared.faults.SinkFault.TheVariants as sink
use Rattle.device_core.specs.Told.{Appended}
use Rattle.lottery_file.specs.Written.{lottery_text}

-- the lottery with these pieces, without a design
abbrev pub lottery_with : List (List ℕ) → List (List ℕ) → ScaledValue → List (List ℕ) → Option PricesValue → List WeightedMatrix → LotteryValue
lottery_with agents columns shares lists prices ps = record {
  agents = agents;
  columns = columns;
  shares = shares;
  lists = lists;
  prices = prices;
  pieces = pieces_of (length columns) ps;
  design = None;
}

-- there are pieces that decompose these units over this total, and of the text of the lottery with them all was appended at Ok, and a
-- front after a refusal
pub record WritesPieces {T : Type 0} (columns : ℕ) (sets : List (List Cell)) (units : List ℕ) (total : ℕ) (lottery : List WeightedMatrix → LotteryValue) (old new : Option (List ℕ)) (result : Result T SinkFault) : Type 0 where
  pub pieces : List WeightedMatrix
  pub decompose : Decomposes columns sets units total pieces
  pub bytes : Appended old new (lottery_text (lottery pieces)) result

-- there is a lottery without a design that has this property, and of its text all was appended at Ok, and a front after a refusal
pub record WritesLottery {K T : Type 0} (written : K → Option (List ℕ)) (property : LotteryValue → Type 0) (old new : K) (result : Result T SinkFault) : Type 0 where
  pub lottery : LotteryValue
  pub plain : lottery.design ≡ None
  pub has : property lottery
  pub bytes : Appended (written old) (written new) (lottery_text lottery) result

-- the same, or memory was refused while the sink was as before
abbrev pub WritesLotteryOrNothing : {K T : Type 0} → (K → Option (List ℕ)) → (LotteryValue → Type 0) → K → K → Result T SinkFault → Type 0
WritesLotteryOrNothing written property old new (Ok v) = WritesLottery written property old new (Ok v)
WritesLotteryOrNothing {T = T} written property old new (Err sink.Failed) = WritesLottery {T = T} written property old new (Err sink.Failed)
WritesLotteryOrNothing {T = T} written property old new (Err sink.NoMemory) = (new ≡ old) ⊎ WritesLottery {T = T} written property old new (Err sink.NoMemory)
