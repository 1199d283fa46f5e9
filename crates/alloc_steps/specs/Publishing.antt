-- A lottery that is written, and one that is published.
use Rattle.std.specs.Prelude.{◌≡◌, ℕ, ◌++◌, List, Option, None, Some}
use Rattle.definitions.specs.Lotteries.{LotteryValue}
use Rattle.lottery_file.specs.Written.{lottery_text}

-- the text of a lottery without a design that has this property
pub record IsLotteryText (property : LotteryValue → Type 0) (t : List ℕ) : Type 0 where
  pub lottery : LotteryValue
  pub plain : lottery.design ≡ None
  pub has : property lottery
  pub is : t ≡ lottery_text lottery

-- what was appended is the text of a lottery without a design that has this property
pub record Published (property : LotteryValue → Type 0) (before : List ℕ)
    (written : Option (List ℕ)) : Type 0 where
  pub lottery : LotteryValue
  pub plain : lottery.design ≡ None
  pub has : property lottery
  pub wrote : written ≡ Some (before ++ lottery_text lottery)
