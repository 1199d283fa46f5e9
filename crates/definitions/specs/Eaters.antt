-- What the code keeps of a problem while it is eaten, and the market that this is.
use Rattle.std.specs.Prelude.{ℕ, List}
use Rattle.definitions.specs.Sets.{SetValue}
use Rattle.definitions.specs.Values.{Market, market_from}

-- what is kept of a problem while it is eaten
pub record EaterValue : Type 0 where
  pub agents : ℕ
  pub columns : ℕ
  pub lists : List (List ℕ)
  pub stated : List SetValue
  pub demands : List ℕ

-- the market of the problem that is eaten
abbrev pub market_of_eater : EaterValue → Market
market_of_eater v = market_from v.demands v.lists v.stated
