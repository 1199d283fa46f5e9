-- What a sink in memory that never fails keeps.
use Rattle.std.specs.Prelude.{ℕ, List}

-- the bytes so far, how many there were at the last flush, and how many writes were refused for want of memory
pub record SureSinkState : Type 0 where
  pub written : List ℕ
  pub flushed : ℕ
  pub short : ℕ
