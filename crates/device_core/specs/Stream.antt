-- What a sink over a writer keeps.
use Rattle.std.specs.Prelude.{ℕ}

-- the writer, and how many calls have failed
pub record StdSinkState (W : Type 0) : Type 0 where
  pub inner : W
  pub faults : ℕ
