-- When limits are due: the keys by which they queue up.
use Rattle.std.specs.Prelude.{◌≡◌, ◌≢◌, ℕ, ◌+◌, ◌*◌, ◌<◌, ◌≤◌, ◌^◌, List, length, slice_index, slice_index_or, Option, None, MatchOption}
use Rattle.frac128.specs.declared.fractions.Fraction.{Fraction}
use Rattle.eating.specs.declared.due.Due.{Due}
use Rattle.eating.specs.Steps.{IsKey}

-- an open limit is due at the moment before the end at which it is full by its rest and its speed, if there is one; a full one never
pub record IsDue (unit at moment rest speed : ℕ) (due : Option Fraction) : Type 0 where
  pub if_open : moment ≡ unit → MatchOption due (unit * speed ≤ at * speed + rest) (IsKey unit at rest speed)
  pub if_full : moment ≢ unit → due ≡ None

-- the law of the queue: the key of each limit is the moment at which it is due
pub record AreDueAt (unit at : ℕ) (moments rests speeds : List ℕ) (dues : List Due) : Type 0 where
  pub many : length dues ≡ length moments
  pub each : (d : Due) (j : ℕ) → j < length moments → IsDue unit at (slice_index moments j) (slice_index rests j) (slice_index speeds j) (slice_index_or dues j d).moment

-- what no speed changes: a moment before the end over a unit that isn't too fine, and no rest that is too large
pub record IsSteadyAt (unit at : ℕ) (moments rests speeds : List ℕ) : Type 0 where
  pub before_end : at < unit
  pub fine : unit ≤ 2 ^ 116
  pub many_rests : length rests ≡ length moments
  pub many_speeds : length speeds ≡ length moments
  pub rest_within : (j : ℕ) → j < length moments → slice_index moments j ≡ unit → slice_index rests j ≤ 1000 * unit
