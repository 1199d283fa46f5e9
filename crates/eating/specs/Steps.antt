-- The steps of eating from one moment at which limits are full to the next.
use Rattle.std.specs.Prelude.{◌≡◌, ◌≢◌, ℕ, ◌+◌, ◌*◌, ◌<◌, ◌≤◌, ◌^◌, List, length, slice_index, Option, MatchOption}
use Rattle.definitions.specs.Values.{Market}
use Rattle.definitions.specs.Eating.{eaten_by, moment_at, limit_cells, limit_ceiling}
use Rattle.eating_laws.proofs.Right.{IsRightBelow}
use Rattle.eating_laws.proofs.Sums.{speed_of}
use Rattle.frac128.specs.Fraction.{numerator, denominator}
use Rattle.frac128.specs.declared.fractions.Fraction.{Fraction}

-- at moment `at` the table is right, each open limit has this much left, and each limit is eaten so fast
pub record IsReady (market : Market) (unit at : ℕ) (moments : List ℕ) (rest speed : ℕ → ℕ) : Type 0 where
  pub right : IsRightBelow market unit (at + 1) moments
  pub left : (j : ℕ) → j < length moments → moment_at moments j ≡ unit
      → rest j + eaten_by market unit moments (limit_cells market j) at ≡ limit_ceiling market j * unit
  pub fast : (j : ℕ) → j < length moments → speed j ≡ speed_of market unit moments at (limit_cells market j)

-- a limit after a step over the unit times `factor`: an open limit has less left, and is full at `at` if nothing is
pub record IsAdvanced (unit factor step at moment rest speed new_moment new_rest : ℕ) : Type 0 where
  pub full : moment ≢ unit → new_moment ≡ factor * moment
  pub left : moment ≡ unit → new_rest + speed * step ≡ factor * rest
  pub now : moment ≡ unit → new_rest ≡ 0 → new_moment ≡ at
  pub later : moment ≡ unit → 0 < new_rest → new_moment ≡ factor * unit

-- the same of every limit
pub record AreAdvanced (unit factor step at : ℕ) (moments rests speeds new_moments new_rests : List ℕ) : Type 0 where
  pub many : length new_moments ≡ length moments
  pub many_rests : length new_rests ≡ length moments
  pub each : (j : ℕ) → j < length moments
      → IsAdvanced unit factor step at (slice_index moments j) (slice_index rests j) (slice_index speeds j) (slice_index new_moments j) (slice_index new_rests j)

-- a limit is full at the moment m before the end, if it goes on being eaten so fast
pub record IsKey (unit at rest speed : ℕ) (m : Fraction) : Type 0 where
  pub before_end : at * speed + rest < unit * speed
  pub value : numerator m * (unit * speed) ≡ (at * speed + rest) * denominator m

-- m is no later than the moment at which the limit is full
abbrev pub IsNoLater : ℕ → ℕ → ℕ → ℕ → Fraction → Type 0
IsNoLater unit at rest speed m = numerator m * (unit * speed) ≤ (at * speed + rest) * denominator m

-- the earliest moment before the end at which one of the first n limits is full
pub record IsEarliest (unit at n : ℕ) (moments rests speeds : List ℕ) (m : Fraction) : Type 0 where
  pub limit : ℕ
  pub known : limit < n
  pub is_open : slice_index moments limit ≡ unit
  pub key : IsKey unit at (slice_index rests limit) (slice_index speeds limit) m
  pub least : (j : ℕ) → j < n → slice_index moments j ≡ unit → IsNoLater unit at (slice_index rests j) (slice_index speeds j) m

-- none of the first n limits is full before the end
abbrev pub IsNoneNext : ℕ → ℕ → ℕ → List ℕ → List ℕ → List ℕ → Type 0
IsNoneNext unit at n moments rests speeds = (j : ℕ) → j < n → slice_index moments j ≡ unit
    → unit * slice_index speeds j ≤ at * slice_index speeds j + slice_index rests j

-- the earliest such moment, where there is one
abbrev pub IsNext : ℕ → ℕ → ℕ → List ℕ → List ℕ → List ℕ → Option Fraction → Type 0
IsNext unit at n moments rests speeds next =
    MatchOption next (IsNoneNext unit at n moments rests speeds) (IsEarliest unit at n moments rests speeds)

-- a list for each limit, a moment before the end over a unit that isn't too fine, and no number that is too large
pub record IsWithin (unit at : ℕ) (moments rests speeds : List ℕ) : Type 0 where
  pub before_end : at < unit
  pub fine : unit ≤ 2 ^ 116
  pub many_rests : length rests ≡ length moments
  pub many_speeds : length speeds ≡ length moments
  pub few : length moments < 2 ^ 32
  pub within : (j : ℕ) → slice_index moments j ≤ unit
  pub rest_within : (j : ℕ) → j < length moments → slice_index moments j ≡ unit → slice_index rests j ≤ 1000 * unit
  pub speed_within : (j : ℕ) → slice_index speeds j ≤ 1000
