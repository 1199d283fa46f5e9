-- The state of eating at its start and from moment to moment.
use Rattle.std.specs.Prelude.{◌≡◌, ℕ, ◌+◌, ◌*◌, ◌<◌, ◌≤◌, ◌^◌, List, length, slice_get, slice_index, replicate, Option, Some, None}
use Rattle.definitions.specs.Values.{Market}
use Rattle.definitions.specs.Eating.{limit_ceiling, IsLowestTerms}
use Rattle.frac128.specs.Fraction.{numerator, denominator}
use Rattle.frac128.specs.declared.fractions.Fraction.{Fraction}
use Rattle.frac128.specs.Lcm.{IsLcm}
use Rattle.eating.specs.declared.progress.Progress.{Progress}
use Rattle.eating.specs.Plan.{LineValue, AreLinesOf, IsSmall}
use Rattle.eating.specs.Dues.{AreDueAt, IsSteadyAt}
use Rattle.eating.specs.Seats.{AreSeats, AreSoFar, IsSeat, seat_speed}
use Rattle.eating.specs.Steps.{AreAdvanced, IsEarliest, IsNext, IsReady, IsWithin}

-- nothing is eaten: limits with these ceilings are open, and so many agents are each at the first place
pub record IsStartOver (ceilings : List ℕ) (agents : ℕ) (s : Progress) : Type 0 where
  pub unit : s.unit ≡ 1
  pub at : s.at ≡ 0
  pub moments : s.moments.items ≡ replicate (length ceilings) 1
  pub rests : s.rests.items ≡ ceilings
  pub speeds : s.speeds.items ≡ replicate (length ceilings) 0
  pub places : s.places.items ≡ replicate agents 0
  pub dues : s.dues ≡ replicate (length ceilings) (record { moment = None })

-- nothing is eaten: all limits are open, with their ceilings left, and each agent is at its first place
pub record IsStart (market : Market) (agents : ℕ) (s : Progress) : Type 0 where
  pub unit : s.unit ≡ 1
  pub at : s.at ≡ 0
  pub moments : s.moments.items ≡ replicate (length market.limits) 1
  pub many_rests : length s.rests.items ≡ length market.limits
  pub rests : (j : ℕ) → j < length market.limits → slice_index s.rests.items j ≡ limit_ceiling market j
  pub speeds : s.speeds.items ≡ replicate (length market.limits) 0
  pub places : s.places.items ≡ replicate agents 0
  pub dues : s.dues ≡ replicate (length market.limits) (record { moment = None })

-- eating in a market, along the lines of its agents
pub record IsRunOf (market : Market) (lines : List LineValue) (s : Progress) : Type 0 where
  pub lines_of : AreLinesOf market lines
  pub small : IsSmall market
  pub start : IsStart market (length lines) s

-- eating in some market
abbrev pub IsRun : List LineValue → Progress → Type 0
IsRun lines s = (market : Market) × IsRunOf market lines s

-- the state is one from which the eating goes on
abbrev pub CanGoOn : Progress → Type 0
CanGoOn s = IsWithin s.unit s.at s.moments.items s.rests.items s.speeds.items

-- the earliest moment before the end at which an open limit is full
abbrev pub IsEarliestMoment : Progress → Fraction → Type 0
IsEarliestMoment s m = IsEarliest s.unit s.at (length s.moments.items) s.moments.items s.rests.items s.speeds.items m

-- that moment, where there is one
abbrev pub IsNextMoment : Progress → Option Fraction → Type 0
IsNextMoment s next = IsNext s.unit s.at (length s.moments.items) s.moments.items s.rests.items s.speeds.items next

-- no open limit has less left than a step over the unit times `factor` takes
abbrev pub LeavesEnough : Progress → ℕ → ℕ → Type 0
LeavesEnough s factor step = (j : ℕ) → j < length s.moments.items → slice_index s.moments.items j ≡ s.unit
    → slice_index s.speeds.items j * step ≤ factor * slice_index s.rests.items j

-- each limit after such a step
abbrev pub AreLimitsAdvanced : Progress → Progress → ℕ → ℕ → Type 0
AreLimitsAdvanced old new factor step = AreAdvanced old.unit factor step (factor * old.at + step)
    old.moments.items old.rests.items old.speeds.items new.moments.items new.rests.items

-- a step to the moment m, over the least unit that it fits
pub record IsStepTo (old new : Progress) (m : Fraction) : Type 0 where
  pub factor : ℕ
  pub step : ℕ
  pub positive : 1 ≤ factor
  pub unit : new.unit ≡ factor * old.unit
  pub fine : new.unit ≤ 2 ^ 116
  pub at : new.at ≡ factor * old.at + step
  pub least : IsLcm old.unit (denominator m) new.unit
  pub value : new.at * denominator m ≡ numerator m * new.unit
  pub limits : AreLimitsAdvanced old new factor step
  pub speeds : new.speeds.items ≡ old.speeds.items
  pub places : new.places.items ≡ old.places.items

-- the agents are seated, with the speeds that they make, and nothing else changes
pub record IsSeated (lines : List LineValue) (old new : Progress) : Type 0 where
  pub seats : AreSeats old.unit old.moments.items lines new.places.items
  pub many : length new.speeds.items ≡ length old.moments.items
  pub speeds : (j : ℕ) → slice_index new.speeds.items j ≡ seat_speed lines new.places.items j
  pub unit : new.unit ≡ old.unit
  pub at : new.at ≡ old.at
  pub moments : new.moments.items ≡ old.moments.items
  pub rests : new.rests.items ≡ old.rests.items

-- the state at a moment: ready to go on, in lowest terms, and each agent in its seat
pub record IsAt (market : Market) (lines : List LineValue) (s : Progress) : Type 0 where
  pub ready : IsReady market s.unit s.at s.moments.items (λ j. slice_index s.rests.items j) (λ j. slice_index s.speeds.items j)
  pub lowest : IsLowestTerms s.unit s.moments.items
  pub fine : s.unit ≤ 2 ^ 116
  pub many_rests : length s.rests.items ≡ length s.moments.items
  pub many_speeds : length s.speeds.items ≡ length s.moments.items
  pub seats : AreSeats s.unit s.moments.items lines s.places.items
  pub speeds : (j : ℕ) → slice_index s.speeds.items j ≡ seat_speed lines s.places.items j

-- each limit's key is the moment at which it is due
abbrev pub AreDue : Progress → Type 0
AreDue s = AreDueAt s.unit s.at s.moments.items s.rests.items s.speeds.items s.dues

-- what no speed changes lies within its bounds
abbrev pub IsSteady : Progress → Type 0
IsSteady s = IsSteadyAt s.unit s.at s.moments.items s.rests.items s.speeds.items

-- the same moment, with the same limits full and the same rests
pub record IsHeld (old new : Progress) : Type 0 where
  pub unit : new.unit ≡ old.unit
  pub at : new.at ≡ old.at
  pub moments : new.moments.items ≡ old.moments.items
  pub rests : new.rests.items ≡ old.rests.items
  pub many : length new.speeds.items ≡ length old.speeds.items

-- while the agents move: those before agent i are in their seats, and the speeds are those of all agents where they are
pub record IsMoving (lines : List LineValue) (i : ℕ) (s : Progress) : Type 0 where
  pub steady : IsSteady s
  pub dues : AreDue s
  pub so_far : AreSoFar s.unit s.moments.items lines s.places.items
  pub done : (k : ℕ) (line : LineValue) → k < i → slice_get lines k ≡ Some line → IsSeat s.unit s.moments.items line (slice_index s.places.items k)
  pub speeds : (j : ℕ) → slice_index s.speeds.items j ≡ seat_speed lines s.places.items j
