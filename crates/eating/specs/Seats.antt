-- Where the agents eat, and how fast each limit is eaten.
use Rattle.std.specs.Prelude.{◌≡◌, ℕ, ◌+◌, ◌*◌, ◌<◌, ◌==◌, List, [], ◌∷◌, length, count_by, slice_get, slice_index, Some}
use Rattle.eating_laws.proofs.Holders.{least_of}
use Rattle.eating.specs.Plan.{LineValue, holders_at}

-- a place of the line before which no place is open
pub record IsSoFar (unit : ℕ) (moments : List ℕ) (line : LineValue) (place : ℕ) : Type 0 where
  pub inside : place < length line.columns
  pub before : (k : ℕ) → k < place → least_of unit moments (holders_at line k) < unit

-- the first open place of the line
pub record IsSeat (unit : ℕ) (moments : List ℕ) (line : LineValue) (place : ℕ) : Type 0 where
  pub so_far : IsSoFar unit moments line place
  pub here : least_of unit moments (holders_at line place) ≡ unit

-- each agent's place is one before which no place is open
pub record AreSoFar (unit : ℕ) (moments : List ℕ) (lines : List LineValue) (places : List ℕ) : Type 0 where
  pub many : length places ≡ length lines
  pub each : (i : ℕ) (line : LineValue) → slice_get lines i ≡ Some line → IsSoFar unit moments line (slice_index places i)

-- each agent's place is its first open one
pub record AreSeats (unit : ℕ) (moments : List ℕ) (lines : List LineValue) (places : List ℕ) : Type 0 where
  pub many : length places ≡ length lines
  pub each : (i : ℕ) (line : LineValue) → slice_get lines i ≡ Some line → IsSeat unit moments line (slice_index places i)

-- how fast limit j is eaten by agents on these lines at these places
unfoldable pub seat_speed : List LineValue → List ℕ → ℕ → ℕ
seat_speed [] places j = 0
seat_speed (line ∷ lines) [] j = 0
seat_speed (line ∷ lines) (place ∷ places) j = line.demand * count_by (λ h. h == j) (holders_at line place) + seat_speed lines places j
