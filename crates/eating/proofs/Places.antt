-- Going along a list to the first open place.
use Rattle.std.proofs.Common.{◌≡◌, ℕ, ◌+◌, ◌-◌, ◌<◌, ◌≤◌, List, length, ap, ◌∙◌, subst, arith, inl, inr}
use Rattle.std.proofs.lemmas.Bool.{cases_lt}
use Rattle.eating_laws.proofs.Holders.{least_of, least_le}
use Rattle.eating.specs.Plan.{LineValue, IsLine, holders_at}
use Rattle.eating.specs.Seats.{IsSoFar, IsSeat}
use Rattle.eating.proofs.Leasts.{least_none}

-- the last place is open
last_open : (U : ℕ) (e : List ℕ) (line : LineValue) (limits : ℕ) → IsLine limits line → least_of U e (holders_at line (length line.columns - 1)) ≡ U
last_open U e line limits h = ap (least_of U e) h.last ∙ least_none U e

-- a place that isn't open isn't the last
pub place_room : (U : ℕ) (e : List ℕ) (line : LineValue) (limits place : ℕ) → IsLine limits line → IsSoFar U e line place → least_of U e (holders_at line place) < U → place + 1 < length line.columns
place_room U e line limits place h far less = elim (cases_lt (place + 1) (length line.columns)) [
  | inl k ↦ k
  | inr k ↦
      let inside : place < length line.columns = far.inside in
      let same : place ≡ length line.columns - 1 = omega arith in
      absurd (let is = ap (λ k. least_of U e (holders_at line k)) same in omega (arith, less, is, last_open U e line limits h))
]

pub next_place : (U : ℕ) (e : List ℕ) (line : LineValue) (limits place : ℕ) → IsLine limits line → IsSoFar U e line place → least_of U e (holders_at line place) < U → IsSoFar U e line (place + 1)
next_place U e line limits place h far less = record {
  inside = place_room U e line limits place h far less;
  before = λ k l. elim (cases_lt k place) [
    | inl before ↦ far.before k before
    | inr at ↦ (let same : place ≡ k = omega arith in subst (λ n. least_of U e (holders_at line n) < U) same less)
  ];
}

pub seat_here : (U : ℕ) (e : List ℕ) (line : LineValue) (place : ℕ) → IsSoFar U e line place → U ≤ least_of U e (holders_at line place) → IsSeat U e line place
seat_here U e line place far h = record { so_far = far; here = (let le = least_le U e (holders_at line place) in omega (arith, h, le)) }
