-- What all agents eat of a set.
use Rattle.std.proofs.Common.{subst, ◌≡◌, ℕ, ◌+◌, ◌-◌, ◌*◌, ◌<◌, ◌≤◌, List, [], ◌∷◌, Bool, true, refl, ap, sym, ◌∙◌, arith, length, map}
use Rattle.std.specs.Prelude.{min, ◌⊎◌, sum_by}
use Rattle.std.specs.Int.{◌∣◌}
use Rattle.std.proofs.Math.Nat.{mul-add, add-mul, dvd-add, dvd-zero}
use Rattle.std.proofs.lemmas.List.Sums.{sum_by-cons}
use Rattle.definitions.specs.declared.Cell.{Cell}
use Rattle.definitions.specs.Sets.{cell_of, holds}
use Rattle.definitions.specs.Values.{Limit, Agent, Market}
use Rattle.definitions.specs.Eating.{full_at, eaten_along, eaten_from, eaten_by, moment_at, demand_sum}
use Rattle.eating_laws.proofs.Line.{rate, rate_le, rate_scale, along_past, along_cut, along_scale, along_le, along_stays, along_rate, along_multiple}
use Rattle.eating_laws.proofs.Full.{full_cut, full_scale, full_said, full_multiple}

-- the speed at which the agents from i on eat of these cells just after moment u
unfoldable pub speed_from : ℕ → List Limit → List ℕ → List Cell → ℕ → ℕ → List Agent → ℕ
speed_from D limits e cells u i [] = 0
speed_from D limits e cells u i (w ∷ agents) =
    rate w.demand (full_at D limits e i) (λ a. holds cells (cell_of i a)) u w.list + speed_from D limits e cells u (i + 1) agents

-- the speed at which all agents eat of these cells just after moment u
abbrev pub speed_of : Market → ℕ → List ℕ → ℕ → List Cell → ℕ
speed_of market D e u cells = speed_from D market.limits e cells u 0 market.agents

from_zero : (D : ℕ) (limits : List Limit) (e : List ℕ) (cells : List Cell) (i : ℕ) (agents : List Agent) → eaten_from D limits e cells 0 i agents ≡ 0
unfolding eaten_from
from_zero D limits e cells i [] = refl
from_zero D limits e cells i (w ∷ agents) =
    omega (arith, along_past w.demand (full_at D limits e i) (λ a. holds cells (cell_of i a)) 0 0 w.list (omega arith), from_zero D limits e cells (i + 1) agents)

-- by moment 0 nothing is eaten
pub eaten_zero : (market : Market) (D : ℕ) (e : List ℕ) (cells : List Cell) → eaten_by market D e cells 0 ≡ 0
unfolding eaten_by
eaten_zero market D e cells = from_zero D market.limits e cells 0 market.agents

from_cut : (D n t : ℕ) (limits : List Limit) (e e' : List ℕ) (cells : List Cell) (i : ℕ) (agents : List Agent) → length e ≡ length e'
    → ((j : ℕ) → min n (moment_at e j) ≡ min n (moment_at e' j)) → t ≤ n → eaten_from D limits e cells t i agents ≡ eaten_from D limits e' cells t i agents
unfolding eaten_from
from_cut D n t limits e e' cells i [] l h k = refl
from_cut D n t limits e e' cells i (w ∷ agents) l h k =
    omega (
      arith,
      along_cut w.demand n (full_at D limits e i) (full_at D limits e' i) (λ a. holds cells (cell_of i a)) 0 0 t w.list (λ a. full_cut D n limits e e' i a l h) refl k,
      from_cut D n t limits e e' cells (i + 1) agents l h k,
    )

-- tables that agree up to a moment: as much is eaten by it
pub eaten_cut : (market : Market) (D n t : ℕ) (e e' : List ℕ) (cells : List Cell) → length e ≡ length e'
    → ((j : ℕ) → min n (moment_at e j) ≡ min n (moment_at e' j)) → t ≤ n → eaten_by market D e cells t ≡ eaten_by market D e' cells t
unfolding eaten_by
eaten_cut market D n t e e' cells l h k = from_cut D n t market.limits e e' cells 0 market.agents l h k

from_scale : (c D s r : ℕ) (limits : List Limit) (e : List ℕ) (cells : List Cell) (i : ℕ) (agents : List Agent) → r ≤ c
    → eaten_from (c * D) limits (map (λ x. c * x) e) cells (c * s + r) i agents ≡ (c - r) * eaten_from D limits e cells s i agents + r * eaten_from D limits e cells (s + 1) i agents
unfolding eaten_from
from_scale c D s r limits e cells i [] h = omega arith
from_scale c D s r limits e cells i (w ∷ agents) h =
    let of : ℕ → Bool = λ a. holds cells (cell_of i a) in
    let start : c * 0 ≡ 0 = omega arith in
    let head : eaten_along w.demand (full_at (c * D) limits (map (λ x. c * x) e) i) of 0 (c * s + r) w.list
    ≡ (c - r) * eaten_along w.demand (full_at D limits e i) of 0 s w.list + r * eaten_along w.demand (full_at D limits e i) of 0 (s + 1) w.list =
    ap (λ n. eaten_along w.demand (full_at (c * D) limits (map (λ x. c * x) e) i) of n (c * s + r) w.list) (sym start)
    ∙ along_scale w.demand c s r (full_at D limits e i) (full_at (c * D) limits (map (λ x. c * x) e) i) of 0 w.list h (λ a. full_scale c D limits e i a) in
    let low = mul-add (c - r) (eaten_along w.demand (full_at D limits e i) of 0 s w.list) (eaten_from D limits e cells s (i + 1) agents) in
    let high = mul-add r (eaten_along w.demand (full_at D limits e i) of 0 (s + 1) w.list) (eaten_from D limits e cells (s + 1) (i + 1) agents) in
    omega (arith, head, low, high, from_scale c D s r limits e cells (i + 1) agents h)

-- what is eaten by a finer moment
pub eaten_scale : (market : Market) (c D s r : ℕ) (e : List ℕ) (cells : List Cell) → r ≤ c
    → eaten_by market (c * D) (map (λ x. c * x) e) cells (c * s + r) ≡ (c - r) * eaten_by market D e cells s + r * eaten_by market D e cells (s + 1)
unfolding eaten_by
eaten_scale market c D s r e cells h = from_scale c D s r market.limits e cells 0 market.agents h

from_le : (D t t' : ℕ) (limits : List Limit) (e : List ℕ) (cells : List Cell) (i : ℕ) (agents : List Agent) → t ≤ t'
    → eaten_from D limits e cells t i agents ≤ eaten_from D limits e cells t' i agents
unfolding eaten_from
from_le D t t' limits e cells i [] h = omega arith
from_le D t t' limits e cells i (w ∷ agents) h =
    omega (arith, along_le w.demand (full_at D limits e i) (λ a. holds cells (cell_of i a)) 0 t t' w.list h, from_le D t t' limits e cells (i + 1) agents h)

-- more is eaten by a later moment
pub eaten_le : (market : Market) (D t t' : ℕ) (e : List ℕ) (cells : List Cell) → t ≤ t' → eaten_by market D e cells t ≤ eaten_by market D e cells t'
unfolding eaten_by
eaten_le market D t t' e cells h = from_le D t t' market.limits e cells 0 market.agents h

from_stays : (D x t : ℕ) (limits : List Limit) (e : List ℕ) (cells : List Cell) (i : ℕ) (agents : List Agent) → x ≤ t
    → ((k a : ℕ) → holds cells (cell_of k a) ≡ true → full_at D limits e k a ≤ x) → eaten_from D limits e cells t i agents ≡ eaten_from D limits e cells x i agents
unfolding eaten_from
from_stays D x t limits e cells i [] h k = refl
from_stays D x t limits e cells i (w ∷ agents) h k =
    omega (arith, along_stays w.demand (full_at D limits e i) (λ a. holds cells (cell_of i a)) 0 x t w.list h (k i), from_stays D x t limits e cells (i + 1) agents h k)

-- from the moment on at which all cells of a set are full, no more of it is eaten
pub eaten_by_stays : (market : Market) (D x t : ℕ) (e : List ℕ) (cells : List Cell) → x ≤ t
    → ((k a : ℕ) → holds cells (cell_of k a) ≡ true → full_at D market.limits e k a ≤ x) → eaten_by market D e cells t ≡ eaten_by market D e cells x
unfolding eaten_by
eaten_by_stays market D x t e cells h k = from_stays D x t market.limits e cells 0 market.agents h k

from_rate : (D u s : ℕ) (limits : List Limit) (e : List ℕ) (cells : List Cell) (i : ℕ) (agents : List Agent) → ((k a : ℕ) → (full_at D limits e k a ≤ u) ⊎ (u + s ≤ full_at D limits e k a))
    → eaten_from D limits e cells (u + s) i agents ≡ eaten_from D limits e cells u i agents + speed_from D limits e cells u i agents * s
unfolding eaten_from speed_from
from_rate D u s limits e cells i [] h = omega arith
from_rate D u s limits e cells i (w ∷ agents) h =
    let head = along_rate w.demand (full_at D limits e i) (λ a. holds cells (cell_of i a)) 0 u s w.list (h i) (omega arith) in
    let both = add-mul (rate w.demand (full_at D limits e i) (λ a. holds cells (cell_of i a)) u w.list) (speed_from D limits e cells u (i + 1) agents) s in
    omega (arith, head, both, from_rate D u s limits e cells (i + 1) agents h)

-- where no number lies between two moments, a set is eaten at its speed
pub eaten_rate : (market : Market) (D u s : ℕ) (e : List ℕ) (cells : List Cell) → u + s ≤ D → ((j : ℕ) → j < length e → (moment_at e j ≤ u) ⊎ (u + s ≤ moment_at e j))
    → eaten_by market D e cells (u + s) ≡ eaten_by market D e cells u + speed_of market D e u cells * s
unfolding eaten_by
eaten_rate market D u s e cells h k =
    from_rate D u s market.limits e cells 0 market.agents (λ i a. full_said D u (u + s) market.limits e i a h k)

from_multiple : (f D u : ℕ) (limits : List Limit) (e : List ℕ) (cells : List Cell) (i : ℕ) (agents : List Agent) → ((k a : ℕ) → f ∣ min u (full_at D limits e k a))
    → f ∣ eaten_from D limits e cells u i agents
unfolding eaten_from
from_multiple f D u limits e cells i [] h = dvd-zero f
from_multiple f D u limits e cells i (w ∷ agents) h =
    dvd-add f (along_multiple f w.demand (full_at D limits e i) (λ a. holds cells (cell_of i a)) 0 u w.list (h i) (subst (λ n. f ∣ n) none (dvd-zero f)))
    (from_multiple f D u limits e cells (i + 1) agents h)
  where
    none : 0 ≡ min u 0
    none = omega arith

-- what divides u and all numbers up to u divides what is eaten by u
pub eaten_multiple : (market : Market) (f D u : ℕ) (e : List ℕ) (cells : List Cell) → f ∣ min u D → ((j : ℕ) → j < length e → f ∣ min u (moment_at e j))
    → f ∣ eaten_by market D e cells u
unfolding eaten_by
eaten_multiple market f D u e cells h k =
    from_multiple f D u market.limits e cells 0 market.agents (λ i a. full_multiple D f u market.limits e i a h k)

from_speed : (D u : ℕ) (limits : List Limit) (e : List ℕ) (cells : List Cell) (i : ℕ) (agents : List Agent) → speed_from D limits e cells u i agents ≤ sum_by (λ w. w.demand) agents
unfolding speed_from
from_speed D u limits e cells i [] = omega arith
from_speed D u limits e cells i (w ∷ agents) =
    omega (arith, rate_le w.demand (full_at D limits e i) (λ a. holds cells (cell_of i a)) u w.list, from_speed D u limits e cells (i + 1) agents, sum_by-cons (λ (v : Agent). v.demand) w agents)

-- no set is eaten faster than by all demands together
pub speed_le : (market : Market) (D u : ℕ) (e : List ℕ) (cells : List Cell) → speed_of market D e u cells ≤ demand_sum market
speed_le market D u e cells = from_speed D u market.limits e cells 0 market.agents

speed_scale_from : (c D u : ℕ) (limits : List Limit) (e : List ℕ) (cells : List Cell) (i : ℕ) (agents : List Agent) → 0 < c
    → speed_from (c * D) limits (map (λ x. c * x) e) cells (c * u) i agents ≡ speed_from D limits e cells u i agents
unfolding speed_from
speed_scale_from c D u limits e cells i [] p = refl
speed_scale_from c D u limits e cells i (w ∷ agents) p =
    omega (
      arith,
      rate_scale w.demand c u (full_at D limits e i) (full_at (c * D) limits (map (λ x. c * x) e) i) (λ a. holds cells (cell_of i a)) w.list p (λ a. full_scale c D limits e i a),
      speed_scale_from c D u limits e cells (i + 1) agents p,
    )

-- the speed doesn't change where a table is over a larger denominator
pub speed_scale : (market : Market) (c D u : ℕ) (e : List ℕ) (cells : List Cell) → 0 < c → speed_of market (c * D) (map (λ x. c * x) e) (c * u) cells ≡ speed_of market D e u cells
speed_scale market c D u e cells p = speed_scale_from c D u market.limits e cells 0 market.agents p
