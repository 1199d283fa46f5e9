-- Edges: the signed gap that an edge keeps between its share and its whole units, and what a push does.
use Rattle.std.specs.Prelude.{◌≡◌, ℕ, ◌+◌, ◌-◌, ◌*◌, ◌<◌, ◌≤◌, ◌⊎◌, nat_lt, if◌then◌else◌}
use Rattle.bounded_flow.specs.declared.edge.Edge.{Edge}

-- the remainder of an edge, over the weight left
abbrev pub rest_of : ℕ → Edge → ℕ
rest_of left e = left * e.whole + e.under - e.over

-- the distance of the remainder from the weight left times the whole units
abbrev pub gap_of : Edge → ℕ
gap_of e = e.under + e.over

-- the node to which a push brings a unit
abbrev pub enters : Edge → ℕ
enters e = if nat_lt 0 e.under then e.head else e.tail

-- the node from which a push takes a unit
abbrev pub leaves : Edge → ℕ
leaves e = if nat_lt 0 e.under then e.tail else e.head

-- the two ends of an edge
abbrev pub wire : Edge → ℕ × ℕ
wire e = (e.tail, e.head)

-- the edge's numbers fit each other: its remainder is at most 1,000 times the weight left, its whole units are at most 1,000,
-- and it isn't short and long at once
pub record IsSound (left : ℕ) (e : Edge) : Type 0 where
  pub one_side : (e.under ≡ 0) ⊎ (e.over ≡ 0)
  pub few : e.whole ≤ 1000
  pub over_left : e.over ≤ left
  pub over_whole : e.over ≤ left * e.whole
  pub rest_few : left * e.whole + e.under ≤ 1000 * left + e.over

-- a push from a to b: the remainder stays, the whole units move by one toward it, and a gap below the weight left stays below it
pub record Pushed (left : ℕ) (a b : Edge) : Type 0 where
  pub tail : b.tail ≡ a.tail
  pub head : b.head ≡ a.head
  pub rest_stays : left * b.whole + b.under + a.over ≡ left * a.whole + a.under + b.over
  pub short : 0 < a.under → b.whole ≡ a.whole + 1
  pub long : 0 < a.over → b.whole + 1 ≡ a.whole
  pub falls : left ≤ gap_of a → gap_of b + left ≡ gap_of a
  pub calm : gap_of a < left → gap_of b < left

-- the edge may be pushed from this node to that one
abbrev pub Leads : Edge → ℕ → ℕ → Type 0
Leads e from to = (0 < gap_of e) × (leaves e ≡ from) × (enters e ≡ to)

-- the edge may be pushed from no such node
abbrev pub LeadsNowhere : Edge → ℕ → Type 0
LeadsNowhere e from = 0 < gap_of e → leaves e ≡ from → ⊥
