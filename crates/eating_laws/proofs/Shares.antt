-- What the agents have in the end.
use Rattle.std.proofs.Common.{◌≡◌, ℕ, suc, zero, ◌+◌, ◌-◌, ◌*◌, ◌<◌, ◌≤◌, List, [], ◌∷◌, Bool, true, false, cond, length, Option, Some, refl, ap, sym, ◌∙◌, arith, subst}
use Rattle.std.specs.Prelude.{min, max, nat_eq, take, sum_by, ◌==◌, ◌&&◌, slice_index, slice_get, unwrap_or}
use Rattle.std.specs.List.{AllByRecursion, IsDistinct, range_with_len}
use Rattle.std.specs.Set.{is_member}
use Rattle.std.proofs.lemmas.Bool.{eq-eqb, ne_eqb}
use Rattle.std.proofs.lemmas.Option.{slice_get_past}
use Rattle.std.proofs.lemmas.List.Sums.{sum_by-cons}
use Rattle.definitions.specs.declared.Cell.{Cell}
use Rattle.definitions.specs.Sets.{cell_of, holds, same_cell, set_sum}
use Rattle.definitions.specs.Values.{Limit, Agent, Market}
use Rattle.definitions.specs.Eating.{full_at, eaten_along, eaten_from, eaten_by, reached, share, moment_at, limit_cells, limit_ceiling, no_agent, IsEatingTable}
use Rattle.definitions.proofs.Members.{cell_test, distinct_none, distinct_more}
use Rattle.definitions.proofs.Sums.{sum_same, sum_zero, sum_of_sums, single}
use Rattle.definitions.proofs.Ranges.{member_of_range, distinct_range}
use Rattle.eating_laws.proofs.Line.{along_same, along_all, reached_from}
use Rattle.eating_laws.proofs.Columns.{sum_columns, column_off, front_sum, at_place}
use Rattle.eating_laws.proofs.Sums.{eaten_by_stays}
use Rattle.eating_laws.proofs.Full.{full_below}

-- the share of a known agent
pub share_is : (market : Market) (D : ℕ) (e : List ℕ) (i a : ℕ) (w : Agent) → slice_get market.agents i ≡ Some w
    → share market D e i a ≡ eaten_along w.demand (full_at D market.limits e i) (λ b. b == a) 0 D w.list
share_is market D e i a w h =
    ap (λ (o : Option Agent). let v : Agent = unwrap_or o no_agent in eaten_along v.demand (full_at D market.limits e i) (λ b. b == a) 0 D v.list) h

-- past the agents there is nothing
pub share_past : (market : Market) (D : ℕ) (e : List ℕ) (i a : ℕ) → length market.agents ≤ i → share market D e i a ≡ 0
unfolding eaten_along
share_past market D e i a h =
    ap (λ (o : Option Agent). let v : Agent = unwrap_or o no_agent in eaten_along v.demand (full_at D market.limits e i) (λ b. b == a) 0 D v.list) (slice_get_past market.agents i h)

-- off an agent's list there is nothing
pub share_off : (market : Market) (D : ℕ) (e : List ℕ) (i a : ℕ) (w : Agent) → slice_get market.agents i ≡ Some w → is_member nat_eq w.list a ≡ false → share market D e i a ≡ 0
share_off market D e i a w h off = share_is market D e i a w h ∙ column_off w.demand (full_at D market.limits e i) 0 D a w.list off

-- the first k columns of a list
pub prefix_share : (market : Market) (D : ℕ) (e : List ℕ) (i k : ℕ) (w : Agent) → slice_get market.agents i ≡ Some w → IsDistinct nat_eq w.list
    → sum_by (share market D e i) (take k w.list) ≡ w.demand * min D (reached (full_at D market.limits e i) 0 (take k w.list))
prefix_share market D e i k w h apart =
    sum_same (share market D e i) (λ x. eaten_along w.demand (full_at D market.limits e i) (λ b. b == x) 0 D w.list) (take k w.list) (λ a. share_is market D e i a w h)
    ∙ front_sum w.demand (full_at D market.limits e i) D k w.list apart

-- the column at one place
pub place_share : (market : Market) (D : ℕ) (e : List ℕ) (i k : ℕ) (w : Agent) → slice_get market.agents i ≡ Some w → IsDistinct nat_eq w.list → k < length w.list
    → share market D e i (slice_index w.list k)
    ≡ w.demand * (min D (reached (full_at D market.limits e i) 0 (take (k + 1) w.list)) - min D (reached (full_at D market.limits e i) 0 (take k w.list)))
place_share market D e i k w h apart l =
    share_is market D e i (slice_index w.list k) w h ∙ at_place w.demand (full_at D market.limits e i) D k w.list apart l

-- the end is reached where the last column is never full
pub reached_at : (full : ℕ → ℕ) (from : ℕ) (list : List ℕ) (k a : ℕ) → slice_get list k ≡ Some a → full a ≤ reached full from list
unfolding reached
reached_at full from [] k a h = cc h
reached_at full from (b ∷ list) zero a h =
    let same : b ≡ a = cc h in
    subst (λ x. full x ≤ reached full (max from (full b)) list) same (let up = reached_from full (max from (full b)) list in omega (arith, up))
reached_at full from (b ∷ list) (suc k) a h = reached_at full (max from (full b)) list k a h

all_counted : (columns : ℕ) (list : List ℕ) → AllByRecursion (λ a. a < columns) list → AllByRecursion (λ a. is_member nat_eq (range_with_len 0 columns) a ≡ true) list
all_counted columns [] h = tt
all_counted columns (a ∷ list) h = (member_of_range 0 columns a (omega arith) (let l : a < columns = h.0 in omega arith), all_counted columns list h.1)

-- a whole row, where some column of the list is never full
pub row_share : (market : Market) (D : ℕ) (e : List ℕ) (i columns k a : ℕ) (w : Agent) → slice_get market.agents i ≡ Some w → AllByRecursion (λ b. b < columns) w.list
    → slice_get w.list k ≡ Some a → full_at D market.limits e i a ≡ D → sum_by (share market D e i) (range_with_len 0 columns) ≡ w.demand * D
row_share market D e i columns k a w h inside last never =
    let full = full_at D market.limits e i in
    let end : min D (reached full 0 w.list) - min D 0 ≡ D = (let up = reached_at full 0 w.list k a last in omega (arith, up, never)) in
    sum_same (share market D e i) (λ x. eaten_along w.demand full (λ b. b == x) 0 D w.list) (range_with_len 0 columns) (λ b. share_is market D e i b w h)
    ∙ sum_columns w.demand full 0 D w.list (range_with_len 0 columns) (distinct_range 0 columns)
    ∙ along_same w.demand full (is_member nat_eq (range_with_len 0 columns)) (λ b. true) 0 D w.list (all_counted columns w.list inside)
    ∙ along_all w.demand full 0 D w.list
    ∙ ap (λ n. w.demand * n) end

-- what agent i has of the cells of a set
agent_cells : (i d : ℕ) (full : ℕ → ℕ) (from t : ℕ) (list : List ℕ) (cells : List Cell) → IsDistinct same_cell cells
    → sum_by (λ c. cond (i == c.agent) (eaten_along d full (λ b. b == c.object) from t list) 0) cells ≡ eaten_along d full (λ a. holds cells (cell_of i a)) from t list
unfolding eaten_along
agent_cells i d full from t [] cells h =
    sum_same (λ c. cond (i == c.agent) 0 0) (λ c. 0) cells (λ c. nothing (i == c.agent)) ∙ sum_zero cells
  where
    nothing : (b : Bool) → cond {A = ℕ} b 0 0 ≡ 0
    nothing true = refl
    nothing false = refl
agent_cells i d full from t (a ∷ list) cells h =
    let m = max from (full a) in
    let n = min t m - min t from in
    let split : sum_by (λ (c : Cell). cond (i == c.agent) (cond (a == c.object) (d * n) 0 + eaten_along d full (λ b. b == c.object) m t list) 0) cells
    ≡ sum_by (λ (c : Cell). cond (same_cell (cell_of i a) c) (d * n) 0 + cond (i == c.agent) (eaten_along d full (λ b. b == c.object) m t list) 0) cells =
    sum_same (λ (c : Cell). cond (i == c.agent) (cond (a == c.object) (d * n) 0 + eaten_along d full (λ b. b == c.object) m t list) 0)
    (λ (c : Cell). cond (same_cell (cell_of i a) c) (d * n) 0 + cond (i == c.agent) (eaten_along d full (λ b. b == c.object) m t list) 0) cells
    (λ c. both (i == c.agent) (a == c.object) (d * n) (eaten_along d full (λ b. b == c.object) m t list)) in
    let apart : sum_by (λ (c : Cell). cond (same_cell (cell_of i a) c) (d * n) 0 + cond (i == c.agent) (eaten_along d full (λ b. b == c.object) m t list) 0) cells
    ≡ sum_by (λ (c : Cell). cond (same_cell (cell_of i a) c) (d * n) 0) cells + sum_by (λ (c : Cell). cond (i == c.agent) (eaten_along d full (λ b. b == c.object) m t list) 0) cells =
    sum_of_sums (λ (c : Cell). cond (same_cell (cell_of i a) c) (d * n) 0) (λ (c : Cell). cond (i == c.agent) (eaten_along d full (λ b. b == c.object) m t list) 0) cells in
    let here : sum_by (λ (c : Cell). cond (same_cell (cell_of i a) c) (d * n) 0) cells ≡ cond (holds cells (cell_of i a)) (d * n) 0 = single same_cell cell_test (λ _. d * n) (cell_of i a) cells h in
    omega (arith, split, apart, here, agent_cells i d full m t list cells h)
  where
    both : (p q : Bool) (x y : ℕ) → cond p (cond q x 0 + y) 0 ≡ cond (p && q) x 0 + cond p y 0
    both true q x y = refl
    both false q x y = refl

-- what is eaten of a cell by moment t, as a sum over the agents from i on
unfoldable units_from : ℕ → ℕ → List Limit → List ℕ → ℕ → List Agent → Cell → ℕ
units_from D t limits e i [] c = 0
units_from D t limits e i (w ∷ agents) c =
    cond (i == c.agent) (eaten_along w.demand (full_at D limits e i) (λ b. b == c.object) 0 t w.list) 0 + units_from D t limits e (i + 1) agents c

units_before : (D t : ℕ) (limits : List Limit) (e : List ℕ) (i : ℕ) (agents : List Agent) (c : Cell) → c.agent < i → units_from D t limits e i agents c ≡ 0
unfolding units_from
units_before D t limits e i [] c h = refl
units_before D t limits e i (w ∷ agents) c h =
    let other : nat_eq i c.agent ≡ false = ne_eqb i c.agent (λ k. absurd (omega arith)) in
    let none : cond (i == c.agent) (eaten_along w.demand (full_at D limits e i) (λ b. b == c.object) 0 t w.list) 0 ≡ 0 =
    ap (λ b. cond b (eaten_along w.demand (full_at D limits e i) (λ b. b == c.object) 0 t w.list) 0) other in
    omega (arith, none, units_before D t limits e (i + 1) agents c (omega arith))

units_at : (D t : ℕ) (limits : List Limit) (e : List ℕ) (i k : ℕ) (agents : List Agent) (c : Cell) → i + k ≡ c.agent
    → units_from D t limits e i agents c ≡ (let v : Agent = unwrap_or (slice_get agents k) no_agent in eaten_along v.demand (full_at D limits e c.agent) (λ b. b == c.object) 0 t v.list)
unfolding units_from eaten_along
units_at D t limits e i k [] c h = refl
units_at D t limits e i zero (w ∷ agents) c h =
    let here : i ≡ c.agent = omega arith in
    let test : nat_eq i c.agent ≡ true = eq-eqb i c.agent here in
    let head : cond (i == c.agent) (eaten_along w.demand (full_at D limits e i) (λ b. b == c.object) 0 t w.list) 0 ≡ eaten_along w.demand (full_at D limits e c.agent) (λ b. b == c.object) 0 t w.list =
    ap (λ b. cond b (eaten_along w.demand (full_at D limits e i) (λ b. b == c.object) 0 t w.list) 0) test
    ∙ ap (λ k. eaten_along w.demand (full_at D limits e k) (λ b. b == c.object) 0 t w.list) here in
    omega (arith, head, units_before D t limits e (i + 1) agents c (omega arith))
units_at D t limits e i (suc k) (w ∷ agents) c h =
    let other : nat_eq i c.agent ≡ false = ne_eqb i c.agent (λ k. absurd (omega arith)) in
    let none : cond (i == c.agent) (eaten_along w.demand (full_at D limits e i) (λ b. b == c.object) 0 t w.list) 0 ≡ 0 =
    ap (λ b. cond b (eaten_along w.demand (full_at D limits e i) (λ b. b == c.object) 0 t w.list) 0) other in
    ap (λ n. n + units_from D t limits e (i + 1) agents c) none ∙ (let plain : 0 + units_from D t limits e (i + 1) agents c ≡ units_from D t limits e (i + 1) agents c = omega arith in plain)
    ∙ units_at D t limits e (i + 1) k agents c (omega arith)

sums_from : (D t : ℕ) (limits : List Limit) (e : List ℕ) (cells : List Cell) (i : ℕ) (agents : List Agent) → IsDistinct same_cell cells
    → sum_by (units_from D t limits e i agents) cells ≡ eaten_from D limits e cells t i agents
unfolding units_from eaten_from
sums_from D t limits e cells i [] h = sum_zero cells
sums_from D t limits e cells i (w ∷ agents) h =
    let split : sum_by (λ (c : Cell). cond (i == c.agent) (eaten_along w.demand (full_at D limits e i) (λ b. b == c.object) 0 t w.list) 0 + units_from D t limits e (i + 1) agents c) cells
    ≡ sum_by (λ (c : Cell). cond (i == c.agent) (eaten_along w.demand (full_at D limits e i) (λ b. b == c.object) 0 t w.list) 0) cells + sum_by (units_from D t limits e (i + 1) agents) cells =
    sum_of_sums (λ (c : Cell). cond (i == c.agent) (eaten_along w.demand (full_at D limits e i) (λ b. b == c.object) 0 t w.list) 0) (units_from D t limits e (i + 1) agents) cells in
    omega (arith, split, agent_cells i w.demand (full_at D limits e i) 0 t w.list cells h, sums_from D t limits e cells (i + 1) agents h)

-- what is eaten of one cell is what its agent eats of its column
pub eaten_of_cell : (market : Market) (D : ℕ) (e : List ℕ) (t : ℕ) (c : Cell)
    → eaten_by market D e (c ∷ []) t ≡ (let v : Agent = unwrap_or (slice_get market.agents c.agent) no_agent in eaten_along v.demand (full_at D market.limits e c.agent) (λ b. b == c.object) 0 t v.list)
unfolding eaten_by
eaten_of_cell market D e t c =
    let one = sums_from D t market.limits e (c ∷ []) 0 market.agents (distinct_more same_cell c [] refl (distinct_none same_cell)) in
    omega (arith, one, sum_by-cons (units_from D t market.limits e 0 market.agents) c []) ∙ units_at D t market.limits e 0 c.agent market.agents c (omega arith)

-- the shares of the cells of a set are what is eaten of it in the end
pub sum_is_eaten : (market : Market) (D : ℕ) (e : List ℕ) (cells : List Cell) → IsDistinct same_cell cells
    → set_sum (λ c. share market D e c.agent c.object) cells ≡ eaten_by market D e cells D
unfolding eaten_by
sum_is_eaten market D e cells h =
    sum_same (λ c. share market D e c.agent c.object) (units_from D D market.limits e 0 market.agents) cells
    (λ c. sym (units_at D D market.limits e 0 c.agent market.agents c (omega arith)))
    ∙ sums_from D D market.limits e cells 0 market.agents h

-- a set that is full stays full
pub eaten_after : (market : Market) (D t : ℕ) (e : List ℕ) (j : ℕ) → j < length e → moment_at e j ≤ t → eaten_by market D e (limit_cells market j) t ≡ eaten_by market D e (limit_cells market j) (moment_at e j)
eaten_after market D t e j l k =
    eaten_by_stays market D (moment_at e j) t e (limit_cells market j) k (λ i a in_set. full_below D market.limits e i a j l in_set)

-- no set of an eating table is above its ceiling in the end
pub eaten_within : (market : Market) (D : ℕ) (e : List ℕ) → IsEatingTable market D e → (j : ℕ) → j < length e → eaten_by market D e (limit_cells market j) D ≤ limit_ceiling market j * D
eaten_within market D e h j l = (let kept = h.kept j l in omega (arith, eaten_after market D D e j l (h.within j l), kept))

-- and a set that is full before the end has all of its ceiling
pub eaten_whole : (market : Market) (D : ℕ) (e : List ℕ) → IsEatingTable market D e → (j : ℕ) → j < length e → moment_at e j < D → eaten_by market D e (limit_cells market j) D ≡ limit_ceiling market j * D
eaten_whole market D e h j l k = eaten_after market D D e j l (h.within j l) ∙ h.full j l k
