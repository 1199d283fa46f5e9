-- What is eaten of the places of a list, in greatest numbers and sums.
use Rattle.std.proofs.Common.{◌≡◌, ℕ, suc, ◌+◌, ◌-◌, ◌*◌, ◌<◌, List, [], ◌∷◌, Bool, true, false, cond, length, map, take, refl, ap, ◌∙◌, arith, inl, inr}
use Rattle.std.specs.Prelude.{◌⊎◌, ◌==◌, min, max, fold, sum_by, nat_eq, slice_get, slice_index, unwrap_or}
use Rattle.std.specs.List.{IsDistinct, range_with_len}
use Rattle.std.specs.Set.{is_member}
use Rattle.std.proofs.lemmas.Bool.{cases_lt, cases_Bool}
use Rattle.std.proofs.lemmas.List.Sums.{sum_by-cons}
use Rattle.definitions.specs.declared.Cell.{Cell}
use Rattle.definitions.specs.Sets.{cell_of, holds}
use Rattle.definitions.specs.Values.{Limit, Agent, Market}
use Rattle.definitions.specs.Eating.{full_at, reached, eaten_along, eaten_from, eaten_by, share, moment_at, no_agent}
use Rattle.definitions.proofs.Sums.{sum_same, sum_shifted}
use Rattle.eating_laws.specs.Places.{IsFullFrom, agent_at, until, eaten_of_place, cell_of_place, eaten_of_list}
use Rattle.eating_laws.proofs.Full.{cells_at, full_le, full_below}
use Rattle.eating_laws.proofs.Columns.{front_sum, at_place, column_off}
use Rattle.eating_laws.proofs.Shares.{eaten_of_cell}

-- the moment at which a cell is full is the end, or that of a limit that holds the cell
full_one : (D : ℕ) (limits : List Limit) (e : List ℕ) (i a : ℕ) → (full_at D limits e i a ≡ D)
    ⊎ ((j : ℕ) × (j < length e) × (holds (cells_at limits j) (cell_of i a) ≡ true) × (full_at D limits e i a ≡ moment_at e j))
unfolding full_at
full_one D [] e i a = inl refl
full_one D (s ∷ limits) [] i a = inl refl
full_one D (s ∷ limits) (x ∷ e) i a = elim (cases_Bool (holds s.cells (cell_of i a))) [
  | inl held ↦ rw held (elim (cases_lt x (full_at D limits e i a)) [
    | inl less ↦ inr (0, omega arith, held, omega arith)
    | inr more ↦ later (min x (full_at D limits e i a)) (let same : min x (full_at D limits e i a) ≡ full_at D limits e i a = omega arith in same) (full_one D limits e i a)
  ])
  | inr free ↦ rw free (later (full_at D limits e i a) refl (full_one D limits e i a))
]
  where
    later : (m : ℕ) → m ≡ full_at D limits e i a → (full_at D limits e i a ≡ D)
        ⊎ ((j : ℕ) × (j < length e) × (holds (cells_at limits j) (cell_of i a) ≡ true) × (full_at D limits e i a ≡ moment_at e j))
        → (m ≡ D) ⊎ ((j : ℕ) × (j < suc (length e)) × (holds (cells_at (s ∷ limits) j) (cell_of i a) ≡ true) × (m ≡ moment_at (x ∷ e) j))
    later m same (inl end) = inl (same ∙ end)
    later m same (inr (j, l, h, at)) = inr (suc j, omega arith, h, same ∙ at)

-- it is the earliest of these
pub full_is : (market : Market) (D : ℕ) (e : List ℕ) (i a : ℕ) → IsFullFrom market D e i a (full_at D market.limits e i a)
full_is market D e i a = record {
  end = full_le D market.limits e i a;
  limits = λ j l h. full_below D market.limits e i a j l h;
  one = full_one D market.limits e i a;
}

-- the running moment is the greatest of the moments
reached_is : (full : ℕ → ℕ) (from : ℕ) (list : List ℕ) → reached full from list ≡ fold max from (map full list)
unfolding reached
reached_is full from [] = refl
reached_is full from (a ∷ list) = reached_is full (max from (full a)) list

module _ (d : ℕ) (full : ℕ → ℕ) (of : ℕ → Bool) (t : ℕ) where
  -- what is eaten of place k, where the list is eaten from a moment on
  abbrev at_place_from : ℕ → List ℕ → ℕ → ℕ
  at_place_from from list k =
      cond (of (slice_index list k)) (d * (min t (fold max from (map full (take (k + 1) list))) - min t (fold max from (map full (take k list))))) 0

  at_later_place : (from a : ℕ) (list : List ℕ) (k : ℕ) → at_place_from from (a ∷ list) (k + 1) ≡ at_place_from (max from (full a)) list k
  at_later_place from a list k =
      let one : k + 1 ≡ suc k = omega arith in
      let two : k + 1 + 1 ≡ suc (k + 1) = omega arith in
      ap (λ n. cond (of (slice_index (a ∷ list) n)) (d * (min t (fold max from (map full (take (k + 1 + 1) (a ∷ list)))) - min t (fold max from (map full (take n (a ∷ list)))))) 0) one
      ∙ ap (λ n. cond (of (slice_index list k)) (d * (min t (fold max from (map full (take n (a ∷ list)))) - min t (fold max (max from (full a)) (map full (take k list))))) 0) two

  -- what is eaten along a list is the sum over its places
  along_places : (from : ℕ) (list : List ℕ) → eaten_along d full of from t list ≡ sum_by (at_place_from from list) (range_with_len 0 (length list))
  unfolding eaten_along
  along_places from [] = refl
  along_places from (a ∷ list) =
      let f = at_place_from from (a ∷ list) in
      let rest : sum_by f (range_with_len 1 (length list)) ≡ sum_by (at_place_from (max from (full a)) list) (range_with_len 0 (length list)) =
      sum_shifted f 0 1 (length list)
      ∙ sum_same (λ k. f (k + 1)) (at_place_from (max from (full a)) list) (range_with_len 0 (length list)) (at_later_place from a list) in
      omega (arith, sum_by-cons f 0 (range_with_len 1 (length list)), rest, along_places (max from (full a)) list)

module _ (D : ℕ) (limits : List Limit) (e : List ℕ) (cells : List Cell) (t : ℕ) where
  -- what one agent has eaten of the cells, at an index among the agents from s on
  abbrev eaten_at : ℕ → List Agent → ℕ → ℕ
  eaten_at s agents k =
      let w : Agent = unwrap_or (slice_get agents k) no_agent in eaten_along w.demand (full_at D limits e (s + k)) (λ a. holds cells (cell_of (s + k) a)) 0 t w.list

  eaten_at_later : (s : ℕ) (w : Agent) (agents : List Agent) (k : ℕ) → eaten_at s (w ∷ agents) (k + 1) ≡ eaten_at (s + 1) agents k
  eaten_at_later s w agents k =
      let one : k + 1 ≡ suc k = omega arith in
      let at : s + suc k ≡ s + 1 + k = omega arith in
      ap (eaten_at s (w ∷ agents)) one
      ∙ ap (λ n. let v : Agent = unwrap_or (slice_get agents k) no_agent in eaten_along v.demand (full_at D limits e n) (λ a. holds cells (cell_of n a)) 0 t v.list) at

  -- what all have eaten is the sum over the agents
  from_agents : (s : ℕ) (agents : List Agent) → eaten_from D limits e cells t s agents ≡ sum_by (eaten_at s agents) (range_with_len 0 (length agents))
  unfolding eaten_from
  from_agents s [] = refl
  from_agents s (w ∷ agents) =
      let f = eaten_at s (w ∷ agents) in
      let first : f 0 ≡ eaten_along w.demand (full_at D limits e s) (λ a. holds cells (cell_of s a)) 0 t w.list =
      (let plain : s + 0 ≡ s = omega arith in ap (λ n. eaten_along w.demand (full_at D limits e n) (λ a. holds cells (cell_of n a)) 0 t w.list) plain) in
      let rest : sum_by f (range_with_len 1 (length agents)) ≡ sum_by (eaten_at (s + 1) agents) (range_with_len 0 (length agents)) =
      sum_shifted f 0 1 (length agents)
      ∙ sum_same (λ k. f (k + 1)) (eaten_at (s + 1) agents) (range_with_len 0 (length agents)) (eaten_at_later s w agents) in
      omega (arith, sum_by-cons f 0 (range_with_len 1 (length agents)), first, rest, from_agents (s + 1) agents)

-- the greatest moment over the first k places
until_is : (market : Market) (D : ℕ) (e : List ℕ) (i k : ℕ) → reached (full_at D market.limits e i) 0 (take k (agent_at market i).list) ≡ until market D e i k
until_is market D e i k = reached_is (full_at D market.limits e i) 0 (take k (agent_at market i).list)

place_is : (market : Market) (D : ℕ) (e : List ℕ) (i k t : ℕ) → IsDistinct nat_eq (agent_at market i).list → k < length (agent_at market i).list
    → eaten_along (agent_at market i).demand (full_at D market.limits e i) (λ b. b == slice_index (agent_at market i).list k) 0 t (agent_at market i).list ≡ eaten_of_place market D e i k t
place_is market D e i k t apart l =
    at_place (agent_at market i).demand (full_at D market.limits e i) t k (agent_at market i).list apart l
    ∙ ap (λ n. (agent_at market i).demand * (min t n - min t (reached (full_at D market.limits e i) 0 (take k (agent_at market i).list)))) (until_is market D e i (k + 1))
    ∙ ap (λ n. (agent_at market i).demand * (min t (until market D e i (k + 1)) - min t n)) (until_is market D e i k)

-- the first k places together
pub prefix_until : (market : Market) (D : ℕ) (e : List ℕ) (i k : ℕ) → IsDistinct nat_eq (agent_at market i).list
    → sum_by (share market D e i) (take k (agent_at market i).list) ≡ (agent_at market i).demand * min D (until market D e i k)
prefix_until market D e i k apart =
    front_sum (agent_at market i).demand (full_at D market.limits e i) D k (agent_at market i).list apart
    ∙ ap (λ n. (agent_at market i).demand * min D n) (until_is market D e i k)

-- one place in the end
pub place_until : (market : Market) (D : ℕ) (e : List ℕ) (i k : ℕ) → IsDistinct nat_eq (agent_at market i).list → k < length (agent_at market i).list
    → share market D e i (slice_index (agent_at market i).list k) ≡ eaten_of_place market D e i k D
place_until market D e i k apart l = place_is market D e i k D apart l

-- one place by any moment
pub cell_eaten : (market : Market) (D : ℕ) (e : List ℕ) (t i k : ℕ) → IsDistinct nat_eq (agent_at market i).list → k < length (agent_at market i).list
    → eaten_by market D e (cell_of_place market i k ∷ []) t ≡ eaten_of_place market D e i k t
cell_eaten market D e t i k apart l = eaten_of_cell market D e t (cell_of_place market i k) ∙ place_is market D e i k t apart l

-- any cells by any moment
pub cells_eaten : (market : Market) (D : ℕ) (e : List ℕ) (t : ℕ) (cells : List Cell)
    → eaten_by market D e cells t ≡ sum_by (eaten_of_list market D e cells t) (range_with_len 0 (length market.agents))
unfolding eaten_by
cells_eaten market D e t cells =
    from_agents D market.limits e cells t 0 market.agents
    ∙ sum_same (eaten_at D market.limits e cells t 0 market.agents) (eaten_of_list market D e cells t) (range_with_len 0 (length market.agents)) along
  where
    along : (i : ℕ) → eaten_at D market.limits e cells t 0 market.agents i ≡ eaten_of_list market D e cells t i
    along i =
        let plain : 0 + i ≡ i = omega arith in
        ap (λ n. eaten_along (agent_at market i).demand (full_at D market.limits e n) (λ a. holds cells (cell_of n a)) 0 t (agent_at market i).list) plain
        ∙ along_places (agent_at market i).demand (full_at D market.limits e i) (λ a. holds cells (cell_of i a)) t 0 (agent_at market i).list

-- off the list there is nothing
pub off_until : (market : Market) (D : ℕ) (e : List ℕ) (i a : ℕ) → is_member nat_eq (agent_at market i).list a ≡ false → share market D e i a ≡ 0
off_until market D e i a off = column_off (agent_at market i).demand (full_at D market.limits e i) 0 D a (agent_at market i).list off
