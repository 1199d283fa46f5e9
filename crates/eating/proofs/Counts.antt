-- How many cells are capped.
use Rattle.std.proofs.Common.{◌≡◌, ℕ, suc, zero, ◌+◌, ◌-◌, ◌*◌, ◌<◌, ◌≤◌, ◌++◌, List, [], ◌∷◌, Bool, true, false, cond, Some, length, map, take, get_or, replicate, refl, ap, sym, ◌∙◌, arith}
use Rattle.std.specs.Prelude.{nat_le, slice_get}
use Rattle.std.proofs.lemmas.Option.{get_or_from_slice_get, slice_get_within}
use Rattle.std.proofs.lemmas.List.{replicate-append-replicate, map-append, length-map, take_more, take_all, length-append, length-take}
use Rattle.std.proofs.lemmas.List.Sums.{sum_by-cons, sum_by_more, sum_by-take-le}
use Rattle.definitions.specs.Sets.{SetValue}
use Rattle.definitions.specs.Values.{Limit, Agent, ProblemValue, IsProblem, but_last, capped_limits, market_of, limits_of, stated_sets, list_at, demand_at}
use Rattle.definitions.proofs.Problems.{agent_of, list_short}
use Rattle.eating_laws.proofs.Limits.{agent_count}
use Rattle.eating.specs.Caps.{capped_count, caps_before}
use Rattle.eating.proofs.Capped.{before_last_length}

pub capped_few : (p : ProblemValue) (i : ℕ) → IsProblem p → i < length p.agents → capped_count (demand_at p i) (list_at p i) ≤ 200
capped_few p i h l = pick (nat_le 2 (demand_at p i)) (list_short p i h l).1
  where
    pick : (b : Bool) → length (list_at p i) ≤ 201 → cond b (length (list_at p i) - 1) 0 ≤ 200
    pick true k = omega arith
    pick false k = omega arith

agent_read : (p : ProblemValue) (i : ℕ) → IsProblem p → i < length p.agents → (d : Agent) → get_or (market_of p).agents i d ≡ record { demand = demand_at p i; list = list_at p i }
agent_read p i h l d = get_or_from_slice_get (market_of p).agents i (record { demand = demand_at p i; list = list_at p i }) d (agent_of p i h l)

-- one agent more
pub caps_more : (p : ProblemValue) (i : ℕ) → IsProblem p → i < length p.agents
    → caps_before (take (i + 1) (market_of p).agents) ≡ caps_before (take i (market_of p).agents) + capped_count (demand_at p i) (list_at p i)
caps_more p i h l =
    let d : Agent = record { demand = 0; list = [] } in
    let f : Agent → ℕ = λ w. capped_count w.demand w.list in
    sum_by_more f (market_of p).agents i d (omega (arith, l, agent_count p h)) ∙ ap (λ w. caps_before (take i (market_of p).agents) + f w) (agent_read p i h l d)

caps_within : (p : ProblemValue) → IsProblem p → (i : ℕ) → i ≤ length p.agents → caps_before (take i (market_of p).agents) ≤ 200 * i
caps_within p h zero l = omega arith
caps_within p h (suc i) l =
    let more = caps_more p i h (omega arith) in
    let next : i + 1 ≡ suc i = omega arith in
    let same = ap (λ n. caps_before (take n (market_of p).agents)) next in
    omega (arith, more, same, capped_few p i h (omega arith), caps_within p h i (omega arith))

-- of the first agents no more than 200,000 cells are capped
pub caps_few : (p : ProblemValue) → IsProblem p → (i : ℕ) → i ≤ length p.agents → caps_before (take i (market_of p).agents) ≤ 200000
caps_few p h i l = omega (arith, caps_within p h i l, h.agents_limit)

-- the limits of the capped cells: how many, each with ceiling 1
pub capped_length : (i : ℕ) (agents : List Agent) → length (capped_limits i agents) ≡ caps_before agents
unfolding capped_limits
capped_length i [] = refl
capped_length i (w ∷ agents) =
    let cells : ℕ → Limit = λ a. record { ceiling = 1; cells = record { agent = i; object = a } ∷ [] } in
    parts (nat_le 2 w.demand) (map cells (but_last w.list)) (capped_limits (i + 1) agents) (length w.list - 1) (length-map (but_last w.list) cells ∙ before_last_length w.list)
    ∙ ap (λ n. capped_count w.demand w.list + n) (capped_length (i + 1) agents) ∙ sym (sum_by-cons (λ (w : Agent). capped_count w.demand w.list) w agents)
  where
    parts : (b : Bool) (xs ys : List Limit) (n : ℕ) → length xs ≡ n → length (cond b xs [] ++ ys) ≡ cond b n 0 + length ys
    parts true [] ys n e = omega (arith, e)
    parts true (x ∷ xs) ys zero e = absurd (omega arith)
    parts true (x ∷ xs) ys (suc n) e = (let rest = parts true xs ys n (omega arith) in omega (arith, rest))
    parts false xs ys n e = omega arith

pub capped_ones : (i : ℕ) (agents : List Agent) → map (λ (s : Limit). s.ceiling) (capped_limits i agents) ≡ replicate (caps_before agents) 1
unfolding capped_limits
capped_ones i [] = refl
capped_ones i (w ∷ agents) =
    map-append (λ (s : Limit). s.ceiling) _ (capped_limits (i + 1) agents)
    ∙ ap (λ xs. xs ++ map (λ (s : Limit). s.ceiling) (capped_limits (i + 1) agents)) (head (nat_le 2 w.demand))
    ∙ ap (λ xs. replicate (capped_count w.demand w.list) 1 ++ xs) (capped_ones (i + 1) agents)
    ∙ replicate-append-replicate (capped_count w.demand w.list) (caps_before agents) 1
    ∙ ap (λ n. replicate n 1) (sym (sum_by-cons (λ (w : Agent). capped_count w.demand w.list) w agents))
  where
    each : (list : List ℕ) → map (λ (s : Limit). s.ceiling) (map (λ (a : ℕ). record { ceiling = 1; cells = record { agent = i; object = a } ∷ [] }) list) ≡ replicate (length list) 1
    each [] = refl
    each (a ∷ list) = ap (λ xs. 1 ∷ xs) (each list)

    head : (b : Bool) → map (λ (s : Limit). s.ceiling) (cond b (map (λ (a : ℕ). record { ceiling = 1; cells = record { agent = i; object = a } ∷ [] }) (but_last w.list)) []) ≡ replicate (cond b (length w.list - 1) 0) 1
    head true = each (but_last w.list) ∙ ap (λ n. replicate n 1) (before_last_length w.list)
    head false = refl

-- one set more
pub set_more : (sets : List SetValue) (n : ℕ) (s : SetValue) → 1 ≤ n → slice_get sets (n - 1) ≡ Some s → (items : List SetValue) → items ≡ take (n - 1) sets → items ++ s ∷ [] ≡ take (n + 1 - 1) sets
set_more sets n s low here items h =
    let next : n - 1 + 1 ≡ n + 1 - 1 = omega arith in
    ap (λ xs. xs ++ s ∷ []) h
    ∙ ap (λ x. take (n - 1) sets ++ x ∷ []) (sym (get_or_from_slice_get sets (n - 1) s s here))
    ∙ sym (take_more sets (n - 1) s (slice_get_within sets (n - 1) s here)) ∙ ap (λ k. take k sets) next

-- one set's ceiling more
pub ceiling_more : (sets : List SetValue) (n : ℕ) (s : SetValue) → 1 ≤ n → slice_get sets (n - 1) ≡ Some s → (items : List ℕ) → items ≡ map (λ (q : SetValue). q.ceiling) (take (n - 1) sets)
    → items ++ s.ceiling ∷ [] ≡ map (λ (q : SetValue). q.ceiling) (take (n + 1 - 1) sets)
ceiling_more sets n s low here items h =
    ap (λ xs. xs ++ s.ceiling ∷ []) h
    ∙ sym (map-append (λ (q : SetValue). q.ceiling) (take (n - 1) sets) (s ∷ []))
    ∙ ap (map (λ (q : SetValue). q.ceiling)) (set_more sets n s low here (take (n - 1) sets) refl)

-- an agent's capped cells are among all
pub caps_room : (p : ProblemValue) (i : ℕ) → IsProblem p → i < length p.agents
    → caps_before (take i (market_of p).agents) + capped_count (demand_at p i) (list_at p i) ≤ caps_before (market_of p).agents
caps_room p i h l = (let more = caps_more p i h l in omega (arith, more, sum_by-take-le (λ (w : Agent). capped_count w.demand w.list) (market_of p).agents (i + 1)))

-- there are few limits
pub limits_few : (p : ProblemValue) → IsProblem p → length (limits_of p) ≤ 201000
limits_few p h =
    let stated : List Limit = map (λ (s : SetValue). record { ceiling = s.ceiling; cells = s.cells }) (stated_sets p) in
    let whole = length-append stated (capped_limits 0 (market_of p).agents) in
    let same : length stated ≡ length (stated_sets p) = length-map (stated_sets p) (λ (s : SetValue). record { ceiling = s.ceiling; cells = s.cells }) in
    let few = caps_few p h (length p.agents) (omega arith) in
    let all = ap caps_before (take_all (length p.agents) (market_of p).agents (omega (arith, agent_count p h))) in
    omega (arith, whole, same, length-take p.stated p.family.sets, h.stated_limit, capped_length 0 (market_of p).agents, few, all)

-- the ceilings of the stated sets and as many ones as there are capped cells are those of all limits
pub ceilings_whole : (p : ProblemValue) (xs : List ℕ) (n : ℕ) → xs ≡ map (λ (s : SetValue). s.ceiling) (stated_sets p) → n ≡ caps_before (market_of p).agents
    → xs ++ replicate n 1 ≡ map (λ (s : Limit). s.ceiling) (limits_of p)
ceilings_whole p xs n h k =
    let stated : List Limit = map (λ (s : SetValue). record { ceiling = s.ceiling; cells = s.cells }) (stated_sets p) in
    ap (λ ys. ys ++ replicate n 1) (h ∙ each (stated_sets p)) ∙ ap (λ m. map (λ (s : Limit). s.ceiling) stated ++ replicate m 1) k
    ∙ ap (λ ys. map (λ (s : Limit). s.ceiling) stated ++ ys) (sym (capped_ones 0 (market_of p).agents))
    ∙ sym (map-append (λ (s : Limit). s.ceiling) stated (capped_limits 0 (market_of p).agents))
  where
    each : (sets : List SetValue) → map (λ (s : SetValue). s.ceiling) sets ≡ map (λ (s : Limit). s.ceiling) (map (λ (s : SetValue). record { ceiling = s.ceiling; cells = s.cells }) sets)
    each [] = refl
    each (s ∷ sets) = ap (λ ys. s.ceiling ∷ ys) (each sets)
