-- An assignment that dominates another is worth more, where worths fall along each list; so none dominates a certified one.
use Rattle.std.proofs.Common.{◌≡◌, ℕ, ◌+◌, ◌*◌, ◌<◌, ◌≤◌, List, [], ◌∷◌, length, take, get_or, ap, sym, ◌∙◌, arith, subst, ℤ, pos, ◌*ℤ◌, ◌<ℤ◌, All}
use Rattle.std.specs.Prelude.{sum_by}
use Rattle.std.specs.List.{range_with_len, zip}
use Rattle.std.proofs.lemmas.Option.{unwrap_or-slice_get}
use Rattle.std.proofs.lemmas.List.Sums.{get_or-le-sum_by}
use Rattle.std.proofs.lemmas.List.FromFn.{length-range_with_len, get_or-range_with_len}
use Rattle.std.proofs.lemmas.Slice.Zip.{length-zip}
use borrow.Author.Differences.{up, down, lt_out}
use Rattle.definitions.specs.declared.Cell.{Cell}
use Rattle.definitions.specs.Sets.{cell_of, prefix_sum}
use Rattle.definitions.specs.Values.{ProblemValue, IsProblem, PricesValue, list_at, demand_at, worths_of}
use Rattle.definitions.specs.Assignment.{IsRandomAssignment, Dominates, worth_total}
use Rattle.definitions.specs.Certificate.{Certifies, HasShapeOf, Falls, FallsFrom}
use Rattle.definitions.proofs.Sums.{sum_of_sums, sum_scaled, sum_le_all, sum_first_firsts}
use Rattle.definitions.proofs.Lists.{each_below}
use Rattle.certificate_laws.proofs.Worths.{gains, losses, times, below_from_parts}
use Rattle.certificate_laws.proofs.Carry.{FallsAlong, IsAhead, spare, carry, ahead_from_fronts, spare_from_front}
use Rattle.certificate_laws.proofs.Duality.{row_total, turn, duality_parts}

-- falling worths as gains and losses
falls_along : (before : ℤ) (list : List ℕ) (worths : List ℤ) (own other : ℕ × ℤ → ℕ) → FallsFrom before worths
    → FallsAlong (λ (w : ℕ × ℤ). up w.1) (λ w. down w.1) own other (up before) (down before) (zip list worths)
falls_along before [] worths own other h = tt
falls_along before (a ∷ list) [] own other h = tt
falls_along before (a ∷ list) (w ∷ worths) own other h = (lt_out w before h.0, falls_along w list worths own other h.1)

-- a worth before the first
record Start (list : List ℕ) (worths : List ℤ) (own other : ℕ × ℤ → ℕ) : Type 0 where
  high : ℕ
  low : ℕ
  falls : FallsAlong (λ (w : ℕ × ℤ). up w.1) (λ w. down w.1) own other high low (zip list worths)

start : (list : List ℕ) (worths : List ℤ) (own other : ℕ × ℤ → ℕ) → Falls worths → Start list worths own other
start [] worths own other h = record { high = 0; low = 0; falls = tt }
start (a ∷ list) [] own other h = record { high = 0; low = 0; falls = tt }
start (a ∷ list) (w ∷ worths) own other h = record { high = up w + 1; low = down w; falls = (omega arith, falls_along w list worths own other h) }

-- each agent's worths fall
pub worths_fall : (p : ProblemValue) (y : PricesValue) (i : ℕ) → HasShapeOf p y → All Falls y.worth → i < length p.lists → Falls (worths_of y i)
worths_fall p y i shape fall l = subst Falls (sym (unwrap_or-slice_get y.worth i [])) (fall i [] (omega (arith, shape.lists)))

-- an assignment, and another that dominates it, where worths fall
record Ahead (p : ProblemValue) (y : PricesValue) (d : ℕ) (own : Cell → ℕ) (e : ℕ) (other : Cell → ℕ) : Type 0 where
  lawful : IsProblem p
  shape : HasShapeOf p y
  fall : All Falls y.worth
  own_is : IsRandomAssignment p d own
  other_is : IsRandomAssignment p e other
  more : Dominates p e other d own

module _ (p : ProblemValue) (y : PricesValue) (d : ℕ) (own : Cell → ℕ) (e : ℕ) (other : Cell → ℕ) (a : Ahead p y d own e other) where
  abbrev own_at : ℕ → ℕ × ℤ → ℕ
  own_at i w = times e own (cell_of i w.0)

  abbrev other_at : ℕ → ℕ × ℤ → ℕ
  other_at i w = times d other (cell_of i w.0)

  abbrev places : ℕ → List (ℕ × ℤ)
  places i = zip (list_at p i) (worths_of y i)

  -- the first k places in the words of dominance
  front : (i k b : ℕ) (x : Cell → ℕ) → i < length p.lists → sum_by (λ (w : ℕ × ℤ). times b x (cell_of i w.0)) (take k (places i)) ≡ b * prefix_sum x i (list_at p i) k
  front i k b x l = sum_first_firsts (λ c. times b x (cell_of i c)) k (list_at p i) (worths_of y i) (a.shape.places i l) ∙ sum_scaled b (λ c. x (cell_of i c)) (take k (list_at p i))

  ahead : (i : ℕ) → i < length p.agents → IsAhead (λ (w : ℕ × ℤ). up w.1) (λ w. down w.1) (own_at i) (other_at i) 0 (places i)
  ahead i l =
      let inside : i < length p.lists = omega (arith, a.lawful.lists_many) in
      let many : length (places i) ≤ length (list_at p i) = omega (arith, length-zip (list_at p i) (worths_of y i)) in
      ahead_from_fronts (λ (w : ℕ × ℤ). up w.1) (λ w. down w.1) (own_at i) (other_at i) 0 (places i)
      (λ k m. omega (arith, front i k e own inside, front i k d other inside, a.more.each i k l (omega (arith, many, m))))
      (omega (arith, row_total p y d e own i a.lawful a.shape a.own_is l, row_total p y e d other i a.lawful a.shape a.other_is l, turn e (demand_at p i) d))

  abbrev spare_of : ℕ → ℕ
  spare_of i = spare (λ (w : ℕ × ℤ). up w.1) (λ w. down w.1) (own_at i) (other_at i) 0 (places i)

  agent_raise : (i : ℕ) → i < length p.agents
      → sum_by (λ w. up w.1 * own_at i w) (places i) + sum_by (λ w. down w.1 * other_at i w) (places i) + spare_of i ≤ sum_by (λ w. up w.1 * other_at i w) (places i) + sum_by (λ w. down w.1 * own_at i w) (places i)
  agent_raise i l =
      let s = start (list_at p i) (worths_of y i) (own_at i) (other_at i) (worths_fall p y i a.shape a.fall (omega (arith, a.lawful.lists_many))) in
      omega (arith, carry (λ (w : ℕ × ℤ). up w.1) (λ w. down w.1) (own_at i) (other_at i) s.high s.low 0 (places i) s.falls (ahead i l))

  some_spare : 0 < sum_by spare_of (range_with_len 0 (length p.lists))
  some_spare =
      let (i, k, l, m, more) = a.more.more in
      let inside : i < length p.lists = omega (arith, l, a.lawful.lists_many) in
      let here : 0 < spare_of i =
      spare_from_front (λ (w : ℕ × ℤ). up w.1) (λ w. down w.1) (own_at i) (other_at i) 0 k (places i) (ahead i l) (omega (arith, more, front i k e own inside, front i k d other inside)) in
      let at : get_or (range_with_len 0 (length p.lists)) i 0 ≡ i = get_or-range_with_len 0 (length p.lists) i 0 inside ∙ omega arith in
      let part : spare_of (get_or (range_with_len 0 (length p.lists)) i 0) ≤ sum_by spare_of (range_with_len 0 (length p.lists)) =
      get_or-le-sum_by spare_of (range_with_len 0 (length p.lists)) i 0 (omega (arith, inside, length-range_with_len 0 (length p.lists))) in
      let same : spare_of (get_or (range_with_len 0 (length p.lists)) i 0) ≡ spare_of i = ap spare_of at in
      omega (arith, here, part, same)

  parts_raise : gains p y (times e own) + losses p y (times d other) < gains p y (times d other) + losses p y (times e own)
  parts_raise =
      let agents = range_with_len 0 (length p.lists) in
      let gain = λ (x : Cell → ℕ) (i : ℕ). sum_by (λ (w : ℕ × ℤ). up w.1 * x (cell_of i w.0)) (places i) in
      let loss = λ (x : Cell → ℕ) (i : ℕ). sum_by (λ (w : ℕ × ℤ). down w.1 * x (cell_of i w.0)) (places i) in
      let m : sum_by (λ i. gain (times e own) i + loss (times d other) i + spare_of i) agents ≤ sum_by (λ i. gain (times d other) i + loss (times e own) i) agents =
      sum_le_all (λ i. i < length p.lists) (λ i. gain (times e own) i + loss (times d other) i + spare_of i) (λ i. gain (times d other) i + loss (times e own) i) agents
      (λ i l. agent_raise i (omega (arith, a.lawful.lists_many))) (each_below (λ i. i < length p.lists) 0 (length p.lists) (λ i l m. omega arith)) in
      let b = sum_of_sums (λ i. gain (times e own) i + loss (times d other) i) spare_of agents in
      let c = sum_of_sums (gain (times e own)) (loss (times d other)) agents in
      let f = sum_of_sums (gain (times d other)) (loss (times e own)) agents in
      omega (arith, m, b, c, f, some_spare)

-- in whole numbers, over one denominator: an assignment that dominates another gains more
pub dominance_parts : (p : ProblemValue) (y : PricesValue) (d : ℕ) (own : Cell → ℕ) (e : ℕ) (other : Cell → ℕ) → IsProblem p
    → HasShapeOf p y → All Falls y.worth → IsRandomAssignment p d own → IsRandomAssignment p e other → Dominates p e other d own
    → gains p y (times e own) + losses p y (times d other) < gains p y (times d other) + losses p y (times e own)
dominance_parts p y d own e other h shape fall r s more = parts_raise p y d own e other (record { lawful = h; shape = shape; fall = fall; own_is = r; other_is = s; more = more })

-- an assignment that dominates another is worth more
pub more_worth : (p : ProblemValue) (y : PricesValue) (d : ℕ) (own : Cell → ℕ) (e : ℕ) (other : Cell → ℕ) → IsProblem p
    → HasShapeOf p y → All Falls y.worth → IsRandomAssignment p d own → IsRandomAssignment p e other → Dominates p e other d own
    → (pos e *ℤ worth_total p y own) <ℤ (pos d *ℤ worth_total p y other)
more_worth p y d own e other h shape fall r s more = below_from_parts p y d e own other (dominance_parts p y d own e other h shape fall r s more)

-- no assignment dominates a certified one
pub undominated : (p : ProblemValue) (y : PricesValue) (d : ℕ) (own : Cell → ℕ) (e : ℕ) (other : Cell → ℕ) → IsProblem p
    → IsRandomAssignment p d own → Certifies p d own y → IsRandomAssignment p e other → Dominates p e other d own → ⊥
undominated p y d own e other h r v s more = omega (arith, duality_parts p y d own e other h r v s, dominance_parts p y d own e other h v.shape v.fall r s more)
