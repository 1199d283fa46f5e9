-- No assignment is worth more than a certified one.
use Rattle.std.proofs.Common.{◌≡◌, ℕ, suc, zero, ◌+◌, ◌-◌, ◌*◌, ◌<◌, ◌≤◌, length, ap, sym, ◌∙◌, arith, true, false, Some, subst, inl, inr, ℤ, pos, ◌+ℤ◌, ◌*ℤ◌, ◌≤ℤ◌}
use Rattle.std.specs.Prelude.{sum_by, slice_get, slice_index, unwrap_or, ◌==◌}
use Rattle.std.specs.List.{range_with_len, zip, IsDistinct}
use Rattle.std.proofs.lemmas.Bool.{and_parts, eqb-true, cases_lt}
use Rattle.std.proofs.lemmas.Option.{slice_get_within, get_or_from_slice_get}
use Rattle.std.proofs.Math.Nat.{add-mul, mul_comm, mul_assoc, mul-le-mul_left}
use borrow.Author.Differences.{up, down, le_out, sum_is_lem}
use Rattle.definitions.specs.declared.Cell.{Cell}
use Rattle.definitions.specs.Sets.{cell_of, same_cell, set_sum, SetValue}
use Rattle.definitions.specs.Values.{ProblemValue, IsProblem, PricesValue, list_at, demand_at, listed_cells, stated_sets, worths_of, is_capped}
use Rattle.definitions.specs.Assignment.{IsRandomAssignment, worth_total}
use Rattle.definitions.specs.Certificate.{Certifies, HasShapeOf, is_left_out, place_cell, worth_at, cell_price}
use Rattle.definitions.proofs.Sums.{sum_same, sum_same_all, sum_of_sums, sum_scaled, sum_le_all, sum_firsts}
use Rattle.definitions.proofs.Lists.{each_pair, each_below}
use Rattle.definitions.proofs.Problems.{list_lawful}
use Rattle.definitions.proofs.Listed.{listed_distinct, off_lists, row_on_list, sum_listed}
use Rattle.certificate_laws.proofs.Rows.{IsBest, row, Level, level}
use Rattle.certificate_laws.proofs.Prices.{price_in, prices_exchanged}
use Rattle.certificate_laws.proofs.Limits.{stated_kept, stated_distinct, capped_kept, none_unpriced, none_kept}
use Rattle.certificate_laws.proofs.Worths.{over_places, gains, losses, times, at_most_from_parts}

-- an agent's places hold what its row holds, times a factor
pub row_total : (p : ProblemValue) (y : PricesValue) (d k : ℕ) (x : Cell → ℕ) (i : ℕ) → IsProblem p → HasShapeOf p y → IsRandomAssignment p d x → i < length p.agents
    → sum_by (λ (w : ℕ × ℤ). times k x (cell_of i w.0)) (zip (list_at p i) (worths_of y i)) ≡ k * (demand_at p i * d)
row_total p y d k x i h shape r l =
    let inside : i < length p.lists = omega (arith, h.lists_many) in
    sum_firsts (λ a. times k x (cell_of i a)) (list_at p i) (worths_of y i) (shape.places i inside)
    ∙ sum_scaled k (λ a. x (cell_of i a)) (list_at p i)
    ∙ ap (λ n. k * n) (sym (row_on_list p x i h l r.listed) ∙ r.rows i l)

-- d * (n * e) either way
pub turn : (d n e : ℕ) → d * (n * e) ≡ e * (n * d)
turn d n e = mul_comm d (n * e) ∙ ap (λ m. m * d) (mul_comm n e) ∙ mul_assoc e n d

some_units : (e n : ℕ) → 0 < e * n → 0 < n
some_units e zero h = absurd (omega arith)
some_units e (suc n) h = omega arith

same_pair : (a b : ℕ) (v w : ℤ) → a ≡ b → v ≡ w → ◌≡◌ {A = ℕ × ℤ} (a, v) (b, w)
same_pair a b v w e f = cc

-- a certified assignment, and another assignment
record Compared (p : ProblemValue) (y : PricesValue) (d : ℕ) (own : Cell → ℕ) (e : ℕ) (other : Cell → ℕ) : Type 0 where
  lawful : IsProblem p
  own_is : IsRandomAssignment p d own
  certified : Certifies p d own y
  other_is : IsRandomAssignment p e other

-- the price of a cell by the stated sets beside their prices
abbrev price_of : ProblemValue → PricesValue → Cell → ℕ
price_of p y c = price_in (zip (stated_sets p) y.price) c

abbrev loss_at : ProblemValue → PricesValue → ℕ → ℕ × ℤ → ℕ
loss_at p y i w = down w.1 + price_of p y (cell_of i w.0)

module _ (p : ProblemValue) (y : PricesValue) (d : ℕ) (own : Cell → ℕ) (e : ℕ) (other : Cell → ℕ) (c : Compared p y d own e other) where
  -- a cell that is left out has all it may have
  left_out_full : (i a : ℕ) → is_left_out p d own (cell_of i a) ≡ true → times d other (cell_of i a) ≤ times e own (cell_of i a)
  left_out_full i a out =
      let parts = and_parts (is_capped p (cell_of i a)) (own (cell_of i a) == d) out in
      let all : own (cell_of i a) ≡ d = eqb-true (own (cell_of i a)) d parts.1 in
      let bound : other (cell_of i a) ≤ e = capped_kept p other e (cell_of i a) c.lawful c.other_is.kept parts.0 in
      let m : d * other (cell_of i a) ≤ d * e = mul-le-mul_left d bound in
      let n : e * own (cell_of i a) ≡ d * e = ap (λ k. e * k) all ∙ mul_comm e d in
      omega arith

  -- each place of an agent against one level
  agent_level : (i : ℕ) → i < length p.agents
      → Level (λ k. up (worth_at y i k)) (λ k. down (worth_at y i k) + cell_price p y (place_cell p i k)) (λ k. own (place_cell p i k)) (λ k. is_left_out p d own (place_cell p i k))
      (down (worth_at y i (length (list_at p i) - 1))) (length (list_at p i))
  agent_level i l =
      let list = list_at p i in
      let last = length list - 1 in
      let none = length p.objects in
      let at = (list_lawful p i c.lawful l).last in
      let inside : last < length list = slice_get_within list last none at in
      let cell : place_cell p i last ≡ cell_of i none = ap (cell_of i) (get_or_from_slice_get list last none 0 at) in
      let kept : is_left_out p d own (place_cell p i last) ≡ false = ap (is_left_out p d own) cell ∙ none_kept p d own i in
      let free : cell_price p y (place_cell p i last) ≡ 0 = ap (cell_price p y) cell ∙ none_unpriced p y.price i c.lawful in
      level (λ k. up (worth_at y i k)) (λ k. down (worth_at y i k) + cell_price p y (place_cell p i k)) (λ k. own (place_cell p i k)) (λ k. is_left_out p d own (place_cell p i k))
      (down (worth_at y i last)) (length list) last inside kept (omega arith)
      (λ k j n m u out. best i k j l n m u out)
    where
      best : (i k j : ℕ) → i < length p.agents → k < length (list_at p i) → j < length (list_at p i) → 0 < own (place_cell p i k) → is_left_out p d own (place_cell p i j) ≡ false
          → up (worth_at y i j) + (down (worth_at y i k) + cell_price p y (place_cell p i k)) ≤ up (worth_at y i k) + (down (worth_at y i j) + cell_price p y (place_cell p i j))
      best i k j l n m u out = parts (worth_at y i j) (worth_at y i k) (cell_price p y (place_cell p i k)) (cell_price p y (place_cell p i j)) (c.certified.best i k j l n m u out)
        where
          parts : (v w : ℤ) (a b : ℕ) → (v +ℤ pos a) ≤ℤ (w +ℤ pos b) → up v + (down w + a) ≤ up w + (down v + b)
          parts v w a b h = omega (arith, le_out (v +ℤ pos a) (w +ℤ pos b) h, sum_is_lem v (pos a), sum_is_lem w (pos b))

  -- a place of an agent against a level
  abbrev IsBestAt : ℕ → ℕ → ℕ × ℤ → Type 0
  IsBestAt i v w =
      IsBest (λ (w : ℕ × ℤ). up w.1) (loss_at p y i) (λ w. times e own (cell_of i w.0)) (λ w. times d other (cell_of i w.0)) (λ w. is_left_out p d own (cell_of i w.0))
      (down (worth_at y i (length (list_at p i) - 1))) v w

  best_at : (i : ℕ) (l : i < length p.agents) (k a : ℕ) (w : ℤ) → slice_get (list_at p i) k ≡ Some a → slice_get (worths_of y i) k ≡ Some w → IsBestAt i (agent_level i l).down (a, w)
  best_at i l k a w f g =
      let inside : k < length (list_at p i) = slice_get_within (list_at p i) k a f in
      let here : IsBestAt i (agent_level i l).down (slice_index (list_at p i) k, worth_at y i k) = record {
        kept = λ out. (agent_level i l).kept k inside out;
        full = λ out. left_out_full i (slice_index (list_at p i) k) out;
        used = λ some. (agent_level i l).used k inside (some_units e (own (place_cell p i k)) some);
      } in
      subst (IsBestAt i (agent_level i l).down) (same_pair (slice_index (list_at p i) k) a (worth_at y i k) w (get_or_from_slice_get (list_at p i) k a 0 f) (ap (λ o. unwrap_or o (pos 0)) g)) here

  -- one agent's places
  agent_row : (i : ℕ) → i < length p.agents
      → sum_by (λ (w : ℕ × ℤ). up w.1 * times d other (cell_of i w.0)) (zip (list_at p i) (worths_of y i)) + sum_by (λ w. loss_at p y i w * times e own (cell_of i w.0)) (zip (list_at p i) (worths_of y i))
      ≤ sum_by (λ (w : ℕ × ℤ). up w.1 * times e own (cell_of i w.0)) (zip (list_at p i) (worths_of y i)) + sum_by (λ w. loss_at p y i w * times d other (cell_of i w.0)) (zip (list_at p i) (worths_of y i))
  agent_row i l =
      row (λ (w : ℕ × ℤ). up w.1) (loss_at p y i) (λ w. times e own (cell_of i w.0)) (λ w. times d other (cell_of i w.0)) (λ w. is_left_out p d own (cell_of i w.0))
      (down (worth_at y i (length (list_at p i) - 1))) (agent_level i l).down (zip (list_at p i) (worths_of y i))
      (each_pair (IsBestAt i (agent_level i l).down) (list_at p i) (worths_of y i) (best_at i l))
      (row_total p y d e own i c.lawful c.certified.shape c.own_is l ∙ turn e (demand_at p i) d ∙ sym (row_total p y e d other i c.lawful c.certified.shape c.other_is l))

  -- a set with a price is full, so what it holds is worth at least what another holds of it
  set_bound : (k : ℕ) (q : SetValue) (n : ℕ) → slice_get (stated_sets p) k ≡ Some q → slice_get y.price k ≡ Some n → n * set_sum (times d other) q.cells ≤ n * set_sum (times e own) q.cells
  set_bound k q n f g = elim (cases_lt (set_sum own q.cells) (q.ceiling * d)) [
    | inl open_set ↦
        let zero_price : n ≡ 0 = sym (get_or_from_slice_get y.price k n 0 g) ∙ c.certified.full k q f open_set in
        let a : n * set_sum (times d other) q.cells ≡ 0 * set_sum (times d other) q.cells = ap (λ m. m * set_sum (times d other) q.cells) zero_price in
        omega (arith, a)
    | inr filled ↦
        let bound : set_sum other q.cells ≤ q.ceiling * e = stated_kept p other e k q c.other_is.kept f in
        let a : d * set_sum other q.cells ≤ d * (q.ceiling * e) = mul-le-mul_left d bound in
        let b : e * (q.ceiling * d) ≤ e * set_sum own q.cells = mul-le-mul_left e filled in
        let m : set_sum (times d other) q.cells ≤ set_sum (times e own) q.cells = omega (arith, a, b, turn d q.ceiling e, sum_scaled d other q.cells, sum_scaled e own q.cells) in
        mul-le-mul_left n m
  ]

  prices_bound : sum_by (λ (s : SetValue × ℕ). s.1 * set_sum (times d other) s.0.cells) (zip (stated_sets p) y.price) ≤ sum_by (λ (s : SetValue × ℕ). s.1 * set_sum (times e own) s.0.cells) (zip (stated_sets p) y.price)
  prices_bound =
      sum_le_all (λ (s : SetValue × ℕ). s.1 * set_sum (times d other) s.0.cells ≤ s.1 * set_sum (times e own) s.0.cells) (λ s. s.1 * set_sum (times d other) s.0.cells) (λ s. s.1 * set_sum (times e own) s.0.cells)
      (zip (stated_sets p) y.price) (λ s h. h)
      (each_pair (λ (s : SetValue × ℕ). s.1 * set_sum (times d other) s.0.cells ≤ s.1 * set_sum (times e own) s.0.cells) (stated_sets p) y.price set_bound)

  -- prices summed over the places of all lists
  priced_places : (k b : ℕ) (x : Cell → ℕ) → IsRandomAssignment p b x
      → over_places p y (λ i w. price_of p y (cell_of i w.0) * times k x (cell_of i w.0)) ≡ sum_by (λ (s : SetValue × ℕ). s.1 * set_sum (times k x) s.0.cells) (zip (stated_sets p) y.price)
  priced_places k b x r =
      let agents = range_with_len 0 (length p.lists) in
      sum_same_all (λ i. i < length p.lists) (λ i. sum_by (λ (w : ℕ × ℤ). price_of p y (cell_of i w.0) * times k x (cell_of i w.0)) (zip (list_at p i) (worths_of y i)))
      (λ i. sum_by (λ a. price_of p y (cell_of i a) * times k x (cell_of i a)) (list_at p i)) agents
      (λ i l. sum_firsts (λ a. price_of p y (cell_of i a) * times k x (cell_of i a)) (list_at p i) (worths_of y i) (c.certified.shape.places i l))
      (each_below (λ i. i < length p.lists) 0 (length p.lists) (λ i l m. omega arith))
      ∙ sym (sum_listed p (λ q. price_of p y q * times k x q))
      ∙ prices_exchanged (times k x) (listed_cells p) (zip (stated_sets p) y.price) (listed_distinct p c.lawful)
      (each_pair (λ (s : SetValue × ℕ). IsDistinct same_cell s.0.cells) (stated_sets p) y.price (λ j q n f g. stated_distinct p j q c.lawful f))
      (off_lists p (times k x) (λ q h. (let none : k * x q ≡ k * 0 = ap (λ n. k * n) (r.listed q h) in omega (arith, none))))

  -- losses and prices, apart
  loss_split : (x : Cell → ℕ) → sum_by (λ i. sum_by (λ w. loss_at p y i w * x (cell_of i w.0)) (zip (list_at p i) (worths_of y i))) (range_with_len 0 (length p.lists))
      ≡ losses p y x + over_places p y (λ i w. price_of p y (cell_of i w.0) * x (cell_of i w.0))
  loss_split x =
      let agents = range_with_len 0 (length p.lists) in
      sum_same (λ i. sum_by (λ w. loss_at p y i w * x (cell_of i w.0)) (zip (list_at p i) (worths_of y i)))
      (λ i. sum_by (λ (w : ℕ × ℤ). down w.1 * x (cell_of i w.0)) (zip (list_at p i) (worths_of y i)) + sum_by (λ w. price_of p y (cell_of i w.0) * x (cell_of i w.0)) (zip (list_at p i) (worths_of y i))) agents
      (λ i. sum_same (λ w. loss_at p y i w * x (cell_of i w.0)) (λ (w : ℕ × ℤ). down w.1 * x (cell_of i w.0) + price_of p y (cell_of i w.0) * x (cell_of i w.0)) (zip (list_at p i) (worths_of y i))
      (λ w. add-mul (down w.1) (price_of p y (cell_of i w.0)) (x (cell_of i w.0)))
      ∙ sum_of_sums (λ (w : ℕ × ℤ). down w.1 * x (cell_of i w.0)) (λ w. price_of p y (cell_of i w.0) * x (cell_of i w.0)) (zip (list_at p i) (worths_of y i)))
      ∙ sum_of_sums (λ i. sum_by (λ (w : ℕ × ℤ). down w.1 * x (cell_of i w.0)) (zip (list_at p i) (worths_of y i))) (λ i. sum_by (λ w. price_of p y (cell_of i w.0) * x (cell_of i w.0)) (zip (list_at p i) (worths_of y i))) agents

  -- the bound in whole numbers, over one denominator
  parts_bound : gains p y (times d other) + losses p y (times e own) ≤ gains p y (times e own) + losses p y (times d other)
  parts_bound =
      let agents = range_with_len 0 (length p.lists) in
      let gain = λ (x : Cell → ℕ) (i : ℕ). sum_by (λ (w : ℕ × ℤ). up w.1 * x (cell_of i w.0)) (zip (list_at p i) (worths_of y i)) in
      let loss = λ (x : Cell → ℕ) (i : ℕ). sum_by (λ w. loss_at p y i w * x (cell_of i w.0)) (zip (list_at p i) (worths_of y i)) in
      let m : sum_by (λ i. gain (times d other) i + loss (times e own) i) agents ≤ sum_by (λ i. gain (times e own) i + loss (times d other) i) agents =
      sum_le_all (λ i. i < length p.lists) (λ i. gain (times d other) i + loss (times e own) i) (λ i. gain (times e own) i + loss (times d other) i) agents
      (λ i l. agent_row i (omega (arith, c.lawful.lists_many))) (each_below (λ i. i < length p.lists) 0 (length p.lists) (λ i l m. omega arith)) in
      let a = sum_of_sums (gain (times d other)) (loss (times e own)) agents in
      let b = sum_of_sums (gain (times e own)) (loss (times d other)) agents in
      omega (arith, m, a, b, loss_split (times e own), loss_split (times d other), priced_places e d own c.own_is, priced_places d e other c.other_is, prices_bound)

-- in whole numbers: gains less losses of the other assignment are no more than those of the certified one
pub duality_parts : (p : ProblemValue) (y : PricesValue) (d : ℕ) (own : Cell → ℕ) (e : ℕ) (other : Cell → ℕ) → IsProblem p
    → IsRandomAssignment p d own → Certifies p d own y → IsRandomAssignment p e other
    → gains p y (times d other) + losses p y (times e own) ≤ gains p y (times e own) + losses p y (times d other)
duality_parts p y d own e other h r v s = parts_bound p y d own e other (record { lawful = h; own_is = r; certified = v; other_is = s })

-- no assignment is worth more than a certified one
pub no_more_worth : (p : ProblemValue) (y : PricesValue) (d : ℕ) (own : Cell → ℕ) (e : ℕ) (other : Cell → ℕ) → IsProblem p
    → IsRandomAssignment p d own → Certifies p d own y → IsRandomAssignment p e other
    → (pos d *ℤ worth_total p y other) ≤ℤ (pos e *ℤ worth_total p y own)
no_more_worth p y d own e other h r v s = at_most_from_parts p y d e own other (duality_parts p y d own e other h r v s)
