-- The lines of a problem's agents.
use Rattle.std.proofs.Common.{◌≡◌, ℕ, suc, zero, ◌+◌, ◌-◌, ◌<◌, ◌≤◌, ◌++◌, List, [], ◌∷◌, Bool, true, false, cond, Option, Some, length, map, take, get_or, refl, ap, sym, ◌∙◌, subst, arith, inl, inr}
use Rattle.std.specs.Prelude.{slice_get, slice_index, count_by, sum_by, unwrap_or, ◌==◌, All}
use Rattle.std.specs.List.{range_with_len}
use Rattle.std.proofs.lemmas.Bool.{cases_lt, eq-eqb, ne_eqb}
use Rattle.std.proofs.lemmas.Option.{slice_get-get_or, slice_get_past, get_or_from_slice_get, same_Some}
use Rattle.std.proofs.lemmas.List.{length-map, get_or-map}
use Rattle.std.proofs.lemmas.List.Elements.{All-from_recursion}
use Rattle.std.proofs.lemmas.List.FromFn.{length-range_with_len, get_or-range_with_len, map-range_with_len_more}
use Rattle.std.proofs.lemmas.List.Sums.{sum_by-cons}
use Rattle.std.specs.Option.{option_map_or}
use Rattle.definitions.specs.declared.Cell.{Cell}
use Rattle.definitions.specs.Sets.{cell_of, holds}
use Rattle.definitions.specs.Trees.{TreesValue, AreTreesOf}
use Rattle.definitions.specs.Values.{Limit, Agent, Market, ProblemValue, IsProblem, market_of, limits_of, list_at, demand_at}
use Rattle.definitions.specs.Eating.{limit_cells}
use Rattle.eating_laws.proofs.Holders.{IsHolders}
use Rattle.definitions.proofs.Problems.{list_lawful, list_short}
use Rattle.eating_laws.proofs.Limits.{agent_count, none_free, demand_total}
use Rattle.eating.specs.Caps.{capped_count, caps_before}
use Rattle.eating.specs.Holders.{holders_in, made_holders}
use Rattle.eating.specs.Plan.{LineValue, holders_at, IsLine, IsLineOf, AreLinesOf}
use Rattle.eating.proofs.Limits.{limits_right}

read_made : (f : ℕ → List ℕ) (n k : ℕ) → k < n → unwrap_or (slice_get (map f (range_with_len 0 n)) k) [] ≡ f k
read_made f n k l =
    let xs = map f (range_with_len 0 n) in
    let many : length xs ≡ n = length-map (range_with_len 0 n) f ∙ length-range_with_len 0 n in
    ap (λ (o : Option (List ℕ)). unwrap_or o []) (slice_get-get_or xs k [] (omega (arith, l, many)))
    ∙ get_or-map f (range_with_len 0 n) k 0 [] (omega (arith, l, length-range_with_len 0 n))
    ∙ ap f (get_or-range_with_len 0 n k 0 l ∙ (let z : 0 + k ≡ k = omega arith in z))

past_made : (f : ℕ → List ℕ) (n k : ℕ) → n ≤ k → unwrap_or (slice_get (map f (range_with_len 0 n)) k) [] ≡ []
past_made f n k l =
    ap (λ (o : Option (List ℕ)). unwrap_or o []) (slice_get_past (map f (range_with_len 0 n)) k (omega (arith, l, length-map (range_with_len 0 n) f, length-range_with_len 0 n)))

made_many : (p : ProblemValue) (t : TreesValue) (i capped caps n : ℕ) → length (made_holders p t i capped caps n) ≡ n
unfolding made_holders
made_many p t i capped caps n = length-map (range_with_len 0 n) (λ k. holders_in p t i k capped caps) ∙ length-range_with_len 0 n

-- one place more
pub made_more : (p : ProblemValue) (t : TreesValue) (i capped caps n : ℕ) → made_holders p t i capped caps (n + 1) ≡ made_holders p t i capped caps n ++ holders_in p t i n capped caps ∷ []
unfolding made_holders
made_more p t i capped caps n = map-range_with_len_more (λ k. holders_in p t i k capped caps) 0 n n (omega arith)

pub made_none : (p : ProblemValue) (t : TreesValue) (i capped caps : ℕ) → [] ≡ made_holders p t i capped caps 0
unfolding made_holders
made_none p t i capped caps = refl

-- limits below n are not j from n on
none_past : (n j : ℕ) (holders : List ℕ) → ((k : ℕ) → k < length holders → get_or holders k 0 < n) → n ≤ j → count_by (λ h. h == j) holders ≡ 0
none_past n j [] inside l = refl
none_past n j (h ∷ holders) inside l =
    let off = ap {B = ℕ} (λ b. cond b 1 0) (ne_eqb h j (λ e. (let w = inside 0 (omega arith) in omega arith))) in
    omega (arith, off, sum_by-cons (λ x. cond (x == j) 1 0) h holders, none_past n j holders (λ k m. inside (suc k) (omega arith)) l)

at_most_one : (b : Bool) → cond {A = ℕ} b 1 0 ≤ 1
at_most_one true = omega arith
at_most_one false = omega arith

-- the holders of a cell that no limit holds
free_holders : (market : Market) (i a : ℕ) (holders : List ℕ) → IsHolders market i a holders → ((j : ℕ) → j < length market.limits → holds (limit_cells market j) (cell_of i a) ≡ false) → holders ≡ []
free_holders market i a [] h free = refl
free_holders market i a (x ∷ holders) h free =
    let inside = h.inside 0 0 (omega arith) in
    let once = h.once x inside ∙ ap {B = ℕ} (λ b. cond b 1 0) (free x inside) in
    let self = ap {B = ℕ} (λ b. cond b 1 0) (eq-eqb x x refl) in
    absurd (omega (arith, once, self, sum_by-cons (λ y. cond (y == x) 1 0) x holders))

module _ (p : ProblemValue) (h : IsProblem p) (t : TreesValue) (r : AreTreesOf p.family t) (i : ℕ) (known : i < length p.agents) (capped caps : ℕ)
    (capped_is : capped ≡ p.stated + caps_before (take i (market_of p).agents)) (caps_is : caps ≡ capped_count (demand_at p i) (list_at p i)) (line : LineValue)
    (demand : line.demand ≡ demand_at p i) (columns : line.columns ≡ list_at p i)
    (made : line.holders ≡ made_holders p t i capped caps (length (list_at p i))) where
  holders_read : (k : ℕ) → k < length (list_at p i) → holders_at line k ≡ holders_in p t i k capped caps
  unfolding made_holders
  holders_read k l = ap (λ (xs : List (List ℕ)). unwrap_or (slice_get xs k) []) made ∙ read_made (λ k. holders_in p t i k capped caps) (length (list_at p i)) k l

  holders_past : (k : ℕ) → length (list_at p i) ≤ k → holders_at line k ≡ []
  unfolding made_holders
  holders_past k l = ap (λ (xs : List (List ℕ)). unwrap_or (slice_get xs k) []) made ∙ past_made (λ k. holders_in p t i k capped caps) (length (list_at p i)) k l

  holders_right : (k : ℕ) → k < length (list_at p i) → IsHolders (market_of p) i (slice_index (list_at p i) k) (holders_at line k)
  holders_right k l =
      subst (IsHolders (market_of p) i (slice_index (list_at p i) k)) (sym (holders_read k l))
      (subst (λ n. IsHolders (market_of p) i (slice_index (list_at p i) k) (holders_in p t i k n caps)) (sym capped_is)
      (subst (λ n. IsHolders (market_of p) i (slice_index (list_at p i) k) (holders_in p t i k (p.stated + caps_before (take i (market_of p).agents)) n)) (sym caps_is) (limits_right p h t r i k known l)))

  same_list : length line.columns ≡ length (list_at p i)
  same_list = ap length columns

  -- the agent's line
  pub line_right : IsLineOf (market_of p) i (record { demand = demand_at p i; list = list_at p i }) line
  line_right = record {
    demand = demand;
    columns = columns;
    holders = λ k l. subst (λ a. IsHolders (market_of p) i a (holders_at line k)) (sym (ap (λ list. slice_index list k) columns)) (holders_right k (omega (arith, l, same_list)));
  }

  -- over the problem's limits
  pub line_limits : IsLine (length (limits_of p)) line
  line_limits = record {
    many = ap length made ∙ made_many p t i capped caps (length (list_at p i)) ∙ sym same_list;
    some = omega (arith, same_list, short.0);
    short = omega (arith, same_list, short.1);
    last = last;
    inside = λ k. inside k;
    once = λ k j. once k j;
  }
    where
      short : (1 ≤ length (list_at p i)) × (length (list_at p i) ≤ 201)
      short = list_short p i h known

      free : (j : ℕ) → j < length (limits_of p) → holds (limit_cells (market_of p) j) (cell_of i (length p.objects)) ≡ false
      free j l =
          let d : Limit = record { ceiling = 0; cells = [] } in
          ap (λ (o : Option Limit). holds (cells o) (cell_of i (length p.objects))) (slice_get-get_or (limits_of p) j d l) ∙ none_free p i h j d l
        where
          cells : Option Limit → List Cell
          cells o = option_map_or (λ (s : Limit). s.cells) o []

      last : holders_at line (length line.columns - 1) ≡ []
      last =
          let place : length line.columns - 1 ≡ length (list_at p i) - 1 = omega (arith, same_list) in
          let at : slice_index (list_at p i) (length (list_at p i) - 1) ≡ length p.objects = get_or_from_slice_get (list_at p i) (length (list_at p i) - 1) (length p.objects) 0 (list_lawful p i h known).last in
          ap (holders_at line) place
          ∙ free_holders (market_of p) i (length p.objects) (holders_at line (length (list_at p i) - 1))
          (subst (λ a. IsHolders (market_of p) i a (holders_at line (length (list_at p i) - 1))) at (holders_right (length (list_at p i) - 1) (omega (arith, short.0)))) free

      inside : (k : ℕ) → All (λ x. x < length (limits_of p)) (holders_at line k)
      inside k = elim (cases_lt k (length (list_at p i))) [
        | inl l ↦ (holders_right k l).inside
        | inr past ↦ subst (All (λ x. x < length (limits_of p))) (sym (holders_past k past)) (All-from_recursion (λ x. x < length (limits_of p)) [] tt)
      ]

      once : (k j : ℕ) → count_by (λ x. x == j) (holders_at line k) ≤ 1
      once k j = elim (cases_lt k (length (list_at p i))) [
        | inl l ↦ elim (cases_lt j (length (limits_of p))) [
          | inl m ↦ (let one = (holders_right k l).once j m in omega (arith, one, at_most_one (holds (limit_cells (market_of p) j) (cell_of i (slice_index (list_at p i) k)))))
          | inr m ↦ (let none = none_past (length (limits_of p)) j (holders_at line k) (λ q n. (holders_right k l).inside q 0 n) m in omega (arith, none))
        ]
        | inr past ↦ subst (λ xs. count_by (λ x. x == j) xs ≤ 1) (sym (holders_past k past)) (let z : 0 ≤ 1 = omega arith in z)
      ]

-- a line more
pub each_push : (P : ℕ → LineValue → Type 0) (lines : List LineValue) (y : LineValue) → ((i : ℕ) (line : LineValue) → slice_get lines i ≡ Some line → P i line) → P (length lines) y
    → (i : ℕ) (line : LineValue) → slice_get (lines ++ y ∷ []) i ≡ Some line → P i line
each_push P [] y h p zero line is = subst (P 0) (same_Some y line is) p
each_push P [] y h p (suc i) line is = cc is
each_push P (x ∷ lines) y h p zero line is = h 0 line is
each_push P (x ∷ lines) y h p (suc i) line is = each_push (λ n. P (suc n)) lines y (λ j l e. h (suc j) l e) p i line is

same_demands : (agents : List Agent) (lines : List LineValue) → length lines ≡ length agents → ((i : ℕ) (w : Agent) (line : LineValue) → slice_get agents i ≡ Some w → slice_get lines i ≡ Some line → line.demand ≡ w.demand)
    → sum_by (λ (line : LineValue). line.demand) lines ≡ sum_by (λ (w : Agent). w.demand) agents
same_demands [] [] many h = refl
same_demands [] (x ∷ lines) many h = absurd (omega arith)
same_demands (w ∷ agents) [] many h = absurd (omega arith)
same_demands (w ∷ agents) (x ∷ lines) many h =
    omega (
      arith,
      sum_by-cons (λ (line : LineValue). line.demand) x lines,
      sum_by-cons (λ (v : Agent). v.demand) w agents,
      h 0 w x refl refl,
      same_demands agents lines (omega arith) (λ i v line a b. h (suc i) v line a b),
    )

-- the lines of all agents
pub lines_right : (p : ProblemValue) (lines : List LineValue) → IsProblem p → length lines ≡ length p.agents
    → ((i : ℕ) (w : Agent) (line : LineValue) → slice_get (market_of p).agents i ≡ Some w → slice_get lines i ≡ Some line → IsLineOf (market_of p) i w line)
    → ((i : ℕ) (line : LineValue) → slice_get lines i ≡ Some line → IsLine (length (limits_of p)) line) → AreLinesOf (market_of p) lines
lines_right p lines h many each limits = record {
  many = many ∙ sym (agent_count p h);
  each = each;
  limits = record {
    each = limits;
    demands = (let same = same_demands (market_of p).agents lines (many ∙ sym (agent_count p h)) (λ i w line a b. (each i w line a b).demand) in
        let total = demand_total p h in omega (arith, same, total, h.demands_limit));
  };
}
