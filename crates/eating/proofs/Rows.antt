-- Rows of matrices, written place by place.
use Rattle.std.proofs.Common.{◌≡◌, ◌≢◌, ℕ, suc, zero, ◌+◌, ◌-◌, ◌*◌, ◌<◌, ◌≤◌, List, [], ◌∷◌, Bool, true, false, cond, Some, length, take, drop, get_or, set, refl, ap, sym, ◌∙◌, subst, arith, inl, inr}
use Rattle.std.specs.Prelude.{min, max, nat_eq, slice_index, slice_get, All, ◌⊎◌, ◌||◌}
use Rattle.std.specs.Set.{is_member}
use Rattle.std.proofs.Math.Nat.{mul-le-mul_right, add-mul}
use Rattle.std.proofs.lemmas.Bool.{cases_lt, cases_order, eq-eqb, ne_eqb, false_from_ne_true, cases_Bool}
use Rattle.std.proofs.lemmas.Option.{slice_get-get_or, slice_get_within, get_or_from_slice_get}
use Rattle.std.proofs.lemmas.List.Sums.{get_or-le-sum_by}
use Rattle.std.proofs.lemmas.List.{get_or-set_same, get_or-set_other, take_all}
use Rattle.definitions.specs.Values.{Agent, Market}
use Rattle.definitions.specs.Eating.{full_at, reached, share}
use Rattle.definitions.proofs.Members.{number_test, member_place}
use Rattle.eating_laws.proofs.Holders.{least_of, full_holders}
use Rattle.eating_laws.proofs.Shares.{place_share}
use Rattle.eating.specs.Plan.{LineValue, holders_at, AreLines, least_from}
use Rattle.eating.specs.Serving.{IsRow, IsServable, IsServed}
use Rattle.eating.proofs.Leasts.{full_from_holders}

pub row_none : (g : ℕ → ℕ) (start : ℕ) (old : List ℕ) → IsRow g [] start old old
row_none g start old = record { row = λ a. refl; before = λ n l. refl }

member_more : (list : List ℕ) (k a : ℕ) → k < length list → is_member nat_eq (take (k + 1) list) a ≡ is_member nat_eq (take k list) a || nat_eq a (get_or list k 0)
member_more [] k a l = absurd (omega arith)
member_more (x ∷ list) zero a l = last (nat_eq a x)
  where
    last : (b : Bool) → b || false ≡ false || b
    last true = refl
    last false = refl
member_more (x ∷ list) (suc k) a l =
    let one : suc k + 1 ≡ suc (k + 1) = omega arith in
    ap (λ n. is_member nat_eq (take n (x ∷ list)) a) one ∙ ap (λ b. nat_eq a x || b) (member_more list k a (omega arith)) ∙ turn (nat_eq a x) (is_member nat_eq (take k list) a) (nat_eq a (get_or list k 0))
  where
    turn : (b c d : Bool) → b || (c || d) ≡ (b || c) || d
    turn true c d = refl
    turn false c d = refl

-- one place more
pub row_more : (g : ℕ → ℕ) (list : List ℕ) (k start x : ℕ) (old new : List ℕ) → k < length list → start + get_or list k 0 < length new → x ≡ g (get_or list k 0)
    → IsRow g (take k list) start old new → IsRow g (take (k + 1) list) start old (set new (start + get_or list k 0) x)
row_more g list k start x old new l inside is h = record {
  row = λ a. row a;
  before = λ n m. get_or-set_other new (start + get_or list k 0) n x 0 (λ same. omega arith) ∙ h.before n m;
}
  where
    row : (a : ℕ) → slice_index (set new (start + get_or list k 0) x) (start + a) ≡ cond (is_member nat_eq (take (k + 1) list) a) (g a) (slice_index old (start + a))
    row a = elim (cases_order a (get_or list k 0)) [
      | inl same ↦
          ap (λ b. slice_index (set new (start + get_or list k 0) x) (start + b)) same ∙ get_or-set_same new (start + get_or list k 0) x 0 inside ∙ is ∙ ap g (sym same)
          ∙ sym (ap (λ b. cond b (g a) (slice_index old (start + a))) (member_more list k a l ∙ ap (λ b. is_member nat_eq (take k list) a || b) (eq-eqb a (get_or list k 0) same) ∙ yes (is_member nat_eq (take k list) a)))
      | inr other ↦
          get_or-set_other new (start + get_or list k 0) (start + a) x 0 (λ same. different other (omega arith)) ∙ h.row a
          ∙ sym (ap (λ b. cond b (g a) (slice_index old (start + a))) (member_more list k a l ∙ ap (λ b. is_member nat_eq (take k list) a || b) (ne_eqb a (get_or list k 0) (different other)) ∙ same_bit (is_member nat_eq (take k list) a)))
    ]
      where
        different : {c : ℕ} → (a < c) ⊎ (c < a) → a ≢ c
        different (inl p) e = omega arith
        different (inr p) e = omega arith

        yes : (b : Bool) → b || true ≡ true
        yes true = refl
        yes false = refl

        same_bit : (b : Bool) → b || false ≡ b
        same_bit true = refl
        same_bit false = refl

pub row_all : (g : ℕ → ℕ) (list : List ℕ) (k start : ℕ) (old new : List ℕ) → length list ≤ k → IsRow g (take k list) start old new → IsRow g list start old new
row_all g list k start old new l h = subst (λ xs. IsRow g xs start old new) (take_all k list l) h

reached_more : (full : ℕ → ℕ) (from : ℕ) (list : List ℕ) (k : ℕ) → k < length list → reached full from (take (k + 1) list) ≡ max (reached full from (take k list)) (full (get_or list k 0))
unfolding reached
reached_more full from [] k l = absurd (omega arith)
reached_more full from (x ∷ list) zero l = refl
reached_more full from (x ∷ list) (suc k) l =
    let one : suc k + 1 ≡ suc (k + 1) = omega arith in
    ap (λ n. reached full from (take n (x ∷ list))) one ∙ reached_more full (max from (full x)) list k (omega arith)

module _ (market : Market) (i : ℕ) (w : Agent) (line : LineValue) (e : List ℕ) (h : IsServable market i w line e) where
  pub same_column : (k : ℕ) → get_or line.columns k 0 ≡ get_or w.list k 0
  same_column k = ap (λ list. get_or list k 0) h.is_line.columns

  -- the moment from which a place is full
  pub line_full : (D k : ℕ) → k < length line.columns → least_of D e (holders_at line k) ≡ full_at D market.limits e i (get_or w.list k 0)
  line_full D k l = full_holders market D e (holders_at line k) i (get_or line.columns k 0) h.many (h.is_line.holders k l) ∙ ap (full_at D market.limits e i) (same_column k)

  pub line_capped : (D first k : ℕ) → k < length line.columns → least_from D e first (holders_at line k) ≡ full_at D (drop first market.limits) (drop first e) i (get_or w.list k 0)
  line_capped D first k l =
      full_from_holders market D first e (holders_at line k) i (get_or line.columns k 0) h.many (h.is_line.holders k l) ∙ ap (full_at D (drop first market.limits) (drop first e) i) (same_column k)

  pub line_inside : (k : ℕ) → k < length line.columns → k < length w.list
  line_inside k l = subst (λ list. k < length list) h.is_line.columns l

  -- the moment up to which one place more is eaten
  pub line_reached : (D k least from to : ℕ) → k < length line.columns → least ≡ least_of D e (holders_at line k) → to ≡ max least from
      → from ≡ reached (full_at D market.limits e i) 0 (take k w.list) → to ≡ reached (full_at D market.limits e i) 0 (take (k + 1) w.list)
  line_reached D k least from to l is top before =
      let more = reached_more (full_at D market.limits e i) 0 w.list k (line_inside k l) in
      let full = is ∙ line_full D k l in
      omega (arith, more, full, top, before)

  -- and the share of the column there
  pub line_share : (D k from to : ℕ) → k < length line.columns → from ≤ D → to ≤ D → from ≡ reached (full_at D market.limits e i) 0 (take k w.list)
      → to ≡ reached (full_at D market.limits e i) 0 (take (k + 1) w.list) → line.demand * (to - from) ≡ share market D e i (get_or w.list k 0)
  line_share D k from to l low high before after =
      let a = reached (full_at D market.limits e i) 0 (take (k + 1) w.list) in
      let b = reached (full_at D market.limits e i) 0 (take k w.list) in
      let same : to - from ≡ min D a - min D b = omega arith in
      ap (λ d. d * (to - from)) h.is_line.demand ∙ ap (λ n. w.demand * n) same ∙ sym (place_share market D e i k w h.agent h.apart (line_inside k l))

-- the agent of a line
pub servable : (market : Market) (lines : List LineValue) (e : List ℕ) (i : ℕ) (line : LineValue) → IsServed market lines e → i < length lines → slice_get lines i ≡ Some line
    → (w : Agent) × (IsServable market i w line e)
servable market lines e i line h l is =
    let d : Agent = record { demand = 0; list = [] } in
    let w = get_or market.agents i d in
    let known : slice_get market.agents i ≡ Some w = slice_get-get_or market.agents i d (omega (arith, l, h.lines_of.many)) in
    (w, record { agent = known; apart = h.apart i w known; is_line = h.lines_of.each i w line known is; many = h.many })

-- a column that is too large is off the list
off_list : (columns b : ℕ) (list : List ℕ) → All (λ a. a < columns) list → columns ≤ b → is_member nat_eq list b ≡ false
off_list columns b list inside h =
    false_from_ne_true (is_member nat_eq list b) (λ m. found (member_place nat_eq number_test b list m))
  where
    found : (k : ℕ) × (k < length list) × ((d : ℕ) → get_or list k d ≡ b) → ⊥
    found (k, l, e) = (let less = inside k 0 l in omega (arith, less, e 0))

-- one row more
module _ (columns agent d len : ℕ) (g : ℕ → ℕ → ℕ) (list old new : List ℕ) (room : (agent + 1) * columns ≤ len) (inside : All (λ a. a < columns) list)
    (off : (a : ℕ) → is_member nat_eq list a ≡ false → g agent a ≡ d) (h : IsRow (g agent) list (agent * columns) old new)
    (rest : (n : ℕ) → agent * columns ≤ n → n < len → slice_index old n ≡ d) where
  row_end : (agent + 1) * columns ≡ agent * columns + columns
  row_end = add-mul agent 1 columns ∙ (let one : agent * columns + 1 * columns ≡ agent * columns + columns = omega arith in one)

  pub rows_done : ((i a : ℕ) → i < agent → a < columns → slice_index old (i * columns + a) ≡ g i a) → (i a : ℕ) → i < agent + 1 → a < columns → slice_index new (i * columns + a) ≡ g i a
  rows_done done i a l m = elim (cases_lt i agent) [
    | inl less ↦
        let le : (i + 1) * columns ≤ agent * columns = mul-le-mul_right columns (let f : i + 1 ≤ agent = omega arith in f) in
        let end = add-mul i 1 columns in
        h.before (i * columns + a) (omega arith) ∙ done i a less m
    | inr more ↦
        let same : agent ≡ i = omega arith in
        subst (λ k. slice_index new (k * columns + a) ≡ g k a) same (h.row a ∙ here (cases_Bool (is_member nat_eq list a)))
  ]
    where
      here : (is_member nat_eq list a ≡ true) ⊎ (is_member nat_eq list a ≡ false) → cond (is_member nat_eq list a) (g agent a) (slice_index old (agent * columns + a)) ≡ g agent a
      here (inl e) = ap (λ b. cond b (g agent a) (slice_index old (agent * columns + a))) e
      here (inr e) = ap (λ b. cond b (g agent a) (slice_index old (agent * columns + a))) e ∙ rest (agent * columns + a) (omega arith) (omega (arith, row_end)) ∙ sym (off a e)

  pub rows_rest : (n : ℕ) → (agent + 1) * columns ≤ n → n < len → slice_index new n ≡ d
  rows_rest n l m =
      let b = n - agent * columns in
      let place : agent * columns + b ≡ n = omega (arith, row_end, l) in
      let far : columns ≤ b = omega (arith, row_end, l) in
      ap (slice_index new) (sym place) ∙ h.row b ∙ ap (λ t. cond t (g agent b) (slice_index old (agent * columns + b))) (off_list columns b list inside far)
      ∙ ap (slice_index old) place ∙ rest n (omega (arith, row_end, l)) m

pub list_within : (columns : ℕ) (market : Market) (i : ℕ) (w : Agent) (line : LineValue) (e : List ℕ) → IsServable market i w line e → All (λ a. a < columns) line.columns → All (λ a. a < columns) w.list
list_within columns market i w line e h inside = subst (λ list. All (λ a. a < columns) list) h.is_line.columns inside

-- one demand isn't above all
pub line_demand : (lines : List LineValue) (i : ℕ) (line : LineValue) (limits : ℕ) → AreLines limits lines → slice_get lines i ≡ Some line → line.demand ≤ 1000
line_demand lines i line limits h is =
    let one = get_or-le-sum_by (λ (l : LineValue). l.demand) lines i line (slice_get_within lines i line is) in
    omega (arith, one, h.demands, ap (λ (l : LineValue). l.demand) (get_or_from_slice_get lines i line line is))
