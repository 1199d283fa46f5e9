-- The agents' seats, and the speeds that they make.
use Rattle.std.proofs.Common.{◌≡◌, ◌≢◌, ℕ, suc, zero, ◌+◌, ◌*◌, ◌<◌, ◌≤◌, List, [], ◌∷◌, Bool, true, false, cond, Some, length, get_or, set, take, refl, ap, sym, ◌∙◌, subst, inl, inr, arith, mul-le-mul_left}
use Rattle.std.specs.Prelude.{count_by, sum_by, ◌==◌, slice_get, slice_index, ◌⊎◌, min}
use Rattle.std.proofs.Math.Nat.{mul-add}
use Rattle.std.proofs.lemmas.Bool.{cases_eq, cases_order, eq-eqb, ne_eqb, cases_lt}
use Rattle.std.proofs.lemmas.List.{get_or-set_same, get_or-set_other, length-set, take-set}
use Rattle.std.proofs.lemmas.Option.{same_Some}
use Rattle.std.proofs.lemmas.List.Sums.{sum_by-cons, sum_by_more, sum_by_more_le}
use Rattle.definitions.specs.Sets.{cell_of, holds}
use Rattle.definitions.specs.Values.{Agent, Market}
use Rattle.definitions.specs.Eating.{full_at, moment_at, limit_cells}
use Rattle.eating_laws.proofs.Line.{rate, rate_at}
use Rattle.eating_laws.proofs.Sums.{speed_from, speed_of}
use Rattle.eating_laws.proofs.Holders.{IsHolders, least_of, least_le, full_holders}
use Rattle.eating.specs.Plan.{LineValue, holders_at, IsLineOf, AreLines, AreLinesOf}
use Rattle.eating.specs.Seats.{IsSeat, AreSeats, seat_speed}

-- one holder more
pub added : (speeds old holders : List ℕ) (d i : ℕ) → i < length holders → get_or holders i 0 < length speeds
    → ((j : ℕ) → get_or speeds j 0 ≡ get_or old j 0 + d * count_by (λ h. h == j) (take i holders))
    → (j : ℕ) → get_or (set speeds (get_or holders i 0) (get_or speeds (get_or holders i 0) 0 + d)) j 0 ≡ get_or old j 0 + d * count_by (λ h. h == j) (take (i + 1) holders)
added speeds old holders d i l inside h j =
    let x = get_or holders i 0 in
    let more = sum_by_more (λ h. cond (h == j) 1 0) holders i 0 l in
    elim (cases_order x j) [
      | inl same ↦
          let bit = ap {B = ℕ} (λ b. cond b 1 0) (eq-eqb x j same) in
          let count : count_by (λ h. h == j) (take (i + 1) holders) ≡ count_by (λ h. h == j) (take i holders) + 1 = omega (arith, more, bit) in
          ap (λ k. get_or (set speeds x (get_or speeds x 0 + d)) k 0) (sym same) ∙ get_or-set_same speeds x (get_or speeds x 0 + d) 0 inside
          ∙ (let at = ap (λ k. get_or speeds k 0) same in omega (arith, at, h j, ap (λ n. d * n) count, mul-add d (count_by (λ h. h == j) (take i holders)) 1))
      | inr other ↦
          let apart : x ≢ j = different other in
          let bit = ap {B = ℕ} (λ b. cond b 1 0) (ne_eqb x j apart) in
          let count : count_by (λ h. h == j) (take (i + 1) holders) ≡ count_by (λ h. h == j) (take i holders) = omega (arith, more, bit) in
          get_or-set_other speeds x j (get_or speeds x 0 + d) 0 (λ e. apart (sym e)) ∙ h j ∙ ap (λ n. get_or old j 0 + d * n) (sym count)
    ]
  where
    different : {x : ℕ} → (x < j) ⊎ (j < x) → x ≢ j
    different (inl k) e = omega arith
    different (inr k) e = omega arith

-- one holder less
pub taken_off : (speeds old holders : List ℕ) (d i rest : ℕ) → i < length holders → get_or holders i 0 < length speeds → rest + d ≡ get_or speeds (get_or holders i 0) 0
    → ((j : ℕ) → get_or speeds j 0 + d * count_by (λ h. h == j) (take i holders) ≡ get_or old j 0)
    → (j : ℕ) → get_or (set speeds (get_or holders i 0) rest) j 0 + d * count_by (λ h. h == j) (take (i + 1) holders) ≡ get_or old j 0
taken_off speeds old holders d i rest l inside left h j =
    let x = get_or holders i 0 in
    let more = sum_by_more (λ h. cond (h == j) 1 0) holders i 0 l in
    elim (cases_eq x j) [
      | inl same ↦
          let bit = ap {B = ℕ} (λ b. cond b 1 0) (eq-eqb x j same) in
          let count : count_by (λ h. h == j) (take (i + 1) holders) ≡ count_by (λ h. h == j) (take i holders) + 1 = omega (arith, more, bit) in
          let here : get_or (set speeds x rest) j 0 ≡ rest = ap (λ k. get_or (set speeds x rest) k 0) (sym same) ∙ get_or-set_same speeds x rest 0 inside in
          let was : get_or speeds x 0 ≡ get_or speeds j 0 = ap (λ k. get_or speeds k 0) same in
          omega (arith, here, left, was, h j, ap (λ n. d * n) count, mul-add d (count_by (λ h. h == j) (take i holders)) 1)
      | inr other ↦
          let bit = ap {B = ℕ} (λ b. cond b 1 0) (ne_eqb x j other) in
          let count : count_by (λ h. h == j) (take (i + 1) holders) ≡ count_by (λ h. h == j) (take i holders) = omega (arith, more, bit) in
          ap (λ n. n + d * count_by (λ h. h == j) (take (i + 1) holders)) (get_or-set_other speeds x j rest 0 (λ e. other (sym e)))
          ∙ ap (λ n. get_or speeds j 0 + d * n) count ∙ h j
    ]

-- one demand more is within that of all holders
one_more : (holders : List ℕ) (d i : ℕ) → i < length holders
    → d * count_by (λ h. h == get_or holders i 0) (take i holders) + d ≤ d * count_by (λ h. h == get_or holders i 0) holders
one_more holders d i l =
    let x = get_or holders i 0 in
    let bit = ap {B = ℕ} (λ b. cond b 1 0) (eq-eqb x x refl) in
    let more = sum_by_more_le (λ h. cond (h == x) 1 0) holders i 0 l in
    let count : count_by (λ h. h == x) (take i holders) + 1 ≤ count_by (λ h. h == x) holders = omega (arith, more, bit) in
    omega (arith, mul-le-mul_left d count, mul-add d (count_by (λ h. h == x) (take i holders)) 1)

-- the speed so far leaves room for one demand more
pub room_for : (old now holders : List ℕ) (d i : ℕ) → i < length holders → ((j : ℕ) → get_or old j 0 + d * count_by (λ h. h == j) holders ≤ 1000)
    → ((j : ℕ) → get_or now j 0 ≡ get_or old j 0 + d * count_by (λ h. h == j) (take i holders)) → get_or now (get_or holders i 0) 0 + d ≤ 1000
room_for old now holders d i l room h = omega (arith, h (get_or holders i 0), room (get_or holders i 0), one_more holders d i l)

-- what is left of the speed has one demand more to take off
pub left_for : (old now holders : List ℕ) (d i : ℕ) → i < length holders → ((j : ℕ) → d * count_by (λ h. h == j) holders ≤ get_or old j 0)
    → ((j : ℕ) → get_or now j 0 + d * count_by (λ h. h == j) (take i holders) ≡ get_or old j 0) → d ≤ get_or now (get_or holders i 0) 0
left_for old now holders d i l eaten h = omega (arith, h (get_or holders i 0), eaten (get_or holders i 0), one_more holders d i l)

-- one agent more
pub seat_more : (lines : List LineValue) (places : List ℕ) (k j : ℕ) (line : LineValue) → slice_get lines k ≡ Some line → k < length places
    → seat_speed (take (k + 1) lines) (take (k + 1) places) j ≡ seat_speed (take k lines) (take k places) j + line.demand * count_by (λ h. h == j) (holders_at line (get_or places k 0))
unfolding seat_speed
seat_more [] places k j line h l = cc h
seat_more (x ∷ lines) [] k j line h l = absurd (omega arith)
seat_more (x ∷ lines) (p ∷ places) zero j line h l =
    let same : x ≡ line = cc h in
    none lines places (x.demand * count_by (λ h. h == j) (holders_at x p)) ∙ ap (λ (y : LineValue). 0 + y.demand * count_by (λ h. h == j) (holders_at y p)) same
  where
    none : (lines : List LineValue) (places : List ℕ) (n : ℕ) → n + seat_speed (take 0 lines) (take 0 places) j ≡ 0 + n
    none lines places n = omega arith
seat_more (x ∷ lines) (p ∷ places) (suc k) j line h l =
    let one : suc k + 1 ≡ suc (k + 1) = omega arith in
    ap (λ n. seat_speed (take n (x ∷ lines)) (take n (p ∷ places)) j) one
    ∙ onto (x.demand * count_by (λ h. h == j) (holders_at x p)) (seat_speed (take (k + 1) lines) (take (k + 1) places) j) (seat_speed (take k lines) (take k places) j)
    (line.demand * count_by (λ h. h == j) (holders_at line (get_or places k 0))) (seat_more lines places k j line h (omega arith))
  where
    onto : (a b x y : ℕ) → b ≡ x + y → a + b ≡ a + x + y
    onto a b x y e = omega arith

-- the speeds stay within the sum of demands
pub seat_bound : (lines : List LineValue) (places : List ℕ) (k j : ℕ) → ((i : ℕ) (line : LineValue) → slice_get lines i ≡ Some line → (q : ℕ) → count_by (λ h. h == j) (holders_at line q) ≤ 1)
    → seat_speed (take k lines) (take k places) j ≤ sum_by (λ (line : LineValue). line.demand) lines
unfolding seat_speed
seat_bound lines places zero j h = omega arith
seat_bound [] places (suc k) j h = omega arith
seat_bound (x ∷ lines) [] (suc k) j h = omega arith
seat_bound (x ∷ lines) (p ∷ places) (suc k) j h =
    let one = mul-le-mul_left x.demand (h 0 x refl p) in
    omega (arith, one, seat_bound lines places k j (λ i line e. h (suc i) line e), sum_by-cons (λ (line : LineValue). line.demand) x lines)

-- the seats' speeds are the speeds of the table
module _ (market : Market) (U u : ℕ) (e : List ℕ) (size : length e ≡ length market.limits)
    (open_or_full : (j : ℕ) → j < length e → (moment_at e j ≤ u) ⊎ (moment_at e j ≡ U)) (before_end : u < U) where
  -- a place that isn't open is full by now
  full_place : (holders : List ℕ) → ((k : ℕ) → k < length holders → get_or holders k 0 < length e) → least_of U e holders < U → least_of U e holders ≤ u
  unfolding least_of
  full_place [] inside h = absurd (omega arith)
  full_place (x ∷ holders) inside h =
      cases (moment_at e x) (least_of U e holders) (open_or_full x (inside 0 (omega arith))) (least_le U e holders) h (λ less. full_place holders (λ k l. inside (suc k) (omega arith)) less)
    where
      cases : (a b : ℕ) → (a ≤ u) ⊎ (a ≡ U) → b ≤ U → min a b < U → (b < U → b ≤ u) → min a b ≤ u
      cases a b (inl p) le less rest = omega arith
      cases a b (inr p) le less rest = (let r = rest (omega arith) in omega arith)

  module _ (j : ℕ) (known : j < length market.limits) where
    -- one agent's part
    seat_rate : (i : ℕ) (w : Agent) (line : LineValue) (place : ℕ) → IsLineOf market i w line → IsSeat U e line place
        → rate w.demand (full_at U market.limits e i) (λ a. holds (limit_cells market j) (cell_of i a)) u w.list ≡ line.demand * count_by (λ h. h == j) (holders_at line place)
    seat_rate i w line place is_line seat =
        rate_at w.demand (full_at U market.limits e i) (λ a. holds (limit_cells market j) (cell_of i a)) u place w.list inside before here
        ∙ bit (holds (limit_cells market j) (cell_of i (slice_index w.list place)))
        ∙ ap (λ n. w.demand * n) (ap {B = ℕ} (λ a. cond (holds (limit_cells market j) (cell_of i a)) 1 0) (sym (same_column place)) ∙ sym (once.once j known))
        ∙ ap (λ n. n * count_by (λ h. h == j) (holders_at line place)) (sym is_line.demand)
      where
        inside_line : place < length line.columns
        inside_line = seat.so_far.inside

        inside : place < length w.list
        inside = subst (λ list. place < length list) is_line.columns inside_line

        same_column : (k : ℕ) → slice_index line.columns k ≡ slice_index w.list k
        same_column k = ap (λ list. slice_index list k) is_line.columns

        once : IsHolders market i (slice_index line.columns place) (holders_at line place)
        once = is_line.holders place inside_line

        full_is : (k : ℕ) → k < length line.columns → full_at U market.limits e i (slice_index w.list k) ≡ least_of U e (holders_at line k)
        full_is k l = ap (λ a. full_at U market.limits e i a) (sym (same_column k)) ∙ sym (full_holders market U e (holders_at line k) i (slice_index line.columns k) size (is_line.holders k l))

        before : (k : ℕ) → k < place → full_at U market.limits e i (slice_index w.list k) ≤ u
        before k l =
            let some : k < length line.columns = omega (arith, inside_line) in
            let full = full_place (holders_at line k) (λ q m. (let f = (is_line.holders k some).inside q 0 m in omega (arith, f, size))) (seat.so_far.before k l) in
            omega (arith, full, full_is k some)

        here : u < full_at U market.limits e i (slice_index w.list place)
        here = omega (arith, full_is place inside_line, seat.here, before_end)

        bit : (b : Bool) → cond b w.demand 0 ≡ w.demand * cond b 1 0
        bit true = omega arith
        bit false = omega arith

    seats_from : (i : ℕ) (agents : List Agent) (lines : List LineValue) (places : List ℕ) → length lines ≡ length agents → length places ≡ length lines
        → ((k : ℕ) (w : Agent) (line : LineValue) → slice_get agents k ≡ Some w → slice_get lines k ≡ Some line → IsLineOf market (i + k) w line)
        → ((k : ℕ) (line : LineValue) → slice_get lines k ≡ Some line → IsSeat U e line (slice_index places k))
        → seat_speed lines places j ≡ speed_from U market.limits e (limit_cells market j) u i agents
    unfolding seat_speed speed_from
    seats_from i [] [] places many many' are seats = refl
    seats_from i [] (line ∷ lines) places many many' are seats = absurd (omega arith)
    seats_from i (w ∷ agents) [] places many many' are seats = absurd (omega arith)
    seats_from i (w ∷ agents) (line ∷ lines) [] many many' are seats = absurd (omega arith)
    seats_from i (w ∷ agents) (line ∷ lines) (p ∷ places) many many' are seats =
        let first : IsLineOf market i w line = subst (λ n. IsLineOf market n w line) (let z : i + 0 ≡ i = omega arith in z) (are 0 w line refl refl) in
        let head = seat_rate i w line p first (seats 0 line refl) in
        let rest = seats_from (i + 1) agents lines places (omega arith) (omega arith)
        (λ k v l a b. subst (λ n. IsLineOf market n v l) (let z : i + suc k ≡ i + 1 + k = omega arith in z) (are (suc k) v l a b)) (λ k l a. seats (suc k) l a) in
        omega (arith, head, rest)

    pub seats_speed : (lines : List LineValue) (places : List ℕ) → AreLinesOf market lines → AreSeats U e lines places → seat_speed lines places j ≡ speed_of market U e u (limit_cells market j)
    seats_speed lines places are seats =
        seats_from 0 market.agents lines places are.many seats.many (λ k w line a b. subst (λ n. IsLineOf market n w line) (let z : k ≡ 0 + k = omega arith in z) (are.each k w line a b)) seats.each

-- what one agent more adds
seat_added : (lines : List LineValue) (places : List ℕ) (k j : ℕ) (line : LineValue) (place : ℕ) → slice_get lines k ≡ Some line → k < length places
    → seat_speed (take (k + 1) lines) (take (k + 1) (set places k place)) j ≡ seat_speed (take k lines) (take k places) j + line.demand * count_by (λ h. h == j) (holders_at line place)
seat_added lines places k j line place is l =
    seat_more lines (set places k place) k j line is (omega (arith, l, length-set places k place))
    ∙ ap (λ ys. seat_speed (take k lines) ys j + line.demand * count_by (λ h. h == j) (holders_at line (get_or (set places k place) k 0))) (take-set places k place)
    ∙ ap (λ q. seat_speed (take k lines) (take k places) j + line.demand * count_by (λ h. h == j) (holders_at line q)) (get_or-set_same places k place 0 l)

pub seat_room : (lines : List LineValue) (places : List ℕ) (k j : ℕ) (line : LineValue) (place limits : ℕ) → AreLines limits lines → slice_get lines k ≡ Some line → k < length places
    → seat_speed (take k lines) (take k places) j + line.demand * count_by (λ h. h == j) (holders_at line place) ≤ 1000
seat_room lines places k j line place limits are is l =
    let bound = seat_bound lines (set places k place) (k + 1) j (λ i x e q. (are.each i x e).once q j) in
    omega (arith, bound, seat_added lines places k j line place is l, are.demands)

pub speeds_done : (lines : List LineValue) (places : List ℕ) (k j : ℕ) (line : LineValue) (place : ℕ) → slice_get lines k ≡ Some line → k < length places
    → (old new demand : ℕ) (holders : List ℕ) → demand ≡ line.demand → holders ≡ holders_at line place → old ≡ seat_speed (take k lines) (take k places) j
    → new ≡ old + demand * count_by (λ h. h == j) holders → new ≡ seat_speed (take (k + 1) lines) (take (k + 1) (set places k place)) j
speeds_done lines places k j line place is l old new demand holders d h before after =
    after ∙ ap (λ n. n + demand * count_by (λ h. h == j) holders) before ∙ ap (λ n. seat_speed (take k lines) (take k places) j + n * count_by (λ h. h == j) holders) d
    ∙ ap (λ xs. seat_speed (take k lines) (take k places) j + line.demand * count_by (λ h. h == j) xs) h ∙ sym (seat_added lines places k j line place is l)

pub seat_done : (U : ℕ) (e : List ℕ) (lines : List LineValue) (places : List ℕ) (k : ℕ) (line : LineValue) (place : ℕ) → slice_get lines k ≡ Some line → k < length places → IsSeat U e line place
    → ((i : ℕ) (x : LineValue) → i < k → slice_get lines i ≡ Some x → IsSeat U e x (slice_index places i))
    → (i : ℕ) (x : LineValue) → i < k + 1 → slice_get lines i ≡ Some x → IsSeat U e x (slice_index (set places k place) i)
seat_done U e lines places k line place is l seat done i x less at = elim (cases_lt i k) [
  | inl before ↦ subst (IsSeat U e x) (sym (get_or-set_other places k i place 0 (λ same. omega arith))) (done i x before at)
  | inr more ↦
      let same : k ≡ i = omega arith in
      let here : slice_get lines i ≡ Some line = subst (λ n. slice_get lines n ≡ Some line) same is in
      let one : line ≡ x = same_Some line x (sym here ∙ at) in
      subst (λ y. IsSeat U e y (slice_index (set places k place) i)) one (subst (λ n. IsSeat U e line (slice_index (set places k place) n)) same (subst (IsSeat U e line) (sym (get_or-set_same places k place 0 l)) seat))
]

-- an agent that moves takes its demand along
pub seat_moved : (lines : List LineValue) (places : List ℕ) (k j : ℕ) (line : LineValue) (place : ℕ) → slice_get lines k ≡ Some line → k < length places
    → seat_speed lines (set places k place) j + line.demand * count_by (λ h. h == j) (holders_at line (get_or places k 0))
    ≡ seat_speed lines places j + line.demand * count_by (λ h. h == j) (holders_at line place)
unfolding seat_speed
seat_moved [] places k j line place is l = cc is
seat_moved (x ∷ lines) [] k j line place is l = absurd (omega arith)
seat_moved (x ∷ lines) (p ∷ places) zero j line place is l =
    let same : x ≡ line = cc is in
    subst
    (λ (y : LineValue). x.demand * count_by (λ h. h == j) (holders_at x place) + seat_speed lines places j + y.demand * count_by (λ h. h == j) (holders_at y p)
    ≡ x.demand * count_by (λ h. h == j) (holders_at x p) + seat_speed lines places j + y.demand * count_by (λ h. h == j) (holders_at y place)) same (omega arith)
seat_moved (x ∷ lines) (p ∷ places) (suc k) j line place is l =
    (let rest = seat_moved lines places k j line place is (omega arith) in omega (arith, rest))

-- its demand is a part of the speed where it eats
pub seat_part : (lines : List LineValue) (places : List ℕ) (k j : ℕ) (line : LineValue) → slice_get lines k ≡ Some line → k < length places
    → line.demand * count_by (λ h. h == j) (holders_at line (get_or places k 0)) ≤ seat_speed lines places j
unfolding seat_speed
seat_part [] places k j line is l = cc is
seat_part (x ∷ lines) [] k j line is l = absurd (omega arith)
seat_part (x ∷ lines) (p ∷ places) zero j line is l =
    let same : x ≡ line = cc is in
    subst (λ (y : LineValue). y.demand * count_by (λ h. h == j) (holders_at y p) ≤ x.demand * count_by (λ h. h == j) (holders_at x p) + seat_speed lines places j) same (omega arith)
seat_part (x ∷ lines) (p ∷ places) (suc k) j line is l = (let rest = seat_part lines places k j line is (omega arith) in omega (arith, rest))
