-- Sums of falling numbers over two roundings for the guarded family differ by at most the first minus the last number.
use Rattle.std.proofs.Common.{◌≡◌, ℕ, suc, zero, ◌+◌, ◌-◌, ◌*◌, ◌<◌, ◌≤◌, List, [], ◌∷◌, map, length, take, refl, ap, sym, ◌∙◌, arith, subst, ℤ, pos, ◌+ℤ◌, ◌-ℤ◌, ◌≤ℤ◌}
use Rattle.std.specs.Prelude.{sum_by}
use Rattle.std.specs.List.{zip}
use Rattle.std.proofs.lemmas.Int.{ints}
use Rattle.std.proofs.lemmas.Option.{slice_get_within}
use Rattle.std.proofs.lemmas.List.{take_all}
use Rattle.std.proofs.lemmas.Slice.Zip.{length-zip}
use borrow.Author.Differences.{up, down, lt_out, at_most_in}
use Rattle.definitions.specs.Sets.{cell_of, prefix_sum, ScaledValue, unit_at, units_of, cells_of}
use Rattle.definitions.specs.Values.{ProblemValue, IsProblem, column_count, list_at, demand_at}
use Rattle.definitions.specs.Assignment.{IsRandomAssignment, Held, worth_sum}
use Rattle.definitions.specs.Certificate.{Falls, FallsFrom}
use Rattle.definitions.specs.Rounding.{IsRounded, Rounds}
use Rattle.definitions.specs.Fairness.{guarded_family}
use Rattle.definitions.proofs.Sums.{sum_mapped, sum_firsts, sum_first_firsts}
use Rattle.definitions.proofs.Problems.{list_lawful}
use Rattle.certificate_laws.specs.Guarded.{places_sum, number_at}
use Rattle.definitions.proofs.Listed.{row_on_list}
use Rattle.certificate_laws.proofs.Worths.{sum_parts}
use Rattle.certificate_laws.proofs.Near.{rounded_near, rounded_whole, last_of, SinksAlong, near_from_fronts, guard}
use Rattle.certificate_laws.proofs.PrefixSets.{prefix_rounded}

-- falling numbers as gains and losses
sinks_along : (before : ℤ) (list : List ℕ) (numbers : List ℤ) (own other : ℕ × ℤ → ℕ) → FallsFrom before numbers
    → SinksAlong (λ (w : ℕ × ℤ). up w.1) (λ w. down w.1) own other (up before) (down before) (zip list numbers)
sinks_along before [] numbers own other h = tt
sinks_along before (a ∷ list) [] own other h = tt
sinks_along before (a ∷ list) (w ∷ numbers) own other h = (let l = lt_out w before h.0 in omega (arith, l), sinks_along w list numbers own other h.1)

-- the last number beside a column is the last number
last_part : (f : ℤ → ℕ) (before : ℤ) (list : List ℕ) (numbers : List ℤ) → length numbers ≡ length list
    → last_of (λ (w : ℕ × ℤ). f w.1) (f before) (zip list numbers) ≡ f (number_at (before ∷ numbers) (length numbers))
last_part f before [] [] e = refl
last_part f before [] (w ∷ numbers) e = absurd (omega arith)
last_part f before (a ∷ list) [] e = absurd (omega arith)
last_part f before (a ∷ list) (w ∷ numbers) e = last_part f w list numbers (omega arith)

-- the places of a list with their numbers and units
abbrev held_with : (ℕ → ℕ) → List (ℕ × ℤ) → List Held
held_with f ws = map (λ w. record { worth = w.1; units = f w.0 }) ws

abbrev held_one : (ℕ → ℕ) → ℕ × ℤ → Held
held_one f w = record { worth = w.1; units = f w.0 }

-- a sum of number times units is its gains less its losses
held_parts : (f : ℕ → ℕ) (ws : List (ℕ × ℤ))
    → up (worth_sum (held_with f ws)) + sum_by (λ w. down w.1 * f w.0) ws ≡ down (worth_sum (held_with f ws)) + sum_by (λ w. up w.1 * f w.0) ws
held_parts f ws =
    let a : sum_by (λ (h : Held). down h.worth * h.units) (held_with f ws) ≡ sum_by (λ w. down w.1 * f w.0) ws = sum_mapped (λ (h : Held). down h.worth * h.units) (held_one f) ws in
    let b : sum_by (λ (h : Held). up h.worth * h.units) (held_with f ws) ≡ sum_by (λ w. up w.1 * f w.0) ws = sum_mapped (λ (h : Held). up h.worth * h.units) (held_one f) ws in
    omega (arith, a, b, sum_parts (held_with f ws))

in_numbers : (x y first last : ℤ) → up x + down y + (up last + down first) ≤ up y + down x + (up first + down last) → x ≤ℤ (y +ℤ (first -ℤ last))
in_numbers x y first last h = at_most_in x (y +ℤ (first -ℤ last)) (omega (arith, ints, h))

-- over one list: sums of number times units, where all sums over first places are near
list_bound : (list : List ℕ) (numbers : List ℤ) (own other : ℕ → ℕ) → length numbers ≡ length list → Falls numbers
    → ((k : ℕ) → k ≤ length list → sum_by own (take k list) ≤ sum_by other (take k list) + 1) → sum_by own list ≡ sum_by other list
    → worth_sum (held_with own (zip list numbers)) ≤ℤ (worth_sum (held_with other (zip list numbers)) +ℤ (number_at numbers 0 -ℤ number_at numbers (length numbers - 1)))
list_bound [] [] own other e fall near level = in_numbers (pos 0) (pos 0) (pos 0) (pos 0) (omega arith)
list_bound [] (w ∷ numbers) own other e fall near level = absurd (omega arith)
list_bound (a ∷ list) [] own other e fall near level = absurd (omega arith)
list_bound (a ∷ list) (w ∷ numbers) own other e fall near level =
    let ws : List (ℕ × ℤ) = zip (a ∷ list) (w ∷ numbers) in
    let many : length ws ≤ length (a ∷ list) = omega (arith, length-zip (a ∷ list) (w ∷ numbers)) in
    let all = near_from_fronts (λ (w : ℕ × ℤ). up w.1) (λ w. down w.1) (λ w. own w.0) (λ w. other w.0) 0 0 ws
    (λ k l. omega (arith, sum_first_firsts own k (a ∷ list) (w ∷ numbers) e, sum_first_firsts other k (a ∷ list) (w ∷ numbers) e, near k (omega (arith, many, l))))
    (omega (arith, sum_firsts own (a ∷ list) (w ∷ numbers) e, sum_firsts other (a ∷ list) (w ∷ numbers) e, level)) in
    let flat : up w + down w ≤ up w + down w = omega arith in
    let bound = guard (λ (w : ℕ × ℤ). up w.1) (λ w. down w.1) (λ w. own w.0) (λ w. other w.0) (up w) (down w) 0 0 ws (flat, sinks_along w list numbers (λ w. own w.0) (λ w. other w.0) fall) all in
    let index : length numbers ≡ length (w ∷ numbers) - 1 = omega arith in
    let last : number_at (w ∷ numbers) (length numbers) ≡ number_at (w ∷ numbers) (length (w ∷ numbers) - 1) = ap (number_at (w ∷ numbers)) index in
    let short : length numbers ≡ length list = omega (arith, e) in
    let high : last_of (λ (w : ℕ × ℤ). up w.1) (up w) (zip list numbers) ≡ up (number_at (w ∷ numbers) (length (w ∷ numbers) - 1)) = last_part up w list numbers short ∙ ap up last in
    let low : last_of (λ (w : ℕ × ℤ). down w.1) (down w) (zip list numbers) ≡ down (number_at (w ∷ numbers) (length (w ∷ numbers) - 1)) = last_part down w list numbers short ∙ ap down last in
    in_numbers (worth_sum (held_with own ws)) (worth_sum (held_with other ws)) w (number_at (w ∷ numbers) (length (w ∷ numbers) - 1))
    (omega (arith, bound, high, low, held_parts own ws, held_parts other ws))

-- the units of a rounding over an agent's whole list are its demand
whole_demand : (p : ProblemValue) (x : ScaledValue) (m : List ℕ) (i : ℕ) → IsProblem p → IsRandomAssignment p x.denominator (unit_at (column_count p) x.units)
    → Rounds (column_count p) (cells_of (guarded_family p x)) x.units x.denominator m → i < length p.agents
    → sum_by (λ a. unit_at (column_count p) m (cell_of i a)) (list_at p i) ≡ demand_at p i
whole_demand p x m i h r rounds l =
    let list = list_at p i in
    let n = column_count p in
    let all : take (length list) list ≡ list = take_all (length list) list (omega arith) in
    let filled : length list - 1 < length list = slice_get_within list (length list - 1) (length p.objects) (list_lawful p i h l).last in
    let total : prefix_sum (unit_at n x.units) i list (length list) ≡ demand_at p i * x.denominator =
    ap (sum_by (λ a. unit_at n x.units (cell_of i a))) all ∙ sym (row_on_list p (unit_at n x.units) i h l r.listed) ∙ r.rows i l in
    let rounded = prefix_rounded p x m i (length list) h rounds l (omega arith) (omega arith) in
    sym (ap (sum_by (λ a. unit_at n m (cell_of i a))) all)
    ∙ rounded_whole (demand_at p i) x.denominator (prefix_sum (unit_at n m) i list (length list)) r.one
    (subst (λ y. IsRounded y x.denominator (prefix_sum (unit_at n m) i list (length list))) total rounded)

-- two roundings for the guarded family are near on an agent's first places
fronts_near : (p : ProblemValue) (x : ScaledValue) (one two : List ℕ) (i k : ℕ) → IsProblem p → 1 ≤ x.denominator
    → Rounds (column_count p) (cells_of (guarded_family p x)) x.units x.denominator one
    → Rounds (column_count p) (cells_of (guarded_family p x)) x.units x.denominator two → i < length p.agents → k ≤ length (list_at p i)
    → prefix_sum (unit_at (column_count p) one) i (list_at p i) k ≤ prefix_sum (unit_at (column_count p) two) i (list_at p i) k + 1
fronts_near p x one two i zero h d r s l most = omega arith
fronts_near p x one two i (suc k) h d r s l most =
    let n = column_count p in
    rounded_near (prefix_sum (unit_at n x.units) i (list_at p i) (suc k)) x.denominator (prefix_sum (unit_at n one) i (list_at p i) (suc k)) (prefix_sum (unit_at n two) i (list_at p i) (suc k)) d
    (prefix_rounded p x one i (suc k) h r l (omega arith) most) (prefix_rounded p x two i (suc k) h s l (omega arith) most)

-- the sums of number times units differ by at most the first minus the last number
pub sums_near : (p : ProblemValue) (x : ScaledValue) (one two : List ℕ) (i : ℕ) (numbers : List ℤ) → IsProblem p → x.columns ≡ column_count p
    → IsRandomAssignment p x.denominator (units_of x)
    → Rounds (column_count p) (cells_of (guarded_family p x)) x.units x.denominator one
    → Rounds (column_count p) (cells_of (guarded_family p x)) x.units x.denominator two
    → i < length p.agents → length numbers ≡ length (list_at p i) → Falls numbers
    → places_sum p i numbers (unit_at (column_count p) one)
    ≤ℤ (places_sum p i numbers (unit_at (column_count p) two) +ℤ (number_at numbers 0 -ℤ number_at numbers (length numbers - 1)))
sums_near p x one two i numbers h columns r a b l many fall =
    let n = column_count p in
    let is : IsRandomAssignment p x.denominator (unit_at (column_count p) x.units) = subst (λ (m : ℕ). IsRandomAssignment p x.denominator (unit_at m x.units)) columns r in
    list_bound (list_at p i) numbers (λ c. unit_at n one (cell_of i c)) (λ c. unit_at n two (cell_of i c)) many fall
    (λ k m. fronts_near p x one two i k h is.one a b l m)
    (whole_demand p x one i h is a l ∙ sym (whole_demand p x two i h is b l))
