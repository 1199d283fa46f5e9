-- What an assignment is worth, as gains less losses in whole numbers.
use Rattle.std.proofs.Common.{◌≡◌, ℕ, ◌+◌, ◌*◌, ◌<◌, ◌≤◌, List, [], ◌∷◌, length, refl, ap, sym, ◌∙◌, arith, ℤ, pos, ◌*ℤ◌, ◌≤ℤ◌, ◌<ℤ◌}
use Rattle.std.specs.Prelude.{sum_by, flat_map}
use Rattle.std.specs.List.{range_with_len, zip}
use Rattle.std.proofs.lemmas.List.Sums.{sum_by-cons}
use Rattle.std.proofs.Math.Nat.{mul-add, mul_comm, mul_assoc}
use borrow.Author.Differences.{up, down, at_most_in, below_in, product_is, sum_is_lem}
use Rattle.definitions.specs.declared.Cell.{Cell}
use Rattle.definitions.specs.Sets.{cell_of}
use Rattle.definitions.specs.Values.{ProblemValue, list_at, PricesValue, worths_of}
use Rattle.definitions.specs.Assignment.{Held, held_by, worth_sum, worth_total}
use Rattle.definitions.proofs.Sums.{sum_same, sum_scaled, sum_mapped, sum_flat}

-- a sum over the places of all lists, by agent and by column and worth
abbrev pub over_places : ProblemValue → PricesValue → (ℕ → ℕ × ℤ → ℕ) → ℕ
over_places p y f = sum_by (λ i. sum_by (f i) (zip (list_at p i) (worths_of y i))) (range_with_len 0 (length p.lists))

-- worths above 0, and below 0, times units
abbrev pub gains : ProblemValue → PricesValue → (Cell → ℕ) → ℕ
gains p y x = over_places p y (λ i w. up w.1 * x (cell_of i w.0))

abbrev pub losses : ProblemValue → PricesValue → (Cell → ℕ) → ℕ
losses p y x = over_places p y (λ i w. down w.1 * x (cell_of i w.0))

pub sum_parts : (hs : List Held) → up (worth_sum hs) + sum_by (λ h. down h.worth * h.units) hs ≡ down (worth_sum hs) + sum_by (λ h. up h.worth * h.units) hs
sum_parts [] = refl
sum_parts (h ∷ hs) =
    let a : sum_by (λ (k : Held). down k.worth * k.units) (h ∷ hs) ≡ down h.worth * h.units + sum_by (λ k. down k.worth * k.units) hs = sum_by-cons (λ (k : Held). down k.worth * k.units) h hs in
    let b : sum_by (λ (k : Held). up k.worth * k.units) (h ∷ hs) ≡ up h.worth * h.units + sum_by (λ k. up k.worth * k.units) hs = sum_by-cons (λ (k : Held). up k.worth * k.units) h hs in
    let p = product_is h.worth (pos h.units) in
    let s = sum_is_lem (h.worth *ℤ pos h.units) (worth_sum hs) in
    omega (arith, a, b, p.0, p.1, s, sum_parts hs)

-- a place with its worth and the units of x
abbrev held_at : (Cell → ℕ) → ℕ → ℕ × ℤ → Held
held_at x i w = record { worth = w.1; units = x (cell_of i w.0) }

-- a total worth is its gains less its losses
pub total_parts : (p : ProblemValue) (y : PricesValue) (x : Cell → ℕ) → up (worth_total p y x) + losses p y x ≡ down (worth_total p y x) + gains p y x
total_parts p y x =
    let agents = range_with_len 0 (length p.lists) in
    let a : sum_by (λ (h : Held). down h.worth * h.units) (flat_map (held_by p y x) agents) ≡ losses p y x =
    sum_flat (λ (h : Held). down h.worth * h.units) (held_by p y x) agents
    ∙ sum_same (λ i. sum_by (λ (h : Held). down h.worth * h.units) (held_by p y x i)) (λ i. sum_by (λ (w : ℕ × ℤ). down w.1 * x (cell_of i w.0)) (zip (list_at p i) (worths_of y i))) agents
    (λ i. sum_mapped (λ (h : Held). down h.worth * h.units) (held_at x i) (zip (list_at p i) (worths_of y i))) in
    let b : sum_by (λ (h : Held). up h.worth * h.units) (flat_map (held_by p y x) agents) ≡ gains p y x =
    sum_flat (λ (h : Held). up h.worth * h.units) (held_by p y x) agents
    ∙ sum_same (λ i. sum_by (λ (h : Held). up h.worth * h.units) (held_by p y x i)) (λ i. sum_by (λ (w : ℕ × ℤ). up w.1 * x (cell_of i w.0)) (zip (list_at p i) (worths_of y i))) agents
    (λ i. sum_mapped (λ (h : Held). up h.worth * h.units) (held_at x i) (zip (list_at p i) (worths_of y i))) in
    omega (arith, a, b, sum_parts (flat_map (held_by p y x) agents))

-- units times d, over one denominator
abbrev pub times : ℕ → (Cell → ℕ) → Cell → ℕ
times d x c = d * x c

factor_first : (a d n : ℕ) → a * (d * n) ≡ d * (a * n)
factor_first a d n = sym (mul_assoc a d n) ∙ ap (λ m. m * n) (mul_comm a d) ∙ mul_assoc d a n

pub over_scaled : (p : ProblemValue) (y : PricesValue) (d : ℕ) (f : ℤ → ℕ) (x : Cell → ℕ)
    → over_places p y (λ i w. f w.1 * times d x (cell_of i w.0)) ≡ d * over_places p y (λ i w. f w.1 * x (cell_of i w.0))
over_scaled p y d f x =
    let agents = range_with_len 0 (length p.lists) in
    sum_same (λ i. sum_by (λ (w : ℕ × ℤ). f w.1 * (d * x (cell_of i w.0))) (zip (list_at p i) (worths_of y i))) (λ i. d * sum_by (λ (w : ℕ × ℤ). f w.1 * x (cell_of i w.0)) (zip (list_at p i) (worths_of y i))) agents
    (λ i. sum_same (λ (w : ℕ × ℤ). f w.1 * (d * x (cell_of i w.0))) (λ w. d * (f w.1 * x (cell_of i w.0))) (zip (list_at p i) (worths_of y i)) (λ w. factor_first (f w.1) d (x (cell_of i w.0)))
    ∙ sum_scaled d (λ (w : ℕ × ℤ). f w.1 * x (cell_of i w.0)) (zip (list_at p i) (worths_of y i)))
    ∙ sum_scaled d (λ i. sum_by (λ (w : ℕ × ℤ). f w.1 * x (cell_of i w.0)) (zip (list_at p i) (worths_of y i))) agents

-- a total times a denominator
scaled_total : (p : ProblemValue) (y : PricesValue) (d : ℕ) (x : Cell → ℕ) → up (pos d *ℤ worth_total p y x) + losses p y (times d x) ≡ down (pos d *ℤ worth_total p y x) + gains p y (times d x)
scaled_total p y d x =
    let m : d * up (worth_total p y x) + d * losses p y x ≡ d * down (worth_total p y x) + d * gains p y x =
    sym (mul-add d (up (worth_total p y x)) (losses p y x)) ∙ ap (λ n. d * n) (total_parts p y x) ∙ mul-add d (down (worth_total p y x)) (gains p y x) in
    let q = product_is (pos d) (worth_total p y x) in
    omega (arith, m, q.0, q.1, over_scaled p y d up x, over_scaled p y d down x)

-- the inequality of integers, from one of whole numbers
pub at_most_from_parts : (p : ProblemValue) (y : PricesValue) (d e : ℕ) (own other : Cell → ℕ)
    → gains p y (times d other) + losses p y (times e own) ≤ gains p y (times e own) + losses p y (times d other)
    → (pos d *ℤ worth_total p y other) ≤ℤ (pos e *ℤ worth_total p y own)
at_most_from_parts p y d e own other h =
    at_most_in (pos d *ℤ worth_total p y other) (pos e *ℤ worth_total p y own) (omega (arith, h, scaled_total p y d other, scaled_total p y e own))

pub below_from_parts : (p : ProblemValue) (y : PricesValue) (d e : ℕ) (own other : Cell → ℕ)
    → gains p y (times e own) + losses p y (times d other) < gains p y (times d other) + losses p y (times e own)
    → (pos e *ℤ worth_total p y own) <ℤ (pos d *ℤ worth_total p y other)
below_from_parts p y d e own other h =
    below_in (pos e *ℤ worth_total p y own) (pos d *ℤ worth_total p y other) (omega (arith, h, scaled_total p y d other, scaled_total p y e own))
