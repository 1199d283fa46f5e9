-- A matrix with units off the lists that dominates an assignment is one itself once these units are left out.
use Rattle.std.proofs.Common.{◌≡◌, ℕ, ◌+◌, ◌*◌, ◌<◌, ◌≤◌, List, length, take, ap, sym, ◌∙◌, arith, Bool, true, false, cond, inl, inr, All}
use Rattle.std.specs.Prelude.{sum_by, nat_eq}
use Rattle.std.specs.Set.{is_member}
use Rattle.std.proofs.lemmas.Bool.{cases_lt}
use Rattle.std.proofs.lemmas.List.{take_all}
use Rattle.std.proofs.lemmas.List.Elements.{All-weaker, All-take, All-from_get_or, recursion_from_All}
use Rattle.std.proofs.lemmas.List.Sums.{sum_by-le-sum_by}
use Rattle.std.proofs.Math.Nat.{mul-add, mul_comm, mul_assoc, mul-le-mul_left}
use Rattle.definitions.specs.declared.Cell.{Cell}
use Rattle.definitions.specs.Sets.{cell_of, holds, set_sum, row_sum, row_cells, prefix_sum}
use Rattle.definitions.specs.Values.{ProblemValue, IsProblem, PricesValue, column_count, list_at, demand_at, listed_cells, limits_of}
use Rattle.definitions.specs.Assignment.{IsRandomAssignment, Dominates}
use Rattle.definitions.specs.Certificate.{Certifies}
use Rattle.definitions.proofs.Members.{number_test, member_at}
use Rattle.definitions.proofs.Sums.{sum_same_all}
use Rattle.definitions.proofs.Listed.{row_on_list, column_listed}
use Rattle.certificate_laws.proofs.Limits.{IsKept}
use Rattle.certificate_laws.proofs.Dominance.{undominated}

-- the matrix with 0 off the lists
abbrev pub on_lists : ProblemValue → (Cell → ℕ) → Cell → ℕ
on_lists p x c = cond (holds (listed_cells p) c) (x c) 0

no_more : (b : Bool) (n : ℕ) → cond b n 0 ≤ n
no_more true n = omega arith
no_more false n = omega arith

-- a factor above 0 is cancelled
cancelled : (d a b : ℕ) → 1 ≤ d → d * a ≤ d * b → a ≤ b
cancelled d a b one h = elim (cases_lt b a) [
  | inl less ↦ (let m : d * (b + 1) ≤ d * a = mul-le-mul_left d (let l : b + 1 ≤ a = omega arith in l) in absurd (omega (arith, m, mul-add d b 1)))
  | inr more ↦ more
]

-- the places of a list keep their units
pub prefix_kept : (p : ProblemValue) (x : Cell → ℕ) (i k : ℕ) → i < length p.lists → prefix_sum (on_lists p x) i (list_at p i) k ≡ prefix_sum x i (list_at p i) k
prefix_kept p x i k l =
    let list = list_at p i in
    sum_same_all (λ a. is_member nat_eq list a ≡ true) (λ a. on_lists p x (cell_of i a)) (λ a. x (cell_of i a)) (take k list)
    (λ a m. ap (λ b. cond b (x (cell_of i a)) 0) (column_listed p i a l m))
    (recursion_from_All (λ a. is_member nat_eq list a ≡ true) (take k list)
    (All-take (λ a. is_member nat_eq list a ≡ true) k list (All-from_get_or (λ a. is_member nat_eq list a ≡ true) list 0 (λ j m. member_at nat_eq number_test list j 0 m))))

-- a whole list's units are those of the row
whole_list : (p : ProblemValue) (x : Cell → ℕ) (i : ℕ) → IsProblem p → i < length p.agents → row_sum (on_lists p x) (column_count p) i ≡ prefix_sum (on_lists p x) i (list_at p i) (length (list_at p i))
whole_list p x i h l =
    row_on_list p (on_lists p x) i h l (λ c e. ap (λ b. cond b (x c) 0) e)
    ∙ sym (ap (sum_by (λ a. on_lists p x (cell_of i a))) (take_all (length (list_at p i)) (list_at p i) (omega arith)))

own_list : (p : ProblemValue) (d : ℕ) (own : Cell → ℕ) (i : ℕ) → IsProblem p → IsRandomAssignment p d own → i < length p.agents → prefix_sum own i (list_at p i) (length (list_at p i)) ≡ demand_at p i * d
own_list p d own i h r l =
    ap (sum_by (λ a. own (cell_of i a))) (take_all (length (list_at p i)) (list_at p i) (omega arith)) ∙ sym (row_on_list p own i h l r.listed) ∙ r.rows i l

-- without its units off the lists it is an assignment
pub on_lists_is : (p : ProblemValue) (d : ℕ) (own : Cell → ℕ) (e : ℕ) (other : Cell → ℕ) → IsProblem p → IsRandomAssignment p d own → 1 ≤ e
    → ((i : ℕ) → i < length p.agents → row_sum other (column_count p) i ≡ demand_at p i * e) → All (IsKept other e) (limits_of p)
    → Dominates p e other d own → IsRandomAssignment p e (on_lists p other)
on_lists_is p d own e other h r one rows kept more = record {
  one = one;
  rows = row_is;
  listed = λ c f. ap (λ b. cond b (other c) 0) f;
  kept = All-weaker (IsKept other e) (IsKept (on_lists p other) e) (λ s k. (let m = fewer s.cells in omega arith)) (limits_of p) kept;
}
  where
    fewer : (cells : List Cell) → set_sum (on_lists p other) cells ≤ set_sum other cells
    fewer cells = sum_by-le-sum_by (on_lists p other) other cells (λ c. no_more (holds (listed_cells p) c) (other c))

    row_is : (i : ℕ) → i < length p.agents → row_sum (on_lists p other) (column_count p) i ≡ demand_at p i * e
    row_is i l =
        let inside : i < length p.lists = omega (arith, h.lists_many) in
        let most : row_sum (on_lists p other) (column_count p) i ≤ row_sum other (column_count p) i = fewer (row_cells (column_count p) i) in
        let whole : row_sum (on_lists p other) (column_count p) i ≡ prefix_sum other i (list_at p i) (length (list_at p i)) =
        whole_list p other i h l ∙ prefix_kept p other i (length (list_at p i)) inside in
        let each : e * prefix_sum own i (list_at p i) (length (list_at p i)) ≤ d * prefix_sum other i (list_at p i) (length (list_at p i)) = more.each i (length (list_at p i)) l (omega arith) in
        let mine : e * prefix_sum own i (list_at p i) (length (list_at p i)) ≡ d * (demand_at p i * e) =
        ap (λ n. e * n) (own_list p d own i h r l) ∙ sym (mul_assoc e (demand_at p i) d) ∙ mul_comm (e * demand_at p i) d ∙ ap (λ n. d * n) (mul_comm e (demand_at p i)) in
        let least : demand_at p i * e ≤ prefix_sum other i (list_at p i) (length (list_at p i)) = cancelled d (demand_at p i * e) (prefix_sum other i (list_at p i) (length (list_at p i))) r.one (omega (arith, each, mine)) in
        omega (arith, most, whole, least, rows i l)

-- and it dominates what the matrix dominated
pub on_lists_dominates : (p : ProblemValue) (d : ℕ) (own : Cell → ℕ) (e : ℕ) (other : Cell → ℕ) → IsProblem p → Dominates p e other d own → Dominates p e (on_lists p other) d own
on_lists_dominates p d own e other h more =
    let (i, k, l, m, less) = more.more in
    record {
      each = λ j n f g. (let same : d * prefix_sum (on_lists p other) j (list_at p j) n ≡ d * prefix_sum other j (list_at p j) n = kept j n f in omega (arith, same, more.each j n f g));
      more = (i, k, l, m, let same : d * prefix_sum (on_lists p other) i (list_at p i) k ≡ d * prefix_sum other i (list_at p i) k = kept i k l in omega (arith, same, less));
    }
  where
    kept : (j n : ℕ) → j < length p.agents → d * prefix_sum (on_lists p other) j (list_at p j) n ≡ d * prefix_sum other j (list_at p j) n
    kept j n f = ap (λ m. d * m) (prefix_kept p other j n (omega (arith, h.lists_many)))

-- nor does a matrix with units off the lists dominate a certified assignment
pub undominated_off_lists : (p : ProblemValue) (y : PricesValue) (d : ℕ) (own : Cell → ℕ) (e : ℕ) (other : Cell → ℕ) → IsProblem p
    → IsRandomAssignment p d own → Certifies p d own y → 1 ≤ e
    → ((i : ℕ) → i < length p.agents → row_sum other (column_count p) i ≡ demand_at p i * e) → All (IsKept other e) (limits_of p)
    → Dominates p e other d own → ⊥
undominated_off_lists p y d own e other h r v one rows kept more =
    undominated p y d own e (on_lists p other) h r v (on_lists_is p d own e other h r one rows kept more) (on_lists_dominates p d own e other h more)
