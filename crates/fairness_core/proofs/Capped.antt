-- What tells two agents apart in a lawful problem: a capped cell does, and then only the stated sets.
use Rattle.std.proofs.Common.{◌≡◌, ℕ, suc, ◌-◌, ◌<◌, ◌≤◌, ◌∙◌, List, [], ◌∷◌, true, false, ◌&&◌, length, get_or, Some, refl, sym, ap, subst, inl, inr, arith, All}
use Rattle.std.specs.Prelude.{nat_eq, nat_le, nat_lt, ◌==◌, slice_get}
use Rattle.std.specs.Set.{is_member}
use Rattle.std.proofs.lemmas.Bool.{and_parts, and_from, and_left, both_ways, cases_lt, cases_eq, or_left, or_from, or_cases, lt-ltb, ltb-true, leb-true, le-leb, eqb-true, eq-eqb, ne_eqb}
use Rattle.std.proofs.lemmas.Option.{same_Some, slice_get_within, get_or_from_slice_get}
use Rattle.std.proofs.lemmas.List.Elements.{recursion_from_All, filter_passes}
use Rattle.definitions.specs.declared.Cell.{Cell}
use Rattle.definitions.specs.Sets.{cell_of, same_cell, holds}
use Rattle.definitions.specs.Values.{Limit, ProblemValue, IsProblem, IsListUpTo, is_capped, list_at, demand_at, listed_cells, limits_of, stated_sets}
use Rattle.definitions.specs.Laws.{limit_of_cell, capped_cells}
use Rattle.definitions.specs.Fairness.{IsAlike}
use Rattle.definitions.proofs.Members.{number_test, cell_test, distinct_first, member_at}
use Rattle.definitions.proofs.Lists.{each_at}
use Rattle.definitions.proofs.Problems.{list_lawful}
use Rattle.definitions.proofs.Capped.{each_stated, each_limit, own_limit, capped_below}
use Rattle.fairness_core.specs.Alike.{HasCappedCell, HoldsAlike}

-- a list of two columns or more has one of an object
object_listed : (none : ℕ) (list : List ℕ) → IsListUpTo none list → 2 ≤ length list → (a : ℕ) × (a < none) × (is_member nat_eq list a ≡ true)
object_listed none [] h l = absurd (omega (arith, l))
object_listed none (a ∷ []) h l = absurd (omega (arith, l))
object_listed none (a ∷ b ∷ list) h l = (a, less, or_left (nat_eq a a) (is_member nat_eq (b ∷ list) a) (eq-eqb a a refl))
  where
    last : slice_get (b ∷ list) (length list) ≡ Some none
    last = (let place : length (a ∷ b ∷ list) - 1 ≡ suc (length list) = omega arith in sym (ap (slice_get (a ∷ b ∷ list)) place) ∙ h.last)

    found : is_member nat_eq (b ∷ list) none ≡ true
    found =
        subst (λ n. is_member nat_eq (b ∷ list) n ≡ true) (get_or_from_slice_get (b ∷ list) (length list) none 0 last)
        (member_at nat_eq number_test (b ∷ list) (length list) 0 (slice_get_within (b ∷ list) (length list) none last))

    other : a ≡ none → ⊥
    other e = both_ways (is_member nat_eq (b ∷ list) a) (distinct_first nat_eq a (b ∷ list) h.apart) (subst (λ n. is_member nat_eq (b ∷ list) n ≡ true) (sym e) found)

    less : a < none
    less = (let within : a ≤ none = h.known 0 a (omega arith) in elim (cases_eq a none) [ inl e ↦ absurd (other e) | inr apart ↦ below within apart ])
      where
        below : a ≤ none → (a ≡ none → ⊥) → a < none
        below within apart = elim (cases_lt a none) [ inl l ↦ l | inr m ↦ absurd (apart (omega (arith, within, m))) ]

-- and a list with a column of an object has two
two_listed : (none a : ℕ) (list : List ℕ) → IsListUpTo none list → a < none → is_member nat_eq list a ≡ true → 2 ≤ length list
two_listed none a [] h l m = absurd (both_ways false refl m)
two_listed none a (b ∷ []) h l m = elim (or_cases (nat_eq a b) false m) [
  | inl here ↦
      let same : a ≡ b = eqb-true a b here in
      let last : b ≡ none = same_Some b none h.last in
      absurd (omega (arith, same, last, l))
  | inr there ↦ absurd (both_ways false refl there)
]
two_listed none a (b ∷ c ∷ list) h l m = omega arith

-- an agent has a capped cell exactly where its demand is at least 2 and its list has two columns
pub capped_where : (p : ProblemValue) (i : ℕ) → IsProblem p → i < length p.agents → 2 ≤ demand_at p i → 2 ≤ length (list_at p i) → HasCappedCell p i
capped_where p i h l d n =
    let (a, less, m) = object_listed (length p.objects) (list_at p i) (list_lawful p i h l) n in (
      a,
      and_from (nat_le 2 (demand_at p i)) (is_member nat_eq (list_at p i) a && nat_lt a (length p.objects)) (le-leb 2 (demand_at p i) d)
          (and_from (is_member nat_eq (list_at p i) a) (nat_lt a (length p.objects)) m (lt-ltb a (length p.objects) less)),
    )

pub capped_needs : (p : ProblemValue) (i : ℕ) → IsProblem p → i < length p.agents → HasCappedCell p i → (2 ≤ demand_at p i) × (2 ≤ length (list_at p i))
capped_needs p i h l (a, e) =
    let one = and_parts (nat_le 2 (demand_at p i)) (is_member nat_eq (list_at p i) a && nat_lt a (length p.objects)) e in
    let two = and_parts (is_member nat_eq (list_at p i) a) (nat_lt a (length p.objects)) one.1 in
    (leb-true 2 (demand_at p i) one.0, two_listed (length p.objects) a (list_at p i) (list_lawful p i h l) (ltb-true a (length p.objects) two.1) two.0)

-- another agent's cell isn't the only one of a set
alone : (i b : ℕ) (c : Cell) → (i ≡ c.agent → ⊥) → holds (c ∷ []) (cell_of i b) ≡ false
alone i b c other = or_from (same_cell (cell_of i b) c) false (and_left (i == c.agent) (b == c.object) (ne_eqb i c.agent other)) refl

-- equal demands, no capped cells, and stated sets that hold both alike: the two are alike
pub alike_from : (p : ProblemValue) (i j : ℕ) → IsProblem p → demand_at p i ≡ demand_at p j → (HasCappedCell p i → ⊥) → (HasCappedCell p j → ⊥)
    → All (λ s. HoldsAlike (length p.objects) i j s.cells) (stated_sets p) → IsAlike p i j
alike_from p i j h demands free free' stated = record {
  demands = demands;
  sets = each_limit p h (λ s. HoldsAlike (length p.objects) i j s.cells) stated
      (λ k d l a less. alone i a (get_or (capped_cells p) k d) (λ e. free (own k d l i e)) ∙ sym (alone j a (get_or (capped_cells p) k d) (λ e. free' (own k d l j e))));
}
  where
    own : (k : ℕ) (d : Cell) → k < length (capped_cells p) → (n : ℕ) → n ≡ (get_or (capped_cells p) k d).agent → HasCappedCell p n
    own k d l n e = (
      (get_or (capped_cells p) k d).object,
      subst (λ m. is_capped p (cell_of m (get_or (capped_cells p) k d).object) ≡ true) (sym e) (filter_passes (is_capped p) (listed_cells p) k d l),
    )

-- each agent is alike to itself
pub alike_self : (p : ProblemValue) (i j : ℕ) → i ≡ j → IsAlike p i j
alike_self p i j e = subst (IsAlike p i) e (record { demands = refl; sets = λ k d l a m. refl })

pub alike_turned : (p : ProblemValue) (i j : ℕ) → IsAlike p i j → IsAlike p j i
alike_turned p i j h = record { demands = sym h.demands; sets = λ k d l a m. sym (h.sets k d l a m) }

-- an agent with a capped cell is alike to no other
pub capped_unlike : (p : ProblemValue) (i j : ℕ) → IsProblem p → (i ≡ j → ⊥) → HasCappedCell p i → IsAlike p i j → ⊥
capped_unlike p i j h other (a, e) alike =
    let (k, low, at) = own_limit p h (cell_of i a) e in
    let same = each_at (λ (s : Limit). HoldsAlike (length p.objects) i j s.cells) (limits_of p) k (limit_of_cell (cell_of i a))
    (recursion_from_All (λ (s : Limit). HoldsAlike (length p.objects) i j s.cells) (limits_of p) alike.sets) at in
    both_ways (holds (cell_of i a ∷ []) (cell_of j a)) (alone j a (cell_of i a) (λ e. other (sym e)))
    (sym (same a (capped_below p (cell_of i a) e)) ∙ or_left (same_cell (cell_of i a) (cell_of i a)) false (cell_test.self (cell_of i a)))

-- the stated sets hold alike agents alike
pub stated_alike : (p : ProblemValue) (i j : ℕ) → IsAlike p i j → All (λ s. HoldsAlike (length p.objects) i j s.cells) (stated_sets p)
stated_alike p i j h = each_stated (λ s. HoldsAlike (length p.objects) i j s.cells) p h.sets
