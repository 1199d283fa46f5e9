-- Least numbers over lists of limits, part by part.
use Rattle.std.proofs.Common.{◌≡◌, ℕ, suc, zero, ◌+◌, ◌-◌, ◌<◌, ◌≤◌, List, [], ◌∷◌, Bool, true, false, cond, length, get_or, drop, refl, ap, sym, ◌∙◌, arith, inl, inr, subst, Option}
use Rattle.std.specs.Prelude.{min, nat_le, count_by, ◌==◌, slice_get}
use Rattle.std.specs.Option.{option_map_or}
use Rattle.std.proofs.lemmas.Bool.{cases_lt, cases_Bool, le-leb, lt-leb, eqb-true}
use Rattle.std.proofs.lemmas.List.{at_drop_more, at_drop_all, get_or-drop, length-drop}
use Rattle.std.proofs.lemmas.List.Sums.{sum_by-cons}
use Rattle.definitions.specs.Sets.{cell_of, holds}
use Rattle.definitions.specs.Values.{Limit, Market}
use Rattle.definitions.specs.Eating.{full_at, moment_at}
use Rattle.eating_laws.proofs.Full.{cells_at, full_le, full_below, full_from}
use Rattle.eating_laws.proofs.Holders.{IsHolders, holder_holds, least_of}
use Rattle.eating.specs.Plan.{least_from}

pub least_none : (D : ℕ) (e : List ℕ) → least_of D e [] ≡ D
unfolding least_of
least_none D e = refl

least_cons : (D : ℕ) (e : List ℕ) (h : ℕ) (holders : List ℕ) → least_of D e (h ∷ holders) ≡ min (moment_at e h) (least_of D e holders)
unfolding least_of
least_cons D e h holders = refl

-- one limit more of what is left of a list
pub least_more : (D : ℕ) (e holders : List ℕ) (i : ℕ) → i < length holders → least_of D e (drop i holders) ≡ min (moment_at e (get_or holders i 0)) (least_of D e (drop (i + 1) holders))
least_more D e holders i l = at_drop_more (least_of D e) holders i 0 l ∙ least_cons D e (get_or holders i 0) (drop (i + 1) holders)

pub least_all : (D : ℕ) (e holders : List ℕ) (i : ℕ) → length holders ≤ i → least_of D e (drop i holders) ≡ D
least_all D e holders i l = at_drop_all (least_of D e) holders i l ∙ least_none D e

-- the same of the limits from `first` on
pub from_le : (D : ℕ) (e : List ℕ) (first : ℕ) (holders : List ℕ) → least_from D e first holders ≤ D
unfolding least_from
from_le D e first [] = omega arith
from_le D e first (h ∷ holders) = pick (nat_le first h) (moment_at e h) (least_from D e first holders) (from_le D e first holders)
  where
    pick : (b : Bool) (x y : ℕ) → y ≤ D → cond b (min x y) y ≤ D
    pick true x y k = omega arith
    pick false x y k = k

from_cons : (D : ℕ) (e : List ℕ) (first h : ℕ) (holders : List ℕ)
    → least_from D e first (h ∷ holders) ≡ cond (nat_le first h) (min (moment_at e h) (least_from D e first holders)) (least_from D e first holders)
unfolding least_from
from_cons D e first h holders = refl

pub from_more_in : (D : ℕ) (e : List ℕ) (first : ℕ) (holders : List ℕ) (i : ℕ) → i < length holders → first ≤ get_or holders i 0
    → least_from D e first (drop i holders) ≡ min (moment_at e (get_or holders i 0)) (least_from D e first (drop (i + 1) holders))
from_more_in D e first holders i l k =
    at_drop_more (least_from D e first) holders i 0 l ∙ from_cons D e first (get_or holders i 0) (drop (i + 1) holders)
    ∙ ap (λ b. cond b (min (moment_at e (get_or holders i 0)) (least_from D e first (drop (i + 1) holders))) (least_from D e first (drop (i + 1) holders))) (le-leb first (get_or holders i 0) k)

pub from_more_out : (D : ℕ) (e : List ℕ) (first : ℕ) (holders : List ℕ) (i : ℕ) → i < length holders → get_or holders i 0 < first
    → least_from D e first (drop i holders) ≡ least_from D e first (drop (i + 1) holders)
from_more_out D e first holders i l k =
    at_drop_more (least_from D e first) holders i 0 l ∙ from_cons D e first (get_or holders i 0) (drop (i + 1) holders)
    ∙ ap (λ b. cond b (min (moment_at e (get_or holders i 0)) (least_from D e first (drop (i + 1) holders))) (least_from D e first (drop (i + 1) holders))) (lt-leb first (get_or holders i 0) k)

pub from_all : (D : ℕ) (e : List ℕ) (first : ℕ) (holders : List ℕ) (i : ℕ) → length holders ≤ i → least_from D e first (drop i holders) ≡ D
unfolding least_from
from_all D e first holders i l = at_drop_all (least_from D e first) holders i l ∙ none
  where
    none : least_from D e first [] ≡ D
    none = refl

from_below : (D : ℕ) (e : List ℕ) (first : ℕ) (holders : List ℕ) (j : ℕ) → first ≤ j → 0 < count_by (λ h. h == j) holders → least_from D e first holders ≤ moment_at e j
unfolding least_from
from_below D e first [] j f k = absurd (omega arith)
from_below D e first (h ∷ holders) j f k = elim (cases_Bool (h == j)) [
  | inl here ↦
      let same : h ≡ j = eqb-true h j here in
      let low : nat_le first h ≡ true = le-leb first h (omega arith) in
      let is = ap (λ b. cond b (min (moment_at e h) (least_from D e first holders)) (least_from D e first holders)) low in
      omega (arith, is, ap (moment_at e) same)
  | inr other ↦
      let none = ap {B = ℕ} (λ b. cond b 1 0) other in
      pick (nat_le first h) (moment_at e h) (least_from D e first holders) (from_below D e first holders j f (omega (arith, k, none, sum_by-cons (λ x. cond (x == j) 1 0) h holders)))
]
  where
    pick : (b : Bool) (x y : ℕ) → y ≤ moment_at e j → cond b (min x y) y ≤ moment_at e j
    pick true x y p = omega arith
    pick false x y p = p

from_from : (D n : ℕ) (e : List ℕ) (first : ℕ) (holders : List ℕ) → n ≤ D → ((k : ℕ) → k < length holders → first ≤ get_or holders k 0 → n ≤ moment_at e (get_or holders k 0)) → n ≤ least_from D e first holders
unfolding least_from
from_from D n e first [] d h = d
from_from D n e first (x ∷ holders) d h = elim (cases_lt x first) [
  | inl less ↦
      let is = ap (λ b. cond b (min (moment_at e x) (least_from D e first holders)) (least_from D e first holders)) (lt-leb first x less) in
      omega (arith, is, from_from D n e first holders d (λ k l f. h (suc k) (omega arith) f))
  | inr more ↦
      let is = ap (λ b. cond b (min (moment_at e x) (least_from D e first holders)) (least_from D e first holders)) (le-leb first x more) in
      omega (arith, is, h 0 (omega arith) more, from_from D n e first holders d (λ k l f. h (suc k) (omega arith) f))
]

later_cells : (limits : List Limit) (first j : ℕ) → cells_at (drop first limits) j ≡ cells_at limits (first + j)
later_cells limits first j = ap (λ (o : Option Limit). option_map_or (λ (s : Limit). s.cells) o []) (at limits first j)
  where
    at : (limits : List Limit) (first j : ℕ) → slice_get (drop first limits) j ≡ slice_get limits (first + j)
    at limits zero j = ap (slice_get limits) (let e : j ≡ 0 + j = omega arith in e)
    at [] (suc first) j = none (suc first + j)
      where
        none : (k : ℕ) → slice_get {X = Limit} [] j ≡ slice_get {X = Limit} [] k
        none k = refl
    at (s ∷ limits) (suc first) j = at limits first j ∙ ap (slice_get (s ∷ limits)) (let e : suc (first + j) ≡ suc first + j = omega arith in e)

-- over the holders of a cell it is the moment from which the later limits are full there
pub full_from_holders : (market : Market) (D first : ℕ) (e holders : List ℕ) (i a : ℕ) → length e ≡ length market.limits → IsHolders market i a holders
    → least_from D e first holders ≡ full_at D (drop first market.limits) (drop first e) i a
full_from_holders market D first e holders i a size h =
    let up : least_from D e first holders ≤ full_at D (drop first market.limits) (drop first e) i a =
    full_from D (drop first market.limits) (drop first e) i a (least_from D e first holders) (from_le D e first holders)
    (λ j l held. subst (λ n. least_from D e first holders ≤ n) (sym (get_or-drop first e j 0))
    (from_below D e first holders (first + j) (omega arith)
    (let inside : first + j < length market.limits = omega (arith, l, length-drop first e, size) in
    let one = h.once (first + j) inside ∙ ap {B = ℕ} (λ b. cond b 1 0) (ap (λ cells. holds cells (cell_of i a)) (sym (later_cells market.limits first j)) ∙ held) in omega (arith, one)))) in
    let down : full_at D (drop first market.limits) (drop first e) i a ≤ least_from D e first holders =
    from_from D (full_at D (drop first market.limits) (drop first e) i a) e first holders (full_le D (drop first market.limits) (drop first e) i a)
    (λ k l f. low k l f) in
    omega arith
  where
    low : (k : ℕ) → k < length holders → first ≤ get_or holders k 0 → full_at D (drop first market.limits) (drop first e) i a ≤ moment_at e (get_or holders k 0)
    low k l f =
        let j = get_or holders k 0 in
        let place : first + (j - first) ≡ j = omega arith in
        let inside : j < length market.limits = h.inside k 0 l in
        subst (λ n. full_at D (drop first market.limits) (drop first e) i a ≤ n) (get_or-drop first e (j - first) 0 ∙ ap (moment_at e) place)
        (full_below D (drop first market.limits) (drop first e) i a (j - first) (omega (arith, length-drop first e, size))
        (ap (λ cells. holds cells (cell_of i a)) (later_cells market.limits first (j - first) ∙ ap (cells_at market.limits) place) ∙ holder_holds market holders i a h k l))
