-- What follows from marks of all sets: which sets are of one part, and that the sides are the one split.
use Rattle.std.proofs.Common.{◌≡◌, ℕ, zero, suc, ◌+◌, ◌-◌, ◌%◌, ◌<◌, ◌≤◌, ◌⊎◌, ◌∙◌, List, [], length, refl, sym, ap, subst, inl, inr, arith}
use Rattle.std.specs.Prelude.{slice_index}
use Rattle.std.proofs.lemmas.Bool.{both_ways, cases_lt}
use Rattle.std.proofs.lemmas.Grind.{same_number_lists}
use Rattle.std.proofs.lemmas.List.{get_or_past}
use Rattle.std.proofs.lemmas.List.Elements.{All-from_get_or}
use Rattle.std.proofs.lemmas.Option.{unwrap_or-slice_get}
use Rattle.definitions.specs.declared.Cell.{Cell}
use Rattle.definitions.specs.Sets.{Cross, NoCrossing, cells_at, crosses}
use Rattle.definitions.specs.Sides.{CrossAt, IsColoring, IsLeastOfPart, IsSplit, Linked}
use Rattle.definitions.proofs.Members.{around_apart}

-- so many steps up each set is the first of its part, and sets that cross are of one part and at most one step apart
pub record AreLevels (sets : List (List Cell)) (up depth start : ℕ → ℕ) : Type 0 where
  pub turned : (a b : ℕ) → a < length sets → b < length sets → CrossAt sets a b → CrossAt sets b a
  pub step : (v : ℕ) → v < length sets → ((depth v ≡ 0) × (start v ≡ v))
      ⊎ ((up v < length sets) × CrossAt sets (up v) v × (depth v ≡ depth (up v) + 1) × (start (up v) ≡ start v))
  pub low : (v : ℕ) → v < length sets → start v ≤ v
  pub level : (v w : ℕ) → v < length sets → w < length sets → CrossAt sets v w → (start w ≡ start v) × (depth w ≤ depth v + 1)

-- nothing crosses a set that isn't there
pub cross_known : (sets : List (List Cell)) (a b : ℕ) → CrossAt sets a b → b < length sets
cross_known sets a b h = elim (cases_lt b (length sets)) [
  | inl within ↦ within
  | inr past ↦
      let none : cells_at sets (b + 1) ≡ [] = unwrap_or-slice_get sets (b + 1 - 1) [] ∙ get_or_past sets (b + 1 - 1) [] (omega (arith, past)) in
      let cells : List Cell = cells_at sets (a + 1) in
      absurd (both_ways (crosses cells (cells_at sets (b + 1))) (ap (λ (x : List Cell). crosses cells x) none ∙ around_apart cells [] refl) h)
]

module _ (sets : List (List Cell)) (up depth start : ℕ → ℕ) (h : AreLevels sets up depth start) where
  -- a way from a set leads on to the first of its part
  to_start : (d a v k : ℕ) → depth v ≡ d → v < length sets → Linked sets k a v
      → (j : ℕ) × Linked sets j a (start v) × (depth (start v) ≡ 0)
  to_start zero a v k e l way = elim (h.step v l) [
    | inl first ↦ (k, subst (λ (x : ℕ). Linked sets k a x) (sym first.1) way, ap depth first.1 ∙ first.0)
    | inr next ↦ absurd (omega (arith, e, next.2))
  ]
  to_start (suc d) a v k e l way = elim (h.step v l) [
    | inl first ↦ (k, subst (λ (x : ℕ). Linked sets k a x) (sym first.1) way, ap depth first.1 ∙ first.0)
    | inr next ↦
        subst (λ (x : ℕ). (j : ℕ) × Linked sets j a x × (depth x ≡ 0)) next.3
        (to_start d a (up v) (suc k) (omega (arith, e, next.2)) next.0 (v, l, way, h.turned (up v) v next.0 l next.1))
  ]

  -- all that are reached from a set are of its part
  along : (k a b : ℕ) → a < length sets → Linked sets k a b → (b < length sets) × (start b ≡ start a)
  along zero a b l way = (subst (λ (x : ℕ). x < length sets) way l, ap start (sym way))
  along (suc k) a b l (c, inside, way, cross) =
      let known = cross_known sets c b cross in
      (known, (h.level c b inside known cross).0 ∙ (along k a c l way).1)

  -- the least of a part is the first of it
  pub least_is_first : (a : ℕ) → a < length sets → IsLeastOfPart sets a → depth a ≡ 0
  least_is_first a l least =
      let (j, way, none) = to_start (depth a) a a 0 refl l refl in
      let low = h.low a l in
      let high = least j (start a) way in
      let same : start a ≡ a = omega (arith, low, high) in
      sym (ap depth same) ∙ none

  -- and the other way round
  pub first_is_least : (v : ℕ) → v < length sets → depth v ≡ 0 → IsLeastOfPart sets v
  first_is_least v l none k b way =
      let reached = along k v b l way in
      elim (h.step v l) [
        | inl first ↦ (let low = h.low b reached.0 in omega (arith, low, reached.1, first.1))
        | inr next ↦ absurd (omega (arith, none, next.2))
      ]

  -- crossing sets at depths of one parity are of one depth
  pub one_depth : (a b : ℕ) → a < length sets → b < length sets → CrossAt sets a b → 1 + depth a % 2 ≡ 1 + depth b % 2 → (depth a ≡ depth b) × (start a ≡ start b)
  one_depth a b first second cross even =
      let there = h.level a b first second cross in
      let back = h.level b a second first (h.turned a b first second cross) in
      (omega (arith, even, there.1, back.1), sym there.0)

  module _ (sides : List ℕ) (many : length sides ≡ length sets) (right : (v : ℕ) → v < length sets → slice_index sides v ≡ 1 + depth v % 2)
      (proper : (a b : ℕ) → a < length sets → b < length sets → CrossAt sets a b → 1 + depth a % 2 ≡ 1 + depth b % 2 → ⊥) where
    none_cross : NoCrossing sets sides
    none_cross s t one other same cross =
        let back_s : s - 1 + 1 ≡ s = omega (arith, one.0) in
        let back_t : t - 1 + 1 ≡ t = omega (arith, other.0) in
        let low_s : s - 1 < length sets = omega (arith, one.0, one.1) in
        let low_t : t - 1 < length sets = omega (arith, other.0, other.1) in
        proper (s - 1) (t - 1) low_s low_t
        (subst (λ (x : ℕ). Cross sets x (t - 1 + 1)) (sym back_s) (subst (λ (x : ℕ). Cross sets s x) (sym back_t) cross))
        (sym (right (s - 1) low_s) ∙ same ∙ right (t - 1) low_t)

    pub sides_color : IsColoring sets sides
    sides_color = record {
      many = many;
      two = All-from_get_or (λ (x : ℕ). (x ≡ 1) ⊎ (x ≡ 2)) sides 0 (λ k l. one_or_two (slice_index sides k) (depth k) (right k (omega (arith, l, many))));
      apart = none_cross;
    }
      where
        one_or_two : (x d : ℕ) → x ≡ 1 + d % 2 → (x ≡ 1) ⊎ (x ≡ 2)
        one_or_two x d e = elim (cases_lt (d % 2) 1) [ inl l ↦ inl (omega (arith, e, l)) | inr l ↦ inr (omega (arith, e, l)) ]

    pub sides_split : IsSplit sets sides
    sides_split = record {
      coloring = sides_color;
      least_is_one = λ a l least. (let none = least_is_first a l least in let side = right a l in omega (arith, none, side));
    }

    other_side : (x y d : ℕ) → (x ≡ 1) ⊎ (x ≡ 2) → (y ≡ x → ⊥) → y ≡ 1 + d % 2 → x ≡ 1 + (d + 1) % 2
    other_side x y d (inl one) differ e = elim (cases_lt (d % 2) 1) [ inl low ↦ absurd (differ (omega (arith, one, e, low))) | inr high ↦ omega (arith, one, high) ]
    other_side x y d (inr two) differ e = elim (cases_lt (d % 2) 1) [ inl low ↦ omega (arith, two, low) | inr high ↦ absurd (differ (omega (arith, two, e, high))) ]

    -- another split agrees at each set
    agrees : (others : List ℕ) → IsSplit sets others → (d v : ℕ) → depth v ≡ d → v < length sets → slice_index others v ≡ 1 + depth v % 2
    agrees others split zero v e l = elim (h.step v l) [
      | inl first ↦ (let one = split.least_is_one v l (first_is_least v l first.0) in let none = first.0 in omega (arith, one, none))
      | inr next ↦ absurd (omega (arith, e, next.2))
    ]
    agrees others split (suc d) v e l = elim (h.step v l) [
      | inl first ↦ (let one = split.least_is_one v l (first_is_least v l first.0) in let none = first.0 in omega (arith, one, none))
      | inr next ↦
          let upper = agrees others split d (up v) (omega (arith, e, next.2)) next.0 in
          let here : v + 1 - 1 ≡ v = omega arith in
          let there : up v + 1 - 1 ≡ up v = omega arith in
          let side = split.coloring.two v 0 (let many = split.coloring.many in omega (arith, l, many)) in
          let differ : slice_index others (up v) ≡ slice_index others v → ⊥ = λ same.
          split.coloring.apart (up v + 1) (v + 1) (omega arith, omega (arith, next.0)) (omega arith, omega (arith, l))
          (ap (λ (i : ℕ). slice_index others i) there ∙ same ∙ sym (ap (λ (i : ℕ). slice_index others i) here)) next.1 in
          other_side (slice_index others v) (slice_index others (up v)) (depth (up v)) side differ upper ∙ ap (λ (d : ℕ). 1 + d % 2) (sym next.2)
    ]

    pub one_split : (others : List ℕ) → IsSplit sets others → others ≡ sides
    one_split others split =
        let count = split.coloring.many in
        same_number_lists others sides (count ∙ sym many) (λ k l. (let inside : k < length sets = omega (arith, l, count) in agrees others split (depth k) k refl inside ∙ sym (right k inside)))
