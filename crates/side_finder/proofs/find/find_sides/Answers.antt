use Rattle.std.proofs.Common.{ℕ, List, Option, false, map, refl, sym, subst}
use Rattle.std.specs.Prelude.{IsTrue, nat_eq}
use Rattle.std.specs.List.{IsDistinct}
use Rattle.definitions.specs.Sets.{cells_of}
use Rattle.definitions.specs.Sides.{IsOddRing, IsSplit}
use Rattle.side_finder.specs.declared.forest.Mark.{Mark}
use Rattle.side_finder.specs.Answers.{IsTheSplit}
use Rattle.side_finder.specs.Marks.{AreAllMarked, side_of}
use Rattle.side_finder.proofs.Finding.{color, distinct_ring, exact_ring, odd_ring, pair, split, the_split, ways}
use Rattle.side_finder.proofs.find.find_sides.Goals as goal

pub ring_of-requires-clause-ways : goal.ring_of-requires-clause-ways
ring_of-requires-clause-ways c =
    let f = c.args.family.now in
    let g = c.in_ok-crossings.crossings in
    let marks : List (Option Mark) = c.as_slice-marks.result.now in
    let all = subst (λ (xs : List (Option Mark)). AreAllMarked g xs) (sym c.as_slice-marks.ensures.value) c.in_ok-forest.ensures in
    ways (cells_of f) g marks c.in_ok-crossings.ensures.graph c.in_ok-crossings.ensures.lawful all

pub ring_of-requires-clause-pair : goal.ring_of-requires-clause-pair
ring_of-requires-clause-pair c =
    let f = c.args.family.now in
    let g = c.in_ok-crossings.crossings in
    let marks : List (Option Mark) = c.as_slice-marks.result.now in
    let all = subst (λ (xs : List (Option Mark)). AreAllMarked g xs) (sym c.as_slice-marks.ensures.value) c.in_ok-forest.ensures in
    pair (cells_of f) g marks c.in_ok-crossings.ensures.graph c.in_ok-crossings.ensures.lawful all c.in-Some.pair.0 c.in-Some.pair.1 c.in-Some.ensures

pub returns-in-Some-clause-ring : goal.returns-in-Some-clause-ring
returns-in-Some-clause-ring c =
    let f = c.args.family.now in
    let g = c.in_ok-crossings.crossings in
    let marks : List (Option Mark) = c.as_slice-marks.result.now in
    let all = subst (λ (xs : List (Option Mark)). AreAllMarked g xs) (sym c.as_slice-marks.ensures.value) c.in_ok-forest.ensures in
    subst (λ (xs : List ℕ). IsOddRing (cells_of f) xs) (sym c.in_ok-ring-in-Some.ensures) (odd_ring (cells_of f) g marks c.in_ok-crossings.ensures.graph c.in_ok-crossings.ensures.lawful all c.in-Some.pair.0 c.in-Some.pair.1 c.in-Some.ensures)

pub returns-in-Some-clause-distinct : goal.returns-in-Some-clause-distinct
returns-in-Some-clause-distinct c =
    let f = c.args.family.now in
    let g = c.in_ok-crossings.crossings in
    let marks : List (Option Mark) = c.as_slice-marks.result.now in
    let all = subst (λ (xs : List (Option Mark)). AreAllMarked g xs) (sym c.as_slice-marks.ensures.value) c.in_ok-forest.ensures in
    subst (λ (xs : List ℕ). IsDistinct nat_eq xs) (sym c.in_ok-ring-in-Some.ensures) (distinct_ring (cells_of f) g marks c.in_ok-crossings.ensures.graph c.in_ok-crossings.ensures.lawful all c.in-Some.pair.0 c.in-Some.pair.1 c.in-Some.ensures)

pub returns-in-Some-clause-exact : goal.returns-in-Some-clause-exact
returns-in-Some-clause-exact c =
    let f = c.args.family.now in
    let g = c.in_ok-crossings.crossings in
    let marks : List (Option Mark) = c.as_slice-marks.result.now in
    let all = subst (λ (xs : List (Option Mark)). AreAllMarked g xs) (sym c.as_slice-marks.ensures.value) c.in_ok-forest.ensures in
    (λ e. exact_ring f _ (odd_ring (cells_of f) g marks c.in_ok-crossings.ensures.graph c.in_ok-crossings.ensures.lawful all c.in-Some.pair.0 c.in-Some.pair.1 c.in-Some.ensures), λ none. refl)

pub returns-clause-split : goal.returns-clause-split
returns-clause-split c =
    let f = c.args.family.now in
    let g = c.in_ok-crossings.crossings in
    let marks : List (Option Mark) = c.as_slice-marks.result.now in
    let all = subst (λ (xs : List (Option Mark)). AreAllMarked g xs) (sym c.as_slice-marks.ensures.value) c.in_ok-forest.ensures in
    subst (λ (xs : List ℕ). IsSplit (cells_of f) xs) (sym c.in_ok-sides-in-None.ensures) (split (cells_of f) g marks c.in_ok-crossings.ensures.graph c.in_ok-crossings.ensures.lawful all c.in-None.ensures)

pub returns-clause-one : goal.returns-clause-one
returns-clause-one c =
    let f = c.args.family.now in
    let g = c.in_ok-crossings.crossings in
    let marks : List (Option Mark) = c.as_slice-marks.result.now in
    let all = subst (λ (xs : List (Option Mark)). AreAllMarked g xs) (sym c.as_slice-marks.ensures.value) c.in_ok-forest.ensures in
    subst (λ (xs : List ℕ). IsTheSplit (cells_of f) xs) (sym c.in_ok-sides-in-None.ensures) (the_split (cells_of f) g marks c.in_ok-crossings.ensures.graph c.in_ok-crossings.ensures.lawful all c.in-None.ensures)

pub returns-clause-exact : goal.returns-clause-exact
returns-clause-exact c =
    let f = c.args.family.now in
    let g = c.in_ok-crossings.crossings in
    let marks : List (Option Mark) = c.as_slice-marks.result.now in
    let all = subst (λ (xs : List (Option Mark)). AreAllMarked g xs) (sym c.as_slice-marks.ensures.value) c.in_ok-forest.ensures in
    (λ e. absurd (not_so e), λ none. absurd (none (map side_of marks) (color (cells_of f) g marks c.in_ok-crossings.ensures.graph c.in_ok-crossings.ensures.lawful all c.in-None.ensures)))
  where
    not_so : IsTrue false → ⊥
    not_so e = cc e
