-- From the marks of a family's sets to the sides or the ring.
use Rattle.std.proofs.Common.{◌≡◌, ℕ, ◌+◌, ◌%◌, ◌<◌, ◌∙◌, List, map, Option, None, length, sym, inl, inr, arith}
use Rattle.std.specs.Prelude.{nat_eq, slice_index}
use Rattle.std.specs.List.{IsDistinct}
use Rattle.std.proofs.lemmas.List.{get_or-map, length-map}
use Rattle.definitions.specs.declared.Cell.{Cell}
use Rattle.definitions.specs.Sets.{FamilyValue, cells_of}
use Rattle.definitions.specs.Sides.{CrossAt, IsColoring, IsOddRing, IsSplit}
use Rattle.side_laws.proofs.Rings.{ring_has_no_coloring}
use Rattle.side_finder.specs.declared.forest.Mark.{Mark}
use Rattle.side_finder.specs.Graphs.{GraphValue, IsCrossingGraph, IsGraphOf, Joined}
use Rattle.side_finder.specs.Marks.{AreAllMarked, AreTwins, Marked, NoTwins, depth_at, side_of, start_at, up_at}
use Rattle.side_finder.specs.Ways.{ArePair, AreWaysUp, ring_from}
use Rattle.side_finder.specs.Answers.{HasNoColoring, IsTheSplit}
use Rattle.side_finder.proofs.Marking.{marked_within}
use Rattle.side_finder.proofs.Parts.{AreLevels, one_depth, one_split, sides_color, sides_split}
use Rattle.side_finder.proofs.Rings.{ring_is_distinct, ring_is_odd}

-- an odd ring of a family's sets refutes each colouring
pub exact_ring : (f : FamilyValue) (ring : List ℕ) → IsOddRing (cells_of f) ring → HasNoColoring (cells_of f)
exact_ring f ring r = ring_has_no_coloring (cells_of f) ring r

module _ (sets : List (List Cell)) (g : GraphValue) (marks : List (Option Mark)) (of : IsGraphOf sets g) (graph : IsCrossingGraph g) (all : AreAllMarked g marks) where
  within : (v : ℕ) → v < length sets → v < g.size
  within v l = omega (arith, l, of.many)

  beyond : (v : ℕ) → v < g.size → v < length sets
  beyond v l = omega (arith, l, of.many)

  joined_at : (a b : ℕ) → a < length sets → b < length sets → CrossAt sets a b → Joined g a b
  joined_at a b first second cross = of.right a b (within a first) (within b second) ∙ cross

  cross : (a b : ℕ) → a < g.size → b < g.size → Joined g a b → CrossAt sets a b
  cross a b first second j = sym (of.right a b first second) ∙ j

  up_within : (v : ℕ) → Marked marks v → v < g.size
  up_within v k = (let l = marked_within marks v k in omega (arith, l, all.lawful.many))

  pub levels : AreLevels sets (up_at marks) (depth_at marks) (start_at marks)
  levels = record {
    turned = λ a b first second c.
        cross b a (within b second) (within a first) (graph.turned a b (within a first) (within b second) (joined_at a b first second c));
    step = λ v l. elim (all.lawful.step v (all.marked v (within v l))) [
      | inl first ↦ inl first
      | inr next ↦ inr (beyond (up_at marks v) (up_within (up_at marks v) next.0), cross (up_at marks v) v (up_within (up_at marks v) next.0) (within v l) next.1, next.2, next.3)
    ];
    low = λ v l. all.lawful.low v (all.marked v (within v l));
    level = λ v w first second c. (let next = all.closed v (within v first) w (within w second) (joined_at v w first second c) in (next.1, next.2));
  }

  pub ways : AreWaysUp marks
  ways = record {
    few = (let few = graph.few in omega (arith, few, all.lawful.many));
    marked = λ v l. all.marked v (omega (arith, l, all.lawful.many));
    step = λ v l. elim (all.lawful.step v (all.marked v (omega (arith, l, all.lawful.many)))) [
      | inl first ↦ inl first
      | inr next ↦ inr (marked_within marks (up_at marks v) next.0, next.2, next.3)
    ];
  }

  module _ (a b : ℕ) (twins : AreTwins g marks a b) where
    level : (depth_at marks a ≡ depth_at marks b) × (start_at marks a ≡ start_at marks b)
    level =
        one_depth sets (up_at marks) (depth_at marks) (start_at marks) levels a b (beyond a twins.0) (beyond b twins.1)
        (cross a b twins.0 twins.1 twins.2.0) twins.2.1

    pub pair : ArePair marks a b
    pair = record {
      first = (let l = twins.0 in omega (arith, l, all.lawful.many));
      second = (let l = twins.1 in omega (arith, l, all.lawful.many));
      depth = level.0;
      start = level.1;
    }

    pub odd_ring : IsOddRing sets (ring_from marks a b)
    odd_ring =
        ring_is_odd sets marks levels a b (beyond a twins.0) (beyond b twins.1)
        (cross a b twins.0 twins.1 twins.2.0) level.0 level.1

    pub distinct_ring : IsDistinct nat_eq (ring_from marks a b)
    distinct_ring =
        ring_is_distinct sets marks levels a b (beyond a twins.0) (beyond b twins.1)
        (cross a b twins.0 twins.1 twins.2.0) level.0 level.1

  module _ (none : NoTwins g marks) where
    many : length (map side_of marks) ≡ length sets
    many = length-map marks side_of ∙ all.lawful.many ∙ of.many

    right : (v : ℕ) → v < length sets → slice_index (map side_of marks) v ≡ 1 + depth_at marks v % 2
    right v l = get_or-map side_of marks v None 0 (omega (arith, l, of.many, all.lawful.many))

    proper : (a b : ℕ) → a < length sets → b < length sets → CrossAt sets a b → 1 + depth_at marks a % 2 ≡ 1 + depth_at marks b % 2 → ⊥
    proper a b first second c same = none a (within a first) b (within b second) (joined_at a b first second c, same)

    pub color : IsColoring sets (map side_of marks)
    color = sides_color sets (up_at marks) (depth_at marks) (start_at marks) levels (map side_of marks) many right proper

    pub split : IsSplit sets (map side_of marks)
    split = sides_split sets (up_at marks) (depth_at marks) (start_at marks) levels (map side_of marks) many right proper

    pub the_split : IsTheSplit sets (map side_of marks)
    the_split = one_split sets (up_at marks) (depth_at marks) (start_at marks) levels (map side_of marks) many right proper
