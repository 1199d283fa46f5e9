-- Room for the next set, and families that are made set by set.
use Rattle.std.proofs.Common.{◌≡◌, ℕ, zero, suc, ◌+◌, ◌-◌, ◌<◌, ◌≤◌, ◌∙◌, List, [], ◌∷◌, ◌++◌, map, length, get_or, take, Some, refl, sym, ap, subst, arith, length-append, append_assoc}
use Rattle.std.specs.Prelude.{sum_by, flat_map, slice_get}
use Rattle.std.specs.List.{range_with_len}
use Rattle.std.proofs.lemmas.List.{take_more, take_all, length-take-le, append-nil, map-append}
use Rattle.std.proofs.lemmas.List.Sums.{sum_by-append, sum_by-cons, sum_by-take-le, sum_by_more}
use Rattle.std.proofs.lemmas.Grind.{flat_map-append}
use Rattle.std.proofs.lemmas.Option.{get_or_from_slice_get, slice_get_within}
use Rattle.definitions.specs.Sets.{SetValue, FamilyValue, ScaledValue, cells_in, IsFamily, IsInRange}
use Rattle.definitions.specs.Values.{ProblemValue, IsProblem, column_count, list_at}
use Rattle.definitions.specs.Fairness.{guarded_family, prefix_set}
use Rattle.guard_sets.specs.Guard.{fronts_of, triangle, sets_up_to, cells_up_to, FitsGuard}
use Rattle.guard_sets.proofs.Fronts.{front_length, front_inside}
use Rattle.guard_sets.proofs.Sizes.{range_more, sum_fewer, triangle_more, fronts_cells, fronts_many, sets_of_first, cells_of_first, guarded_many, guarded_cells, guarded_first, sets_more, cells_more}

-- a family to which sets are added
pub family_more : (old f : FamilyValue) (sets added more : List SetValue) → f ≡ record old { sets = sets } → sets ++ added ≡ more → record f { sets = f.sets ++ added } ≡ record old { sets = more }
family_more old f sets added more e m = subst (λ (g : FamilyValue). record g { sets = g.sets ++ added } ≡ record old { sets = more }) (sym e) (ap (λ (ss : List SetValue). record old { sets = ss }) m)

-- ---- a copy, set by set

-- the set of a number
pub set_at : (f : FamilyValue) (k : ℕ) (s d : SetValue) → slice_get f.sets (k + 1 - 1) ≡ Some s → get_or f.sets k d ≡ s
set_at f k s d e =
    let at : k + 1 - 1 ≡ k = omega arith in
    get_or_from_slice_get f.sets k s d (ap (slice_get f.sets) (sym at) ∙ e)

module _ (f : FamilyValue) (k : ℕ) (s : SetValue) (h : IsFamily f) (l : k < length f.sets) (e : slice_get f.sets (k + 1 - 1) ≡ Some s) where
  -- there is room for it
  pub copy_sets : length (take k f.sets) < 2000
  copy_sets = omega (arith, length-take-le k f.sets (omega arith), l, h.sets_limit)

  pub copy_cells : cells_in (take k f.sets) + length s.cells ≤ 1201000
  copy_cells =
      let more = sum_by_more (λ (t : SetValue). length t.cells) f.sets k s l in
      let here : length (get_or f.sets k s).cells ≡ length s.cells = ap (λ (t : SetValue). length t.cells) (set_at f k s s e) in
      let front = sum_by-take-le (λ (t : SetValue). length t.cells) f.sets (k + 1) in
      omega (arith, more, here, front, h.cells_limit)

  -- it is in range
  pub copy_inside : IsInRange f.agents f.columns s
  copy_inside = subst (IsInRange f.agents f.columns) (set_at f k s s e) (h.inside k s l)

  -- and with it one more set is copied
  pub copy_more : (r : SetValue) → r ≡ s → take k f.sets ++ r ∷ [] ≡ take (k + 1) f.sets
  copy_more r same = ap (λ t. take k f.sets ++ t ∷ []) (same ∙ sym (set_at f k s s e)) ∙ sym (take_more f.sets k s l)

-- ---- the sets of first places of one agent

module _ (p : ProblemValue) (x : ScaledValue) (i k : ℕ) (before : List SetValue) (h : IsProblem p) (l : i < length p.agents) (m : k < length (list_at p i)) where
  -- there is room for the next one
  pub front_sets : length before + length (list_at p i) ≤ 2000 → length (before ++ map (prefix_set p x i) (range_with_len 1 k)) < 2000
  front_sets room = omega (arith, length-append before (map (prefix_set p x i) (range_with_len 1 k)), fronts_many p x h i k, room, m)

  triangles : (n d : ℕ) → triangle n ≤ triangle (n + d)
  triangles n zero = (let e : triangle (n + 0) ≡ triangle n = ap triangle (let same : n + 0 ≡ n = omega arith in same) in omega (arith, e))
  triangles n (suc d) = (let e : triangle (n + suc d) ≡ triangle (n + d + 1) = ap triangle (let same : n + suc d ≡ n + d + 1 = omega arith in same) in omega (arith, e, triangle_more (n + d), triangles n d))

  pub front_cells : cells_in before + triangle (length (list_at p i)) ≤ 1201000
      → cells_in (before ++ map (prefix_set p x i) (range_with_len 1 k)) + length (prefix_set p x i (k + 1)).cells ≤ 1201000
  front_cells room =
      let next : length (prefix_set p x i (k + 1)).cells ≡ k + 1 = front_length p x i (k + 1) h l (omega (arith, m)) in
      let most = triangles (k + 1) (length (list_at p i) - (k + 1)) in
      let all : triangle (k + 1 + (length (list_at p i) - (k + 1))) ≡ triangle (length (list_at p i)) = ap triangle (let same : k + 1 + (length (list_at p i) - (k + 1)) ≡ length (list_at p i) = omega (arith, m) in same) in
      omega (arith, sum_by-append (λ (s : SetValue). length s.cells) before (map (prefix_set p x i) (range_with_len 1 k)), fronts_cells p x h i k l (omega (arith, m)), next, triangle_more k, most, all, room)

-- it is in range
pub front_in : (p : ProblemValue) (x : ScaledValue) (i k : ℕ) (f : FamilyValue) (s : SetValue) → IsProblem p → i < length p.agents → k ≤ length (list_at p i)
    → f.agents ≡ length p.agents → f.columns ≡ column_count p → s ≡ prefix_set p x i k → IsInRange f.agents f.columns s
front_in p x i k f s h l m agents columns e =
    subst (IsInRange f.agents f.columns) (sym e)
    (subst (λ n. IsInRange n f.columns (prefix_set p x i k)) (sym agents) (subst (λ n. IsInRange (length p.agents) n (prefix_set p x i k)) (sym columns) (front_inside p x i k h l m)))

-- and one more set of first places
pub front_more : (p : ProblemValue) (x : ScaledValue) (i k : ℕ) (before : List SetValue) (s : SetValue) → s ≡ prefix_set p x i (k + 1)
    → (before ++ map (prefix_set p x i) (range_with_len 1 k)) ++ s ∷ [] ≡ before ++ map (prefix_set p x i) (range_with_len 1 (k + 1))
front_more p x i k before s e =
    append_assoc before (map (prefix_set p x i) (range_with_len 1 k)) (s ∷ [])
    ∙ ap (λ t. before ++ (map (prefix_set p x i) (range_with_len 1 k) ++ t ∷ [])) e
    ∙ ap (λ sets. before ++ sets) (sym (ap (map (prefix_set p x i)) (range_more 1 k (k + 1) (omega arith)) ∙ map-append (prefix_set p x i) (range_with_len 1 k) ((k + 1) ∷ [])))

-- ---- those of all agents

module _ (p : ProblemValue) (x : ScaledValue) (i : ℕ) (h : IsProblem p) (fits : FitsGuard p x) (l : i < length p.agents) where
  -- there is room for those of the next agent
  pub agent_sets : length (p.family.sets ++ flat_map (fronts_of p x) (range_with_len 0 i)) + length (list_at p i) ≤ 2000
  agent_sets =
      let all : i + 1 + (length p.agents - (i + 1)) ≡ length p.agents = omega (arith, l) in
      let fewer = sum_fewer (λ j. length (list_at p j)) (i + 1) (length p.agents - (i + 1)) in
      let whole : sum_by (λ j. length (list_at p j)) (range_with_len 0 (i + 1 + (length p.agents - (i + 1)))) ≡ sum_by (λ j. length (list_at p j)) (range_with_len 0 (length p.agents)) = ap (λ n. sum_by (λ j. length (list_at p j)) (range_with_len 0 n)) all in
      omega (arith, sets_of_first p x h i, sets_more p i, fewer, whole, guarded_many p x h, fits.sets)

  pub agent_cells : cells_in (p.family.sets ++ flat_map (fronts_of p x) (range_with_len 0 i)) + triangle (length (list_at p i)) ≤ 1201000
  agent_cells =
      let all : i + 1 + (length p.agents - (i + 1)) ≡ length p.agents = omega (arith, l) in
      let fewer = sum_fewer (λ j. triangle (length (list_at p j))) (i + 1) (length p.agents - (i + 1)) in
      let whole : sum_by (λ j. triangle (length (list_at p j))) (range_with_len 0 (i + 1 + (length p.agents - (i + 1)))) ≡ sum_by (λ j. triangle (length (list_at p j))) (range_with_len 0 (length p.agents)) = ap (λ n. sum_by (λ j. triangle (length (list_at p j))) (range_with_len 0 n)) all in
      omega (arith, cells_of_first p x h i (omega (arith, l)), cells_more p i, fewer, whole, guarded_cells p x h, fits.cells)

-- one more agent
pub agent_more : (p : ProblemValue) (x : ScaledValue) (i : ℕ)
    → (p.family.sets ++ flat_map (fronts_of p x) (range_with_len 0 i)) ++ fronts_of p x i ≡ p.family.sets ++ flat_map (fronts_of p x) (range_with_len 0 (i + 1))
agent_more p x i =
    append_assoc p.family.sets (flat_map (fronts_of p x) (range_with_len 0 i)) (fronts_of p x i)
    ∙ ap (λ sets. p.family.sets ++ sets) (sym (ap (flat_map (fronts_of p x)) (range_more 0 i i (omega arith)) ∙ flat_map-append (fronts_of p x) (range_with_len 0 i) (i ∷ [])
    ∙ ap (λ ys. flat_map (fronts_of p x) (range_with_len 0 i) ++ ys) (append-nil (fronts_of p x i))))
