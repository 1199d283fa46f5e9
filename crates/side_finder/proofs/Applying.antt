-- What a family is with other sides: its cells as before, and the sides that were given.
use Rattle.std.proofs.Common.{◌≡◌, ℕ, zero, suc, ◌+◌, ◌<◌, ◌≤◌, ◌∙◌, List, [], ◌∷◌, ◌++◌, map, length, get_or, take, Some, refl, sym, ap, subst, arith}
use Rattle.std.specs.Prelude.{slice_get}
use Rattle.std.specs.List.{zip}
use Rattle.std.proofs.lemmas.List.{length-map, take_more}
use Rattle.std.proofs.lemmas.List.Sums.{sum_by-cons, sum_by_more_le}
use Rattle.std.proofs.lemmas.Option.{get_or_from_slice_get}
use Rattle.definitions.specs.declared.Cell.{Cell}
use Rattle.definitions.specs.Sets.{FamilyValue, IsBihierarchy, IsFamily, NoCrossing, SetValue, cells_in, cells_of, sides_of}
use Rattle.definitions.specs.Sides.{IsColoring}
use Rattle.definitions.proofs.Families.{bihierarchy_of_apart, no_set}
use Rattle.side_finder.specs.Applied.{set_with_side, with_sides}

-- sets with these sides
abbrev pub sided : List SetValue → List ℕ → List SetValue
sided sets sides = map (λ p. set_with_side p.0 p.1) (zip sets sides)

many_sided : (sets : List SetValue) (sides : List ℕ) → length sides ≡ length sets → length (sided sets sides) ≡ length sets
many_sided [] sides e = refl
many_sided (s ∷ sets) [] e = absurd (omega (arith, e))
many_sided (s ∷ sets) (x ∷ sides) e = ap (λ (n : ℕ). suc n) (many_sided sets sides (omega (arith, e)))

cells_sided : (sets : List SetValue) (sides : List ℕ) → length sides ≡ length sets → map (λ s. s.cells) (sided sets sides) ≡ map (λ s. s.cells) sets
cells_sided [] sides e = refl
cells_sided (s ∷ sets) [] e = absurd (omega (arith, e))
cells_sided (s ∷ sets) (x ∷ sides) e = ap (λ (rest : List (List Cell)). s.cells ∷ rest) (cells_sided sets sides (omega (arith, e)))

sides_sided : (sets : List SetValue) (sides : List ℕ) → length sides ≡ length sets → map (λ s. s.side) (sided sets sides) ≡ sides
sides_sided [] [] e = refl
sides_sided [] (x ∷ sides) e = absurd (omega (arith, e))
sides_sided (s ∷ sets) [] e = absurd (omega (arith, e))
sides_sided (s ∷ sets) (x ∷ sides) e = ap (λ (rest : List ℕ). x ∷ rest) (sides_sided sets sides (omega (arith, e)))

pub count_sided : (sets : List SetValue) (sides : List ℕ) → length sides ≡ length sets → cells_in (sided sets sides) ≡ cells_in sets
count_sided [] sides e = refl
count_sided (s ∷ sets) [] e = absurd (omega (arith, e))
count_sided (s ∷ sets) (x ∷ sides) e =
    let size : SetValue → ℕ = λ q. length q.cells in
    let more = count_sided sets sides (omega (arith, e)) in
    omega (arith, sum_by-cons size (set_with_side s x) (sided sets sides), sum_by-cons size s sets, more)

set_sided : (sets : List SetValue) (sides : List ℕ) → length sides ≡ length sets → (k : ℕ) (d : SetValue) → k < length sets
    → get_or (sided sets sides) k d ≡ set_with_side (get_or sets k d) (get_or sides k 0)
set_sided [] sides e k d l = absurd (omega (arith, l))
set_sided (s ∷ sets) [] e k d l = absurd (omega (arith, e))
set_sided (s ∷ sets) (x ∷ sides) e zero d l = refl
set_sided (s ∷ sets) (x ∷ sides) e (suc k) d l = set_sided sets sides (omega (arith, e)) k d (omega (arith, l))

module _ (f : FamilyValue) (sides : List ℕ) (many : length sides ≡ length (cells_of f)) where
  as_many : length sides ≡ length f.sets
  as_many = many ∙ length-map f.sets (λ (q : SetValue). q.cells)

  -- there are as many sets
  pub sets_with_sides : length (with_sides f sides).sets ≡ length f.sets
  sets_with_sides = many_sided f.sets sides as_many

  -- with the cells that they had
  pub cells_with_sides : cells_of (with_sides f sides) ≡ cells_of f
  cells_with_sides = cells_sided f.sets sides as_many

  -- and these sides
  pub sides_with_sides : sides_of (with_sides f sides) ≡ sides
  sides_with_sides = sides_sided f.sets sides as_many

  -- each set by its index
  pub set_with_sides : (k : ℕ) (d : SetValue) → k < length f.sets → get_or (with_sides f sides).sets k d ≡ set_with_side (get_or f.sets k d) (get_or sides k 0)
  set_with_sides k d l = set_sided f.sets sides as_many k d l

-- while the sets are copied one by one
module _ (f : FamilyValue) (sides : List ℕ) (many : length sides ≡ length (cells_of f)) (lawful : IsFamily f) (k : ℕ) (l : k < length f.sets) where
  abbrev whole : List SetValue
  whole = (with_sides f sides).sets

  within : k < length whole
  within = (let all = sets_with_sides f sides many in omega (arith, l, all))

  -- the next set
  pub next_copied : (s set : SetValue) → slice_get f.sets k ≡ Some s → set ≡ set_with_side s (get_or sides k 0) → set ≡ get_or whole k no_set
  next_copied s set found e =
      e ∙ ap (λ (q : SetValue). set_with_side q (get_or sides k 0)) (sym (get_or_from_slice_get f.sets k s no_set found)) ∙ sym (set_with_sides f sides many k no_set l)

  -- there is room for it
  pub room_left : cells_in (take k whole) + length (get_or whole k no_set).cells ≤ 1201000
  room_left =
      let size : SetValue → ℕ = λ q. length q.cells in
      let all = count_sided f.sets sides (as_many f sides many) in
      let most = lawful.cells_limit in
      omega (arith, sum_by_more_le size whole k no_set within, all, most)

  pub one_copied : (applied : FamilyValue) (set : SetValue) (j : ℕ) → j ≡ k + 1 → applied ≡ record (with_sides f sides) { sets = take k whole }
      → set ≡ get_or whole k no_set → record applied { sets = applied.sets ++ set ∷ [] } ≡ record (with_sides f sides) { sets = take j whole }
  one_copied applied set j next e is =
      ap (λ (g : FamilyValue). record g { sets = g.sets ++ set ∷ [] }) e
      ∙ ap (λ (xs : List SetValue). record (with_sides f sides) { sets = xs })
      (ap (λ (q : SetValue). take k whole ++ q ∷ []) is ∙ sym (take_more whole k no_set within) ∙ ap (λ (n : ℕ). take n whole) (sym next))

-- with the sides of a colouring a family is a bihierarchy
pub bihierarchy_of_coloring : (f : FamilyValue) (sides : List ℕ) → IsColoring (cells_of f) sides → IsBihierarchy (with_sides f sides)
bihierarchy_of_coloring f sides c =
    bihierarchy_of_apart (with_sides f sides)
    (subst (λ (cells : List (List Cell)). NoCrossing cells (sides_of (with_sides f sides))) (sym (cells_with_sides f sides c.many))
    (subst (λ (s : List ℕ). NoCrossing (cells_of f) s) (sym (sides_with_sides f sides c.many)) c.apart))
