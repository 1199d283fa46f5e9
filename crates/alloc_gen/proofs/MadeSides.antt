-- No two sets of one side of a made problem cross.
use Rattle.std.proofs.Common.{◌≡◌, ℕ, ◌+◌, ◌-◌, ◌*◌, ◌<◌, ◌≤◌, ◌∙◌, All, length, map, get_or, replicate, ap, sym, refl, subst, inl, inr, arith}
use Rattle.std.specs.List.{range_with_len}
use Rattle.std.proofs.lemmas.List.{get_or_append_left}
use Rattle.std.proofs.lemmas.List.Elements.{All-append, All-map}
use Rattle.definitions.specs.Sets.{IsBihierarchy, IsSet, SetValue, set_cells}
use Rattle.definitions.specs.Values.{IsProblem, row_sets}
use Rattle.definitions.proofs.Families.{cells_of_set, no_set}
use Rattle.side_laws.proofs.Rows.{stated_are_enough, two_is_stated}
use Rattle.alloc_gen.specs.Made.{made_problem}
use Rattle.alloc_gen.specs.MadeSets.{column_set, half_set, made_sets}
use Rattle.alloc_gen.proofs.Columns.{IsOf, columns_dont_cross}
use Rattle.alloc_gen.proofs.MadeParts.{length-made_sets}

-- a set of one column
abbrev IsOfSome : ℕ → SetValue → Type 0
IsOfSome n s = (k : ℕ) × IsOf n k s.cells

sets_of_columns : (n m : ℕ) → All (IsOfSome n) (made_sets n m)
unfolding made_sets
sets_of_columns n m =
    All-append (IsOfSome n) (map (column_set n m) (range_with_len 0 m)) (map (half_set n m) (range_with_len 0 m))
    (All-map (IsOfSome n) (column_set n m) (range_with_len 0 m) (λ i d l. (get_or (range_with_len 0 m) i d, inl refl)))
    (All-map (IsOfSome n) (half_set n m) (range_with_len 0 m) (λ i d l. (get_or (range_with_len 0 m) i d, inr refl)))

-- a set with a number up to twice the objects is one of a column
of_column : (word : ℕ → ℕ) (n m s : ℕ) → IsSet (made_problem word n m).family s → s ≤ 2 * m → (k : ℕ) × IsOf n k (set_cells (made_problem word n m).family s)
unfolding made_problem
of_column word n m s known few =
    let rows = row_sets (m + 1) (replicate n 1) in
    let inside : s - 1 < length (made_sets n m) = omega (arith, known.0, few, length-made_sets n m) in
    let front = get_or_append_left (made_sets n m) rows no_set (s - 1) inside in
    let cells = cells_of_set (made_problem word n m).family s known no_set ∙ ap (λ (q : SetValue). q.cells) front in
    let (k, is) = sets_of_columns n m (s - 1) no_set inside in
    (k, subst (IsOf n k) (sym cells) is)

pub made_apart : (word : ℕ → ℕ) (n m : ℕ) → IsProblem (made_problem word n m) → IsBihierarchy (made_problem word n m).family
unfolding made_problem
made_apart word n m h = stated_are_enough (made_problem word n m) h (λ s t known knows first second cross.
    let (k, here) = of_column word n m s known (two_is_stated (made_problem word n m) h s known first) in
    let (l, there) = of_column word n m t knows (two_is_stated (made_problem word n m) h t knows second) in
    columns_dont_cross n k l _ _ here there cross)
