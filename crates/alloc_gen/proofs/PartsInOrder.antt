-- Sets of the first columns, one for each: how many cells they have, and one more.
use Rattle.std.proofs.Common.{◌≡◌, ℕ, zero, suc, ◌+◌, ◌*◌, ◌<◌, ◌≤◌, ◌++◌, ◌∙◌, List, [], ◌∷◌, map, length, ap, sym, arith, append_assoc, length-append}
use Rattle.std.specs.List.{range_with_len}
use Rattle.std.proofs.lemmas.List.FromFn.{length-map-range_with_len, map-range_with_len_more}
use Rattle.std.proofs.lemmas.List.Sums.{sum_by-append, sum_by-cons}
use Rattle.std.proofs.Math.Nat.{mul-le-mul_right}
use Rattle.definitions.specs.Sets.{FamilyValue, SetValue, cells_in}
use Rattle.alloc_gen.specs.MadeSets.{column_part}
use Rattle.alloc_gen.proofs.Columns.{length-column_cells}

module _ (count step ceiling : ℕ) where
  -- the sets of so many columns
  abbrev pub parts : ℕ → List SetValue
  parts n = map (column_part count step ceiling) (range_with_len 0 n)

  pub length-parts : (n : ℕ) → length (parts n) ≡ n
  length-parts n = length-map-range_with_len (column_part count step ceiling) 0 n

  cells_in-from : (a n : ℕ) → cells_in (map (column_part count step ceiling) (range_with_len a n)) ≡ n * count
  cells_in-from a zero = omega arith
  cells_in-from a (suc n) =
      let rest : List SetValue = map (column_part count step ceiling) (range_with_len (a + 1) n) in
      let more : suc n * count ≡ count + n * count = grind arith in
      omega (arith, sum_by-cons (λ (s : SetValue). length s.cells) (column_part count step ceiling a) rest, length-column_cells count step a, cells_in-from (a + 1) n, more)

  pub cells_in-parts : (n : ℕ) → cells_in (parts n) ≡ n * count
  cells_in-parts n = cells_in-from 0 n

  -- there is room for one more set
  pub room_left : (start family : FamilyValue) (columns n : ℕ) → n < columns
      → length start.sets + columns ≤ 2000 → cells_in start.sets + columns * count ≤ 1201000
      → family ≡ record start { sets = start.sets ++ parts n }
      → (length family.sets < 2000) × (cells_in family.sets + count ≤ 1201000)
  room_left start family columns n known many cells is =
      let upto : suc n * count ≤ columns * count = mul-le-mul_right count known in
      let more : suc n * count ≡ count + n * count = grind arith in
      rw is (
        omega (arith, length-append start.sets (parts n), length-parts n),
        omega (arith, sum_by-append (λ (s : SetValue). length s.cells) start.sets (parts n), cells_in-parts n, upto, more),
      )

  -- the family after one more set
  pub part_added : (start family : FamilyValue) (n : ℕ) (part : SetValue) → family ≡ record start { sets = start.sets ++ parts n } → part ≡ column_part count step ceiling n
      → record family { sets = family.sets ++ part ∷ [] } ≡ record start { sets = start.sets ++ parts (n + 1) }
  part_added start family n part before is =
      let last = column_part count step ceiling n in
      ap (λ (f : FamilyValue). record f { sets = f.sets ++ part ∷ [] }) before
      ∙ ap (λ (l : List SetValue). record start { sets = l })
      (ap (λ s. start.sets ++ parts n ++ s ∷ []) is ∙ append_assoc start.sets (parts n) (last ∷ [])
      ∙ ap (λ l. start.sets ++ l) (sym (map-range_with_len_more (column_part count step ceiling) 0 n n (omega arith))))
