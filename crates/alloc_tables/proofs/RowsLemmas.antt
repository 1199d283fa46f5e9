-- Records that are appended one after another.
use Rattle.std.proofs.Common.{◌≡◌, ◌+◌, ◌-◌, ℕ, List, [], ◌∷◌, ◌++◌, map, sym, ◌∙◌, ap, append_assoc, arith}
use Rattle.std.specs.Prelude.{decimal, slice_index}
use Rattle.std.specs.List.{range_with_len}
use Rattle.std.proofs.lemmas.List.FromFn.{map-range_with_len_more}
use Rattle.definitions.specs.Texts.{Row}
use Rattle.table_text.specs.Rows.{rows_text}
use Rattle.table_text.proofs.TextFacts.{rows_text-append}

after : (a b c : List ℕ) → (a ++ b) ++ c ≡ a ++ (b ++ c)
after a b c = simp append_assoc

-- records after records
pub rows-then : (rows more : List Row) (start mid next : List ℕ) → mid ≡ start ++ rows_text rows → next ≡ mid ++ rows_text more → next ≡ start ++ rows_text (rows ++ more)
rows-then rows more start mid next so then =
    then ∙ ap (λ (b : List ℕ). b ++ rows_text more) so ∙ after start (rows_text rows) (rows_text more) ∙ ap (λ (b : List ℕ). start ++ b) (sym (rows_text-append rows more))

-- one more record after n that go by number, from a on
pub rows-more : (row : ℕ → Row) (a n m j : ℕ) (start mid next : List ℕ) → a + n ≡ j → m ≡ n + 1
    → mid ≡ start ++ rows_text (map row (range_with_len a n))
    → next ≡ mid ++ rows_text (row j ∷ [])
    → next ≡ start ++ rows_text (map row (range_with_len a m))
rows-more row a n m j start mid next at count so more =
    rows-then (map row (range_with_len a n)) (row j ∷ []) start mid next so more
    ∙ ap (λ (rows : List Row). start ++ rows_text rows) (sym (map-range_with_len_more row a n j at))
    ∙ ap (λ (k : ℕ). start ++ rows_text (map row (range_with_len a k))) (sym count)

-- the record of a word, a number, and the value with this number in a list
abbrev pub valued_row : List ℕ → List ℕ → ℕ → Row
valued_row word values number = word ∷ decimal number ∷ decimal (slice_index values (number - 1)) ∷ []

-- one more of them
pub values-more : (word values : List ℕ) (i value : ℕ) (start mid next : List ℕ) → value ≡ slice_index values i
    → mid ≡ start ++ rows_text (map (valued_row word values) (range_with_len 1 i))
    → next ≡ mid ++ rows_text ((word ∷ decimal (i + 1) ∷ decimal value ∷ []) ∷ [])
    → next ≡ start ++ rows_text (map (valued_row word values) (range_with_len 1 (i + 1)))
values-more word values i value start mid next is so more =
    let back : i + 1 - 1 ≡ i = omega arith in
    let here : value ≡ slice_index values (i + 1 - 1) = is ∙ ap (slice_index values) (sym back) in
    rows-more (valued_row word values) 1 i (i + 1) (i + 1) start mid next (omega arith) (omega arith) so
    (more ∙ ap (λ (v : ℕ). mid ++ rows_text ((word ∷ decimal (i + 1) ∷ decimal v ∷ []) ∷ [])) here)
