-- `sides`: what it writes of the sides that were found for a family, or of an odd ring of its sets;
-- what it answers, and its sentence of the headline.
use Rattle.std.specs.Prelude.{◌≡◌, ◌⊎◌, ◌≤◌, ℕ, ◌-◌, List, [], ◌∷◌, ◌++◌, Ok, Option, Some, codes, length, map, nat_eq, slice_index}
use Rattle.std.specs.Fmt.{decimal}
use Rattle.std.specs.List.{IsDistinct, range_with_len}
use Rattle.alloc_outcomes.specs.Answers.{Answer, Gives, HasText}
use Rattle.alloc_outcomes.specs.Causes.{input_cause}
use Rattle.alloc_outcomes.specs.Limits.{file_limit}
use Rattle.alloc_outcomes.specs.Meanings.{TwoMeaning}
use Rattle.alloc_outcomes.specs.Sentences.{Keeps, Run}
use Rattle.alloc_readings.specs.Family.{QuotasTextReads}
use Rattle.alloc_readings.specs.Shares.{MatrixTextReads}
use Rattle.definitions.specs.Sets.{FamilyValue, cells_of}
use Rattle.definitions.specs.Sides.{IsOddRing, IsSplit}
use Rattle.definitions.specs.Texts.{Row}
use Rattle.definitions.specs.Values.{SharesValue}
use Rattle.side_finder.specs.Answers.{HasNoColoring}
use Rattle.side_finder.specs.declared.find.Sides.{Sides}
use Rattle.side_finder.specs.declared.find.Sides.TheVariants as sides
use Rattle.table_text.specs.Rows.{rows_text}

-- ---- what is written

-- the record of the set with this number: its side
abbrev pub side_row : List ℕ → ℕ → Row
side_row sides number =
    codes "side" ∷ decimal number ∷ decimal (slice_index sides (number - 1)) ∷ []

-- the records of the first so many sets
abbrev pub side_rows : List ℕ → ℕ → List Row
side_rows sides count = map (side_row sides) (range_with_len 1 count)

-- the record of how many there are, which ends a text
abbrev pub end_row : ℕ → Row
end_row count = codes "end" ∷ decimal count ∷ []

-- the text of a side for each set, by number
unfoldable pub split_text : List ℕ → List ℕ
split_text sides = rows_text (side_rows sides (length sides) ++ end_row (length sides) ∷ [])

-- the record of a set of a ring: its number
abbrev pub ring_row : ℕ → Row
ring_row set = codes "set" ∷ decimal set ∷ []

-- the text of a ring: how many sets it has, and each in its order
unfoldable pub ring_text : List ℕ → List ℕ
ring_text ring =
    rows_text ((codes "ring" ∷ decimal (length ring) ∷ [])
    ∷ (map ring_row ring ++ end_row (length ring) ∷ []))

-- the text of what was found
abbrev pub answer_text : Sides → List ℕ
answer_text (sides.Split found) = split_text found.items
answer_text (sides.Ring ring) = ring_text ring.items

-- ---- what is answered

-- the text of the split of a family
pub record IsSplitText (f : FamilyValue) (t : List ℕ) : Type 0 where
  pub sides : List ℕ
  pub split : IsSplit (cells_of f) sides
  pub is : t ≡ split_text sides

-- the text of an odd ring of distinct sets of a family
pub record IsRingText (f : FamilyValue) (t : List ℕ) : Type 0 where
  pub ring : List ℕ
  pub odd : IsOddRing (cells_of f) ring
  pub distinct : IsDistinct nat_eq ring
  pub is : t ≡ ring_text ring

-- one of both: a family that has an odd ring has no split
abbrev pub IsSidesText : FamilyValue → List ℕ → Type 0
IsSidesText f t = IsSplitText f t ⊎ IsRingText f t

-- `sides MATRIX QUOTAS`: what the matrix reads as decides, and then the quotas; after that nothing
-- is refused
abbrev pub SidesAnswers : List ℕ → List ℕ → Answer → Type 0
SidesAnswers matrix quotas =
    Gives input_cause (MatrixTextReads matrix) (λ given.
    Gives input_cause (QuotasTextReads given quotas) (λ f.
    HasText (IsSidesText f)))

-- ---- the sentence of the headline

-- texts of a matrix and of quotas that are short and lawful
pub record AreLawful (matrix quotas : List ℕ) (given : SharesValue)
    (f : FamilyValue) : Type 0 where
  pub short : (length matrix ≤ file_limit) × (length quotas ≤ file_limit)
  pub shares : MatrixTextReads matrix (Ok given)
  pub family : QuotasTextReads given quotas (Ok f)

-- what was appended is the text of the split, or that of an odd ring, and then no choice of sides
-- works
pub record ToldSides (f : FamilyValue) (before : List ℕ)
    (written : Option (List ℕ)) : Type 0 where
  pub told : List ℕ
  pub wrote : written ≡ Some (before ++ told)
  pub either : IsSplitText f told ⊎ (IsRingText f told × HasNoColoring (cells_of f))

-- so it is of every matrix and quotas that are lawful, and no denominator is too fine
abbrev pub SidesSays : (matrix quotas : List ℕ) → Run → Type 0
SidesSays matrix quotas run =
    (given : SharesValue) (f : FamilyValue) → AreLawful matrix quotas given f
    → Keeps (ToldSides f run.before run.written) (λ _. ⊥) run

-- what `sides` means
abbrev pub sides_meaning : TwoMeaning
sides_meaning = record { answers = SidesAnswers; says = SidesSays }
