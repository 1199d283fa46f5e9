-- What laws say of the summary.
use Rattle.std.specs.Prelude.{◌≡◌, ℕ, ◌<◌, ◌≤◌, List, [], ◌∷◌, Some, All, Contains, decimal, length, slice_get}
use Rattle.std.specs.Cmp.Lexicographic.{slice_cmp}
use Rattle.std.specs.List.{IsDistinct}
use Rattle.std.specs.List.Sorted.{IsStrictlySortedBy}
use Rattle.std.specs.Ordering.{nat_cmp}
use Rattle.std.specs.Str.{bytes_eq}
use Rattle.definitions.specs.Lotteries.{LotteryValue}
use Rattle.serde_json.specs.Data.{Members, no_members, member, string}
use Rattle.serde_json.specs.Find.{get_member}
use Rattle.alloc_report.specs.Summary.{column_units, expected_of, greatest_of, least_of}

-- the names of some members, in their order
abbrev pub names_of : Members → List (List ℕ)
names_of no_members = []
names_of (member name value members) = name ∷ names_of members

-- the members' names rise strictly by their bytes, each is that of a column, and each column's name has the sum of its units
pub record AreOfColumns (l : LotteryValue) (members : Members) : Type 0 where
  pub rising : IsStrictlySortedBy (slice_cmp nat_cmp) (names_of members)
  pub known : All (Contains l.columns) (names_of members)
  pub sums : (a : ℕ) (name : List ℕ) → slice_get l.columns a ≡ Some name
      → get_member name members ≡ Some (string (decimal (column_units l a)))

-- so it is of what the summary expects, where no two columns have one name
abbrev pub ExpectedOfColumns : Type 0
ExpectedOfColumns = (l : LotteryValue) → IsDistinct bytes_eq l.columns → AreOfColumns l (expected_of l)

-- one of the numbers, and none is greater
pub record IsGreatest (n : ℕ) (numbers : List ℕ) : Type 0 where
  pub among : Contains numbers n
  pub bound : All (λ m. m ≤ n) numbers

-- one of the numbers, and none is less
pub record IsLeast (n : ℕ) (numbers : List ℕ) : Type 0 where
  pub among : Contains numbers n
  pub bound : All (λ m. n ≤ m) numbers

-- the greatest and the least of some numbers are, where there are any
abbrev pub GreatestAndLeast : Type 0
GreatestAndLeast = (numbers : List ℕ) → 0 < length numbers
    → IsGreatest (greatest_of numbers) numbers × IsLeast (least_of numbers) numbers
