-- What the parts of the reader of a matrix answer.
use Rattle.std.specs.Prelude.{◌≡◌, ◌≤◌, ◌<◌, ◌+◌, ◌*◌, ◌++◌, ◌∷◌, [], ℕ, List, None, All, Result, MatchResult}
use Rattle.std.specs.List.{AllZip}
use Rattle.definitions.specs.Texts.{Row, field}
use Rattle.definitions.specs.Values.{Ratio, SharesValue}
use Rattle.frac128.specs.Fraction.{numerator, denominator}
use Rattle.frac128.specs.declared.fractions.Fraction.{Fraction}
use Rattle.scaled_matrix.specs.Entries.{ratios_of}
use Rattle.alloc_input.specs.Checks.{Checks, Tells}
use Rattle.alloc_input.specs.Matrices.{IsSameShare, ReadsAsMatrix, all_shares, check_entry, check_matrix, matrix_fault, objects_of}
use Rattle.alloc_input.specs.Prefs.{agents_of, has_header}
use Rattle.alloc_input.specs.declared.faults.InputRefusal.{InputRefusal}
use Rattle.alloc_input.specs.declared.faults.Stop.{Stop}
use Rattle.alloc_input.specs.declared.matrix.State.{State}

-- fractions that are at most 1,000
abbrev pub AreLimited : List Fraction → Type 0
AreLimited entries = All (λ x. numerator x ≤ 1000 * denominator x) entries

-- the entries are these shares
abbrev pub AreShares : List Fraction → List Ratio → Type 0
AreShares entries shares = AllZip IsSameShare (ratios_of entries) shares

-- some entries and these shares besides
abbrev pub AddsShares : List Fraction → List Fraction → List Ratio → Type 0
AddsShares old new shares = (given : List Ratio) → AreShares old given → AreShares new (given ++ shares)

-- memory is wanted for an entry that passes
abbrev pub WantsForEntry : ℕ → Row → Type 0
WantsForEntry columns row = (k : ℕ) × (k < columns) × (check_entry (field row (k + 1)) ≡ None)

-- the state after these records
pub record IsMatrixAfter (rows : List Row) (s : State) : Type 0 where
  pub header : s.header ≡ has_header rows
  pub objects : s.objects ≡ objects_of rows
  pub agents : s.agents ≡ agents_of rows
  pub entries : AreShares s.entries.items (all_shares rows)

-- one more record, after any earlier ones that the state stands for
abbrev pub TakesMatrixRecord : Row → State → Result (Unit {0}) Stop → State → Type 0
TakesMatrixRecord row s r s2 = (earlier : List Row) → IsMatrixAfter earlier s
    → Checks r (check_matrix earlier row) (λ _. IsMatrixAfter (earlier ++ row ∷ []) s2)

-- what the records of a matrix state, where they are lawful, or exactly their fault
abbrev pub ReadsMatrix : List Row → Result SharesValue InputRefusal → Type 0
ReadsMatrix rows r = MatchResult r (λ m. ReadsAsMatrix rows m) (λ e. Tells 1 e (matrix_fault rows))
