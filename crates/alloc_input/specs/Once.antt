-- A text reads as one value, or it has one fault.
use Rattle.std.specs.Prelude.{◌≡◌, ◌⊎◌, ◌↔◌, ℕ, List, Some, None}
use Rattle.definitions.specs.Firsts.{IsFirstFault}
use Rattle.definitions.specs.Texts.{Row}
use Rattle.definitions.specs.Values.{SharesValue}
use Rattle.alloc_input.specs.Matrices.{IsMatrix, MatrixReads, MatrixRefusedFor, check_matrix, matrix_fault}
use Rattle.alloc_input.specs.Prefs as prefs
use Rattle.alloc_input.specs.Problems.{ProblemReads, ProblemRefusedFor}
use Rattle.alloc_input.specs.Quotas as quotas
use Rattle.alloc_input.specs.Quotas.{QuotasRefusedFor, TextReadsAsDemands, TextReadsAsFamily, quotas_fault}
use Rattle.alloc_input.specs.Stated.{Setting}
use Rattle.alloc_input.specs.declared.faults.InputFault.{InputFault}
use Rattle.alloc_input.specs.declared.faults.InputKind.{InputKind}
use Rattle.alloc_input.specs.declared.faults.InputRefusal.TheVariants as refusal

-- there is one value at most and one fault at most, and there is a fault exactly where there is no value
pub record ReadsOnce {V : Type 0} (Reads : V → Type 0) (HasFault : InputFault → Type 0) : Type 0 where
  pub one_value : (v w : V) → Reads v → Reads w → v ≡ w
  pub one_fault : (f g : InputFault) → HasFault f → HasFault g → f ≡ g
  pub either : ((v : V) × Reads v) ⊎ ((f : InputFault) × HasFault f)
  pub never_both : (v : V) (f : InputFault) → Reads v → ¬ (HasFault f)

-- the texts of preferences and of quotas, as a problem
abbrev pub ProblemReadsOnce : Type 0
ProblemReadsOnce = (prefs quotas : List ℕ) → ReadsOnce (ProblemReads prefs quotas) (λ f. ProblemRefusedFor prefs quotas (refusal.Fault f))

-- a text of quotas, as the sets that it states
abbrev pub QuotasReadOnce : Type 0
QuotasReadOnce = (g : Setting) (bytes : List ℕ) → ReadsOnce (TextReadsAsFamily g bytes) (λ f. QuotasRefusedFor g bytes (refusal.Fault f))

-- a text of quotas, as the demands that it states
abbrev pub DemandsReadOnce : Type 0
DemandsReadOnce = (g : Setting) (bytes : List ℕ) → ReadsOnce (TextReadsAsDemands g bytes) (λ f. QuotasRefusedFor g bytes (refusal.Fault f))

-- the text reads as this matrix, whose shares are in lowest terms
abbrev pub ReadsAsLawful : List ℕ → SharesValue → Type 0
ReadsAsLawful bytes m = MatrixReads bytes m × IsMatrix m

-- a text of a matrix, as its shares in lowest terms
abbrev pub MatrixReadsOnce : Type 0
MatrixReadsOnce = (bytes : List ℕ) → ReadsOnce (ReadsAsLawful bytes) (λ f. MatrixRefusedFor bytes (refusal.Fault f))

-- ---- the fault of records

-- the fault of the records of preferences is their first unlawful record, or the end where all are lawful
abbrev pub PreferencesFirstFault : Type 0
PreferencesFirstFault = (objects : List (List ℕ)) (rows : List Row) (n : ℕ) (k : InputKind)
    → (prefs.fault_of objects rows ≡ Some (n, k)) ↔ IsFirstFault (prefs.check_record objects) prefs.check_end rows n k

-- that of the records of quotas, at whose end nothing is missing
abbrev pub QuotasFirstFault : Type 0
QuotasFirstFault = (g : Setting) (rows : List Row) (n : ℕ) (k : InputKind)
    → (quotas_fault g rows ≡ Some (n, k)) ↔ IsFirstFault (quotas.check_record g) (λ _. None) rows n k

-- that of the records of a matrix
abbrev pub MatrixFirstFault : Type 0
MatrixFirstFault = (rows : List Row) (n : ℕ) (k : InputKind)
    → (matrix_fault rows ≡ Some (n, k)) ↔ IsFirstFault check_matrix prefs.check_end rows n k
