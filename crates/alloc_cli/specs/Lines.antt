-- The line of a cause.
use Rattle.std.specs.Prelude.{ℕ, ℤ, List, [], ◌∷◌, ◌++◌, codes, decimal}
use Rattle.std.specs.Fmt.{signed_decimal}
use Rattle.std.specs.List.{flat_map}
use Rattle.alloc_input.specs.Kinds.{kind_number as input_kind_number}
use Rattle.alloc_outcomes.specs.declared.cause.Cause.{Cause}
use Rattle.alloc_outcomes.specs.declared.cause.Cause.TheVariants as causes
use Rattle.cert_check.specs.Faults.{fault_number, fault_fields}
use Rattle.lottery_file.specs.Kinds.{kind_number}
use Rattle.seed_pact.specs.Kinds.{kind_number as pact_kind_number}

-- texts in a row
abbrev pub joined : List (List ℕ) → List ℕ
joined [] = []
joined (part ∷ parts) = part ++ joined parts

-- fields in order, each after a blank
abbrev pub fields_text : List ℤ → List ℕ
fields_text fields = flat_map (λ field. codes " " ++ signed_decimal field) fields

-- the line of a cause, and nothing for Done
abbrev pub line_of : Cause → List ℕ
line_of causes.Done = []
line_of (causes.AuditFailed fault) =
    joined (codes "audit failed: " ∷ decimal (fault_number fault)
    ∷ fields_text (fault_fields fault) ∷ codes "\n" ∷ [])
line_of causes.Usage = codes "usage\n"
line_of (causes.ReadFault file) = joined (codes "read: file " ∷ decimal file ∷ codes "\n" ∷ [])
line_of (causes.TooLong file) = joined (codes "too long: file " ∷ decimal file ∷ codes "\n" ∷ [])
line_of (causes.Input fault) =
    joined (codes "input: file " ∷ decimal fault.file ∷ codes " record " ∷ decimal fault.record_no
    ∷ codes " kind " ∷ decimal (input_kind_number fault.kind) ∷ codes "\n" ∷ [])
line_of (causes.Lottery fault) =
    joined (codes "lottery: record " ∷ decimal fault.record_no ∷ codes " kind "
    ∷ decimal (kind_number fault.kind) ∷ codes "\n" ∷ [])
line_of (causes.Pact fault) =
    joined (codes "pact: record " ∷ decimal fault.record_no ∷ codes " kind "
    ∷ decimal (pact_kind_number fault.kind) ∷ codes "\n" ∷ [])
line_of (causes.Crossing first second) =
    joined (codes "crossing: sets " ∷ decimal first ∷ codes " " ∷ decimal second ∷ codes "\n" ∷ [])
line_of causes.NoSides = codes "no sides\n"
line_of (causes.Infeasible set sum) =
    joined (codes "infeasible: set " ∷ decimal set ∷ codes " sum " ∷ decimal sum ∷ codes "\n" ∷ [])
line_of (causes.TooFine denominator) =
    joined (codes "too fine: " ∷ decimal denominator ∷ codes "\n" ∷ [])
line_of (causes.OverGuard sets cells) =
    joined (codes "over guard: sets " ∷ decimal sets ∷ codes " cells " ∷ decimal cells ∷ codes "\n"
    ∷ [])
line_of (causes.OverTotal agent column) =
    joined (codes "over total: agent " ∷ decimal agent ∷ codes " column " ∷ decimal column
    ∷ codes "\n" ∷ [])
line_of (causes.TicketOutOfRange ticket denominator) =
    joined (codes "ticket: " ∷ decimal ticket ∷ codes " of " ∷ decimal denominator ∷ codes "\n"
    ∷ [])
line_of causes.NoTicket = codes "no ticket\n"
line_of causes.WriteFault = codes "write\n"
line_of causes.NoMemory = codes "memory\n"
