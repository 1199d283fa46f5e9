-- What a text of quotas reads as a family, over the names of given shares.
use Rattle.std.specs.Prelude.{◌≡◌, ℕ, false, List, Result, Ok, Err}
use Rattle.alloc_input.specs.Quotas.{TextReadsAsFamily, QuotasHaveFault}
use Rattle.alloc_input.specs.Stated.{Setting, setting_of}
use Rattle.alloc_input.specs.declared.faults.InputFault.{InputFault}
use Rattle.definitions.specs.Sets.{FamilyValue}
use Rattle.definitions.specs.Values.{SharesValue}

-- what quotas for these shares speak of: their agents and objects
abbrev pub over_names : SharesValue → Setting
over_names given = setting_of given.agents given.objects false

-- a text of quotas reads as this family over the names of the shares, or it has this first fault
abbrev pub QuotasTextReads : SharesValue → List ℕ → Result FamilyValue InputFault → Type 0
QuotasTextReads given bytes (Ok f) = TextReadsAsFamily (over_names given) bytes f
QuotasTextReads given bytes (Err fault) =
    (fault.file ≡ 2) × QuotasHaveFault (over_names given) bytes fault.record_no fault.kind
