-- Numbers of faults, and the fields of a fault.
use Rattle.std.specs.Prelude.{ℕ, ℤ, pos, List, [], ◌∷◌}
use Rattle.cert_check.specs.declared.faults.Fault.{Fault}
use Rattle.cert_check.specs.declared.faults.Fault.TheVariants as faults

-- the number of a check. They run in the order of these lines
abbrev pub fault_number : Fault → ℕ
fault_number (faults.AgentsDiffer _) = 1
fault_number (faults.ColumnsDiffer _) = 2
fault_number (faults.SetsDiffer _ _) = 3
fault_number (faults.ListDiffers _ _) = 4
fault_number (faults.DenominatorDiffers _ _) = 5
fault_number (faults.EntryDiffers _ _ _ _) = 6
fault_number (faults.RowSum _ _) = 7
fault_number (faults.OffList _ _ _) = 8
fault_number (faults.OverCeiling _ _) = 9
fault_number (faults.OverCap _ _ _) = 18
fault_number (faults.WorthNotFalling _ _ _ _) = 10
fault_number (faults.PriceNotFull _ _ _) = 11
fault_number (faults.NotBest _ _ _ _ _) = 12
fault_number (faults.TooManyPieces _ _) = 13
fault_number (faults.CellNotRounded _ _ _ _) = 14
fault_number (faults.SetNotRounded _ _ _) = 15
fault_number (faults.SamePieces _ _) = 16
fault_number (faults.CellNotMet _ _ _ _) = 17

-- the fields of a fault of pieces in order, and none of another
abbrev pub piece_fields : Fault → List ℤ
piece_fields (faults.TooManyPieces pieces bound) = pos pieces ∷ pos bound ∷ []
piece_fields (faults.CellNotRounded piece agent column count) = pos piece ∷ pos agent ∷ pos column ∷ pos count ∷ []
piece_fields (faults.SetNotRounded piece set sum) = pos piece ∷ pos set ∷ pos sum ∷ []
piece_fields (faults.SamePieces first second) = pos first ∷ pos second ∷ []
piece_fields (faults.CellNotMet agent column given due) = pos agent ∷ pos column ∷ pos given ∷ pos due ∷ []
piece_fields _ = []

-- the same of a fault of shares, sets and prices, or of pieces
abbrev pub price_fields : Fault → List ℤ
price_fields (faults.RowSum agent sum) = pos agent ∷ pos sum ∷ []
price_fields (faults.OffList agent column units) = pos agent ∷ pos column ∷ pos units ∷ []
price_fields (faults.OverCeiling set sum) = pos set ∷ pos sum ∷ []
price_fields (faults.OverCap agent column units) = pos agent ∷ pos column ∷ pos units ∷ []
price_fields (faults.WorthNotFalling agent place worth next) = pos agent ∷ pos place ∷ worth ∷ next ∷ []
price_fields (faults.PriceNotFull set price sum) = pos set ∷ pos price ∷ pos sum ∷ []
price_fields (faults.NotBest agent place gain other better) = pos agent ∷ pos place ∷ gain ∷ pos other ∷ better ∷ []
price_fields fault = piece_fields fault

-- the fields of a fault in order
abbrev pub fault_fields : Fault → List ℤ
fault_fields (faults.AgentsDiffer place) = pos place ∷ []
fault_fields (faults.ColumnsDiffer place) = pos place ∷ []
fault_fields (faults.SetsDiffer due found) = pos due ∷ pos found ∷ []
fault_fields (faults.ListDiffers agent place) = pos agent ∷ pos place ∷ []
fault_fields (faults.DenominatorDiffers due found) = pos due ∷ pos found ∷ []
fault_fields (faults.EntryDiffers agent column due found) = pos agent ∷ pos column ∷ pos due ∷ pos found ∷ []
fault_fields fault = price_fields fault
