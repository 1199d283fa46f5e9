-- A row in which the last column is never full.
use Rattle.std.proofs.Common.{◌<◌, length, ◌-◌, ◌≡◌, false}
use Rattle.std.proofs.lemmas.List.Elements.{recursion_from_All}
use Rattle.definitions.specs.Sets.{cell_of, holds}
use Rattle.definitions.specs.Values.{Limit}
use Rattle.eating_laws.proofs.Full.{full_never}
use Rattle.eating_laws.proofs.Shares.{row_share}
use Rattle.eating_laws.proofs.share_laws.rows_add_up.Goals as goal

pub returns : goal.returns
returns c market D e i columns last w h inside at free =
    row_share market D e i columns (length w.list - 1) last w h (recursion_from_All (λ a. a < columns) w.list inside) at
    (full_never D market.limits e i last (recursion_from_All (λ (s : Limit). holds s.cells (cell_of i last) ≡ false) market.limits free))
