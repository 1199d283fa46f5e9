-- Both parts are lemmas.
use Rattle.eating_laws.proofs.Places.{cell_eaten, cells_eaten}
use Rattle.eating_laws.proofs.place_laws.eaten_by_places.Goals as goal

pub returns : goal.returns
returns c market D e t = record { place = cell_eaten market D e t; cells = cells_eaten market D e t }
