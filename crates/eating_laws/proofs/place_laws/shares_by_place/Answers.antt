-- Both parts are lemmas.
use Rattle.eating_laws.proofs.Places.{place_until, off_until}
use Rattle.eating_laws.proofs.place_laws.shares_by_place.Goals as goal

pub returns : goal.returns
returns c market D e i apart = record { on = λ k l. place_until market D e i k apart l; off = off_until market D e i }
