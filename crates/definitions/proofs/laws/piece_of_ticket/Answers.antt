-- Both parts are lemmas.
use Rattle.definitions.proofs.Tickets.{piece_falls, falls_once}
use Rattle.definitions.proofs.laws.piece_of_ticket.Goals as goal

pub returns : goal.returns
returns c weights t h = (piece_falls weights t h, λ k on. falls_once weights t k on)
