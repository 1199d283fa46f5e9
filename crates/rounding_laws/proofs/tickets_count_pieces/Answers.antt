-- Both parts are lemmas.
use Rattle.rounding_laws.proofs.Named.{tickets_count, named_is_unit}
use Rattle.rounding_laws.proofs.tickets_count_pieces.Goals as goal

pub returns : goal.returns
returns c = record { weights = tickets_count; units = named_is_unit }
