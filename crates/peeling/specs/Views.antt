-- What contracts see of a decomposition under way.
use Rattle.std.specs.Prelude.{ℕ, ◌==◌, if◌then◌else◌, None, Some}
use Rattle.definitions.specs.Peelings.{PeelerValue}
use Rattle.bounded_flow.specs.Nets.{NetValue}

-- a net with the weights given: its whole matrix is the piece last given, if any weight was given
abbrev pub peeler_of : NetValue → ℕ → PeelerValue
peeler_of n given = record {
  agents = n.agents;
  columns = n.columns;
  sets = n.sets;
  rest = n.rest;
  left = n.left;
  given = given;
  piece = if given == 0 then None else Some n.whole;
}
