-- Repairs one after another.
use Rattle.std.proofs.Common.{ℕ, List}
use Rattle.bounded_flow.specs.declared.edge.Edge.{Edge}
use Rattle.bounded_flow.specs.declared.search.Search.{Search}
use Rattle.bounded_flow.specs.Flows.{IsFlow, IsRepair}
use Rattle.bounded_flow.specs.Searches.{HasRoom}

-- so far the flow is a flow, and what was done is a repair
pub record Mended (left n : ℕ) (old now : List Edge) (s : Search) : Type 0 where
  pub room : HasRoom n s
  pub flow : IsFlow left n now
  pub repair : IsRepair left old now
