-- What a net shows once its edges are settled.
use Rattle.std.proofs.Common.{◌≡◌, ℕ, ◌+◌, ◌*◌, ◌<◌, ◌≤◌, List, length, sym, ap, ◌∙◌, subst, All}
use Rattle.definitions.specs.Rounding.{Rounds}
use Rattle.bounded_flow.specs.declared.edge.Edge.{Edge}
use Rattle.bounded_flow.specs.declared.net.Net.TheInside.{Inside}
use Rattle.bounded_flow.specs.declared.search.Search.{Search}
use Rattle.bounded_flow.specs.Edges.{rest_of, gap_of}
use Rattle.bounded_flow.specs.Flows.{IsFlow, IsRepair}
use Rattle.bounded_flow.specs.Nets.{NetValue, IsNet, set_cells_of}
use Rattle.bounded_flow.specs.Searches.{HasRoom}
use Rattle.bounded_flow.specs.Webs.{IsWeb, held_sets}
use Rattle.bounded_flow.proofs.Adjacent.{adjacency_later}
use Rattle.bounded_flow.proofs.Kept.{values_kept, web_with}
use Rattle.bounded_flow.proofs.Shown.{shown, IsHeld}
use Rattle.bounded_flow.proofs.Webs.{cell_values, all_round, net_lawful}

-- the fields with other edges and another state of the search
abbrev pub HeldWith : Inside → List Edge → Search → Type 0
HeldWith n edges s = IsWeb n.agents n.columns n.left (held_sets n.sets.items) edges n.adjacency s

-- what is shown of the fields with other edges
abbrev pub shown_with : Inside → List Edge → NetValue
shown_with n edges = record {
  agents = n.agents;
  columns = n.columns;
  sets = held_sets n.sets.items;
  rest = cell_values (rest_of n.left) (n.agents * n.columns) edges;
  left = n.left;
  whole = cell_values (λ e. e.whole) (n.agents * n.columns) edges;
}

-- what the repairs answer, where the edges were read as `read`, are written as `new`, and stand as `now`
pub record IsSettled (n : Inside) (read new now : List Edge) (s : Search) : Type 0 where
  pub was_read : read ≡ n.edges.items
  pub written : now ≡ new
  pub room : HasRoom (length n.search.place.items) s
  pub flow : IsFlow n.left (length n.search.place.items) new
  pub repair : IsRepair n.left read new
  pub settled : All (λ e. gap_of e < n.left) new

module _ (n : Inside) (web : IsHeld n) (read new now : List Edge) (s : Search) (settled : IsSettled n read new now s) where
  repair : IsRepair n.left n.edges.items now
  repair = subst (λ (es : List Edge). IsRepair n.left es now) settled.was_read (subst (λ (es : List Edge). IsRepair n.left read es) (sym settled.written) settled.repair)

  -- the fields stay in order
  pub settled_held : HeldWith n now s
  settled_held =
      let nodes = web.room.places in
      web_with n.agents n.columns n.left (held_sets n.sets.items) n.edges.items n.adjacency n.search web now n.adjacency s repair.wires repair.rests
      (subst (λ (es : List Edge). IsFlow n.left (length (held_sets n.sets.items) + 1) es) (sym settled.written) (subst (λ (k : ℕ). IsFlow n.left k new) nodes settled.flow))
      (adjacency_later (length (held_sets n.sets.items) + 1) n.edges.items now n.adjacency repair.wires repair.even web.adjacent)
      (subst (λ (k : ℕ). HasRoom k s) nodes settled.room)

  pub settled_lawful : IsNet (shown_with n now)
  settled_lawful = net_lawful n.agents n.columns n.left (held_sets n.sets.items) now n.adjacency s settled_held

  -- the whole matrix rounds what is left
  pub settled_round : 1 ≤ n.left → Rounds n.columns (set_cells_of (held_sets n.sets.items)) (shown_with n now).rest n.left (shown_with n now).whole
  settled_round one = all_round n.agents n.columns n.left (held_sets n.sets.items) now n.adjacency s settled_held one (subst (λ (es : List Edge). All (λ e. gap_of e < n.left) es) (sym settled.written) settled.settled)

  -- and nothing else has changed
  pub settled_stays : (v : NetValue) → shown n ≡ v → shown_with n now ≡ record v { whole = (shown_with n now).whole }
  settled_stays v is =
      ap (λ (r : List ℕ). record (shown_with n now) { rest = r }) (values_kept (rest_of n.left) (n.agents * n.columns) now n.edges.items repair.rests)
      ∙ ap (λ (u : NetValue). record u { whole = (shown_with n now).whole }) is
