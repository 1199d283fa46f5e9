use Rattle.std.proofs.Common.{◌≡◌, ℕ, ◌+◌, ◌-◌, ◌<◌, ◌^◌, length, get_or, true}
use Rattle.std.specs.Prelude.{IfSome, nat_eq}
use Rattle.std.specs.Set.{is_member}
use Rattle.definitions.specs.Sets.{IsSet}
use Rattle.definitions.specs.Trees.{chain_of}
use Rattle.bounded_flow.specs.declared.edge.Edge.{Edge}
use Rattle.bounded_flow.specs.Loads.{climbed}
use Rattle.bounded_flow.proofs.building.climb.Given as goal

abbrev pub invariant-loop-at : goal.invariant-loop-at
invariant-loop-at l = record {
  many : length l.edges ≡ l.cells + length l.family.sets;
  here : IfSome l.at (IsSet l.family);
  room : (s : ℕ) (d : Edge) → is_member nat_eq (chain_of l.trees l.at) s ≡ true → (get_or l.edges (l.cells + s - 1) d).under + l.units < 2 ^ 128;
  ends : climbed l.cells l.units (chain_of l.trees l.at) l.edges ≡ climbed l.cells l.units (chain_of l.trees l.fn.start) l.fn.edges;
}

abbrev pub decreases-loop-at : goal.decreases-loop-at
decreases-loop-at l = length (chain_of l.trees l.at)
