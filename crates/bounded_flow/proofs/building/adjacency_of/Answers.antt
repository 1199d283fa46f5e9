use Rattle.std.proofs.Common.{arith, sym}
use Rattle.std.proofs.lemmas.List.Sorted.{IsNonDecreasingBy-from_all_adjacent}
use Rattle.bounded_flow.specs.declared.search.End.{End}
use Rattle.bounded_flow.proofs.Adjacent.{no_less_node, adjacency_made}
use Rattle.bounded_flow.proofs.building.adjacency_of.Goals as goal

pub firsts_of-requires-clause-order : goal.firsts_of-requires-clause-order
firsts_of-requires-clause-order c =
    rw c.deref.ensures.value (IsNonDecreasingBy-from_all_adjacent (λ (e : End). e.node) c.sort.new.self.items (λ k d l. no_less_node _ _ _ (c.in_ok-sort.ensures.sorted k d (omega arith) l)))

pub returns : goal.returns
returns c =
    adjacency_made c.args.nodes c.args.edges.now c.in_ok-ends.ends.items (record { ends = c.sort.new.self; first = c.in_ok-first.first })
    c.in_ok-ends.ensures.ends c.in_ok-sort.ensures.permutation
    (IsNonDecreasingBy-from_all_adjacent (λ (e : End). e.node) c.sort.new.self.items (λ k d l. no_less_node _ _ _ (c.in_ok-sort.ensures.sorted k d (omega arith) l)))
    (rw (sym c.deref.ensures.value) c.in_ok-first.ensures)
