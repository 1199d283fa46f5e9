use Rattle.std.proofs.Common.{◌≡◌, ◌+◌, ◌-◌, ◌*◌, ◌<◌, ◌∙◌, length, sym, ap, refl, arith, length-set}
use Rattle.definitions.specs.Trees.{chain_of, parent_at}
use Rattle.side_laws.proofs.Trees.{parent_known}
use Rattle.bounded_flow.specs.declared.edge.Edge.{Edge}
use Rattle.bounded_flow.specs.Loads.{empty_edge, climbed, raised}
use Rattle.bounded_flow.proofs.Climbing.{known_of, some_of, chain_sets, chain_first, chain_next, chain_falls, chain_leaves, climbed_step, climbed_none, raised_other, edge_at}
use Rattle.bounded_flow.proofs.building.climb.Goals as goal

pub loop-at-init : goal.loop-at-init
loop-at-init c =
    let cells : c.agents.result * c.columns.result ≡ c.args.family.now.agents * c.args.family.now.columns = rw (c.agents.ensures.value, c.columns.ensures.value) refl in
    record {
      many = rw (c.agents.ensures.value, c.columns.ensures.value) c.requires.many;
      here = c.requires.start;
      room = λ s d m. (
          let known = chain_sets c.args.family.now c.agents.ensures.lawful c.args.trees.now c.requires.trees c.args.start c.requires.start s m in
          let low = known.0 in
          let high = known.1 in
          let many = c.requires.many in
          c.requires.room (c.agents.result * c.columns.result + s - 1) d (omega (arith, cells, low, high, many)));
      ends = refl;
    }

pub overflow_add-edges-in-Some : goal.overflow_add-edges-in-Some
overflow_add-edges-in-Some c =
    let s = c.in-Some.set in
    let known = known_of c.args.family.now c.agents.ensures.lawful c.args.trees.now c.requires.trees c.loop-at.at c.loop-at.invariant.here s c.in-Some.is in
    let room = c.loop-at.invariant.room s (empty_edge (0, 0)) (rw c.in-Some.is (chain_first c.args.family.now c.agents.ensures.lawful c.args.trees.now c.requires.trees s known)) in
    omega arith

pub loop-at-smaller : goal.loop-at-smaller
loop-at-smaller c =
    let s = c.in-Some.set in
    let known = known_of c.args.family.now c.agents.ensures.lawful c.args.trees.now c.requires.trees c.loop-at.at c.loop-at.invariant.here s c.in-Some.is in
    let less : length (chain_of c.args.trees.now c.parent-at.result) < length (chain_of c.args.trees.now c.loop-at.at) =
    rw (c.parent-at.ensures.value, c.in-Some.is) (chain_falls c.args.family.now c.agents.ensures.lawful c.args.trees.now c.requires.trees s known) in
    less

pub loop-at-preserved : goal.loop-at-preserved
loop-at-preserved c =
    let s = c.in-Some.set in
    let f = c.args.family.now in
    let t = c.args.trees.now in
    let family = c.agents.ensures.lawful in
    let known = known_of f family t c.requires.trees c.loop-at.at c.loop-at.invariant.here s c.in-Some.is in
    let cells = c.agents.result * c.columns.result in
    let edges = c.loop-at.edges in
    record {
      many = (let e = edge_at edges (cells + s - 1) in length-set edges (cells + s - 1) (record e { under = e.under + c.args.units }) ∙ c.loop-at.invariant.many);
      here = rw c.parent-at.ensures.value (some_of f family t c.requires.trees (parent_at t s) (parent_known f family.lawful t c.requires.trees s known));
      room = λ u d m. (
          let above = rw c.parent-at.ensures.value at m in
          let low = (chain_sets f family t c.requires.trees (parent_at t s) (some_of f family t c.requires.trees (parent_at t s) (parent_known f family.lawful t c.requires.trees s known)) u above).0 in
          let some = known.0 in
          let stay = raised_other c.args.units (cells + s - 1) (cells + u - 1) edges d (λ e. chain_leaves f family t c.requires.trees s u known above (omega (arith, e, low, some))) in
          let old = c.loop-at.invariant.room u d (rw c.in-Some.is (chain_next f family t c.requires.trees s known u above)) in
          omega (arith, ap (λ (e : Edge). e.under) stay, old));
      ends = ap (λ o. climbed cells c.args.units (chain_of t o) (raised c.args.units (cells + s - 1) edges)) c.parent-at.ensures.value
          ∙ climbed_step f family t c.requires.trees cells c.args.units s edges known
          ∙ ap (λ o. climbed cells c.args.units (chain_of t o) edges) (sym c.in-Some.is) ∙ c.loop-at.invariant.ends;
    }

pub returns : goal.returns
returns c =
    sym (climbed_none c.args.family.now c.agents.ensures.lawful c.args.trees.now c.requires.trees (c.agents.result * c.columns.result) c.args.units c.loop-at.edges)
    ∙ ap (λ o. climbed (c.agents.result * c.columns.result) c.args.units (chain_of c.args.trees.now o) c.loop-at.edges) (sym c.in_default.is) ∙ c.loop-at.invariant.ends
    ∙ rw (c.agents.ensures.value, c.columns.ensures.value) refl
