use Rattle.std.proofs.Common.{◌≡◌, ◌∙◌, get_or, List, subst}
use Rattle.bounded_flow.specs.declared.edge.Edge.{Edge}
use Rattle.bounded_flow.specs.Ranks.{IsRanked}
use Rattle.std.specs.Vec.{with_items}
use Rattle.bounded_flow.specs.Webs.{IsWeb, held_sets}
use Rattle.bounded_flow.proofs.Adding.{inside_edges}
use Rattle.bounded_flow.proofs.Built.{web_of_trees, edges_few, flow_of_loaded, rest_is, written}
use Rattle.bounded_flow.proofs.Ranking.{gap_small}
use Rattle.bounded_flow.proofs.Webs.{net_lawful}
use Rattle.bounded_flow.proofs.net.Net.build.Goals as goal

pub adjacency_of-requires-clause-inside : goal.adjacency_of-requires-clause-inside
adjacency_of-requires-clause-inside c =
    let f = c.args.family.now in
    let t = c.args.trees.now in
    let is : c.deref.result.now ≡ c.load.new.edges = c.deref.ensures.value ∙ written f t c.in_ok-edges.edges c.load.new.edges c.in_ok-edges.ensures c.load.ensures.wires in
    rw (is, c.len-nodes.ensures.value) (inside_edges f c.len-nodes.ensures.lawful t c.requires.trees c.load.new.edges c.load.ensures.wires)

pub adjacency_of-requires-clause-few : goal.adjacency_of-requires-clause-few
adjacency_of-requires-clause-few c =
    let f = c.args.family.now in
    let t = c.args.trees.now in
    let is : c.deref.result.now ≡ c.load.new.edges = c.deref.ensures.value ∙ written f t c.in_ok-edges.edges c.load.new.edges c.in_ok-edges.ensures c.load.ensures.wires in
    rw is (edges_few f t c.len-nodes.ensures.lawful c.requires.trees c.load.new.edges c.load.ensures.wires)

pub gaps_of-requires-clause-few : goal.gaps_of-requires-clause-few
gaps_of-requires-clause-few c =
    let f = c.args.family.now in
    let t = c.args.trees.now in
    let is : c.deref-2.result.now ≡ c.load.new.edges = c.deref-2.ensures.value ∙ written f t c.in_ok-edges.edges c.load.new.edges c.in_ok-edges.ensures c.load.ensures.wires in
    rw is (edges_few f t c.len-nodes.ensures.lawful c.requires.trees c.load.new.edges c.load.ensures.wires)

pub gaps_of-requires-clause-room : goal.gaps_of-requires-clause-room
gaps_of-requires-clause-room c =
    let f = c.args.family.now in
    let t = c.args.trees.now in
    let x = c.args.x.now in
    let is : c.deref-2.result.now ≡ c.load.new.edges = c.deref-2.ensures.value ∙ written f t c.in_ok-edges.edges c.load.new.edges c.in_ok-edges.ensures c.load.ensures.wires in
    let flow = flow_of_loaded f t x c.len-nodes.ensures.lawful c.requires.trees c.denominator-left.ensures.lawful c.requires.agents c.requires.columns c.load.new.edges c.load.ensures in
    rw is (λ k d lt. gap_small x.denominator (get_or c.load.new.edges k d) (flow.sound k d lt) c.denominator-left.ensures.lawful.limit)

pub invariant_of-result : goal.invariant_of-result
invariant_of-result c =
    let f = c.args.family.now in
    let t = c.args.trees.now in
    let write = written f t c.in_ok-edges.edges c.load.new.edges c.in_ok-edges.ensures c.load.ensures.wires in
    let is : c.deref.result.now ≡ c.load.new.edges = c.deref.ensures.value ∙ write in
    let web : IsWeb c.agents.result c.columns.result c.denominator-left.result (held_sets c.in_ok-sets.sets.items) (with_items c.in_ok-edges.edges c.load.new.edges).items c.in_ok-adjacency.adjacency c.in_ok-search.search =
    rw (c.agents.ensures.value, c.columns.ensures.value, c.denominator-left.ensures.value, c.in_ok-sets.ensures, write)
    (web_of_trees f t c.args.x.now c.len-nodes.ensures.lawful c.requires.trees c.denominator-left.ensures.lawful c.requires.agents c.requires.columns c.load.new.edges c.load.ensures
    c.in_ok-adjacency.adjacency c.in_ok-search.search (rw (← is, ← c.len-nodes.ensures.value) c.in_ok-adjacency.ensures) (rw (← c.len-nodes.ensures.value) c.in_ok-search.ensures)) in
    record {
      web = web;
      ranked = subst (λ (es : List Edge). IsRanked es c.in_ok-gaps.gaps) c.deref-2.ensures.value c.in_ok-gaps.ensures;
    }

pub returns-clause-net : goal.returns-clause-net
returns-clause-net c =
    let f = c.args.family.now in
    let t = c.args.trees.now in
    let write = written f t c.in_ok-edges.edges c.load.new.edges c.in_ok-edges.ensures c.load.ensures.wires in
    record {
      agents = c.agents.ensures.value;
      columns = c.columns.ensures.value;
      sets = c.in_ok-sets.ensures;
      rest = rw (c.agents.ensures.value, c.columns.ensures.value, c.denominator-left.ensures.value, write)
          (rest_is f t c.args.x.now c.len-nodes.ensures.lawful c.requires.trees c.denominator-left.ensures.lawful c.requires.agents c.requires.columns c.load.new.edges c.load.ensures);
      left = c.denominator-left.ensures.value;
    }

pub returns-clause-lawful : goal.returns-clause-lawful
returns-clause-lawful c =
    net_lawful c.agents.result c.columns.result c.denominator-left.result (held_sets c.in_ok-sets.sets.items) (with_items c.in_ok-edges.edges c.load.new.edges).items
    c.in_ok-adjacency.adjacency c.in_ok-search.search (invariant_of-result c).web
