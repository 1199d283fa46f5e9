use Rattle.std.proofs.Common.{◌≡◌, ◌+◌, ℕ, List, Vec, Global, length, map, ap, sym, ◌∙◌, subst, All, rules}
use Rattle.std.specs.Vec.{with_items}
use Rattle.std.proofs.lemmas.List.{length-map, with_items_is}
use Rattle.bounded_flow.specs.declared.edge.Edge.{Edge}
use Rattle.bounded_flow.specs.declared.net.Net.TheInside.{Inside}
use Rattle.bounded_flow.specs.Edges.{IsSound, rest_of, wire}
use Rattle.bounded_flow.specs.Ranks.{IsRanked}
use Rattle.bounded_flow.specs.Flows.{IsInside}
use Rattle.bounded_flow.specs.Searches.{IsAdjacency}
use Rattle.bounded_flow.specs.declared.search.Adjacency.{Adjacency}
use Rattle.bounded_flow.specs.Webs.{held_set, held_sets, IsWeb}
use Rattle.bounded_flow.proofs.Balances.{inside_same, wires_many}
use Rattle.bounded_flow.proofs.Kept.{web_with}
use Rattle.bounded_flow.proofs.Resets.{reset_flow}
use Rattle.bounded_flow.proofs.Shown.{IsHeld}
use Rattle.bounded_flow.proofs.net.tests.round_cold.Goals as goal

-- a copy of the edges that was reset
record IsReset (n : Inside) (copy : Vec Edge Global) (read new : List Edge) : Type 0 where
  pub copied : copy.items ≡ n.edges.items
  pub was_read : read ≡ copy.items
  pub sound : All (IsSound n.left) new
  pub rests : map (rest_of n.left) new ≡ map (rest_of n.left) read
  pub wires : map wire new ≡ map wire read
  pub whole : All (λ e. e.whole ≡ 0) new

module _ (n : Inside) (copy : Vec Edge Global) (read new : List Edge) (web : IsHeld n) (reset : IsReset n copy read new) where
  wires_of : map wire new ≡ map wire n.edges.items
  wires_of = reset.wires ∙ ap (map wire) (reset.was_read ∙ reset.copied)

  written : (with_items copy new).items ≡ new
  written = with_items_is copy new (wires_many new read reset.wires ∙ ap length reset.was_read ∙ sym copy.ok.0)

  inside_reset : (many : ℕ) → many ≡ length n.sets.items → All (IsInside (many + 1)) (with_items copy new).items
  inside_reset many is =
      let nodes : length (held_sets n.sets.items) ≡ many = length-map n.sets.items held_set ∙ sym is in
      rw written (inside_same (many + 1) new n.edges.items wires_of (subst (λ (k : ℕ). All (IsInside (k + 1)) n.edges.items) nodes web.flow.inside))

  -- the fields stay in order
  held_reset : (many : ℕ) (a : Adjacency) → many ≡ length n.sets.items → IsAdjacency (many + 1) a (with_items copy new).items
      → IsWeb n.agents n.columns n.left (held_sets n.sets.items) (with_items copy new).items a n.search
  held_reset many a is adjacent =
      let nodes : length (held_sets n.sets.items) ≡ many = length-map n.sets.items held_set ∙ sym is in
      let rests_of : map (rest_of n.left) new ≡ map (rest_of n.left) n.edges.items = reset.rests ∙ ap (map (rest_of n.left)) (reset.was_read ∙ reset.copied) in
      let flow = reset_flow n.left (length (held_sets n.sets.items) + 1) n.edges.items new web.flow reset.sound rests_of wires_of reset.whole in
      let served : IsAdjacency (length (held_sets n.sets.items) + 1) a new = subst (λ (k : ℕ). IsAdjacency (k + 1) a new) (sym nodes) (subst (IsAdjacency (many + 1) a) written adjacent) in
      let held = web_with n.agents n.columns n.left (held_sets n.sets.items) n.edges.items n.adjacency n.search web new a n.search wires_of rests_of flow served web.room in
      subst (λ (es : List Edge). IsWeb n.agents n.columns n.left (held_sets n.sets.items) es a n.search) (sym written) held

pub adjacency_of-requires-clause-inside : goal.adjacency_of-requires-clause-inside
adjacency_of-requires-clause-inside c =
    let n = c.net.inside in
    let copied : c.in_ok-edges.edges.items ≡ n.edges.items = search rules in
    let reset : IsReset n c.in_ok-edges.edges c.deref_mut.result.now c.reset.new.edges = record {
      copied = copied;
      was_read = c.deref_mut.ensures.value;
      sound = c.reset.ensures.sound;
      rests = c.reset.ensures.rests;
      wires = c.reset.ensures.wires;
      whole = c.reset.ensures.whole;
    } in
    let inside = inside_reset n c.in_ok-edges.edges c.deref_mut.result.now c.reset.new.edges c.net.invariant.web reset c.len.result (c.len.ensures ∙ n.sets.ok.0) in
    subst (All (IsInside (c.len.result + 1))) (sym c.deref-2.ensures.value) inside

pub invariant_of-net : goal.invariant_of-net
invariant_of-net c =
    let n = c.net.inside in
    let copied : c.in_ok-edges.edges.items ≡ n.edges.items = search rules in
    let reset : IsReset n c.in_ok-edges.edges c.deref_mut.result.now c.reset.new.edges = record {
      copied = copied;
      was_read = c.deref_mut.ensures.value;
      sound = c.reset.ensures.sound;
      rests = c.reset.ensures.rests;
      wires = c.reset.ensures.wires;
      whole = c.reset.ensures.whole;
    } in
    record {
      web = held_reset n c.in_ok-edges.edges c.deref_mut.result.now c.reset.new.edges c.net.invariant.web reset c.len.result c.in_ok-adjacency.adjacency (c.len.ensures ∙ n.sets.ok.0) (subst (IsAdjacency (c.len.result + 1) c.in_ok-adjacency.adjacency) c.deref-2.ensures.value c.in_ok-adjacency.ensures);
      ranked = subst (λ (es : List Edge). IsRanked es c.rank.new.gaps) c.deref-3.ensures.value c.rank.ensures;
    }
