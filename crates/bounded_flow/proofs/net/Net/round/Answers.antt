use Rattle.std.proofs.Common.{subst, ◌≡◌, ◌<◌, ◌≤◌, List, length, arith, ap, sym, ◌∙◌, All}
use Rattle.std.specs.Vec.{with_items}
use Rattle.std.proofs.lemmas.List.{with_items_is}
use Rattle.bounded_flow.specs.declared.edge.Edge.{Edge}
use Rattle.bounded_flow.specs.declared.net.Net.TheInside.{Inside}
use Rattle.bounded_flow.specs.declared.search.Search.{Search}
use Rattle.bounded_flow.specs.Edges.{gap_of}
use Rattle.bounded_flow.specs.Flows.{IsFlow, IsRepair}
use Rattle.bounded_flow.specs.Nets.{NetValue}
use Rattle.bounded_flow.specs.Searches.{HasRoom}
use Rattle.bounded_flow.specs.Ranks.{IsRanked}
use Rattle.bounded_flow.proofs.Balances.{wires_many}
use Rattle.bounded_flow.proofs.Settled.{IsSettled, settled_held, settled_lawful, settled_round, settled_stays}
use Rattle.bounded_flow.proofs.Shown.{shown}
use Rattle.bounded_flow.proofs.net.Net.round.Goals as goal

-- the edges as the repairs left them are those that are written
settled_of : (n : Inside) (read new : List Edge) (s : Search) → read ≡ n.edges.items → HasRoom (length n.search.place.items) s → IsFlow n.left (length n.search.place.items) new → IsRepair n.left read new
    → All (λ e. gap_of e < n.left) new → IsSettled n read new (with_items n.edges new).items s
settled_of n read new s is room flow repair settled = record {
  was_read = is;
  written = with_items_is n.edges new (wires_many new read repair.wires ∙ ap length is ∙ sym n.edges.ok.0);
  room = room;
  flow = flow;
  repair = repair;
  settled = settled;
}

some : (n : Inside) (v : NetValue) → shown n ≡ v → 1 ≤ v.left → 1 ≤ n.left
some n v is one = (let e = ap (λ (u : NetValue). u.left) is in omega (arith, one, e))

pub invariant_of-self : goal.invariant_of-self
invariant_of-self c =
    let n = c.self.inside in
    let repairs = c.settle.ensures in
    let settled = settled_of n c.deref_mut.result.now c.settle.new.edges c.settle.new.search c.deref_mut.ensures.value repairs.room repairs.flow repairs.repair repairs.settled in
    record {
      ranked = subst (λ (es : List Edge). IsRanked es c.settle.new.gaps) (sym settled.written) repairs.ranked;
      web = settled_held n c.self.invariant.web c.deref_mut.result.now c.settle.new.edges (with_items n.edges c.settle.new.edges).items c.settle.new.search
          (settled_of n c.deref_mut.result.now c.settle.new.edges c.settle.new.search c.deref_mut.ensures.value repairs.room repairs.flow repairs.repair repairs.settled);
    }

pub returns-clause-rounds : goal.returns-clause-rounds
returns-clause-rounds c =
    let n = c.self.inside in
    let repairs = c.settle.ensures in
    settled_round n c.self.invariant.web c.deref_mut.result.now c.settle.new.edges (with_items n.edges c.settle.new.edges).items c.settle.new.search
    (settled_of n c.deref_mut.result.now c.settle.new.edges c.settle.new.search c.deref_mut.ensures.value repairs.room repairs.flow repairs.repair repairs.settled)
    (some n c.args.self.now c.self.view_is c.requires)

pub returns-clause-stays : goal.returns-clause-stays
returns-clause-stays c =
    let n = c.self.inside in
    let repairs = c.settle.ensures in
    settled_stays n c.self.invariant.web c.deref_mut.result.now c.settle.new.edges (with_items n.edges c.settle.new.edges).items c.settle.new.search
    (settled_of n c.deref_mut.result.now c.settle.new.edges c.settle.new.search c.deref_mut.ensures.value repairs.room repairs.flow repairs.repair repairs.settled)
    c.args.self.now c.self.view_is

pub returns-clause-lawful : goal.returns-clause-lawful
returns-clause-lawful c =
    let n = c.self.inside in
    let repairs = c.settle.ensures in
    settled_lawful n c.self.invariant.web c.deref_mut.result.now c.settle.new.edges (with_items n.edges c.settle.new.edges).items c.settle.new.search
    (settled_of n c.deref_mut.result.now c.settle.new.edges c.settle.new.search c.deref_mut.ensures.value repairs.room repairs.flow repairs.repair repairs.settled)
