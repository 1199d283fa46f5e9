use Rattle.std.proofs.Common.{ℕ, ◌<◌, length, get_or, rules, subst}
use Rattle.std.proofs.lemmas.List.{get_or_default}
use Rattle.bounded_flow.specs.declared.edge.Edge.{Edge}
use Rattle.bounded_flow.specs.Edges.{Leads}
use Rattle.bounded_flow.proofs.Ways.{reached_more, unseen_place}
use Rattle.bounded_flow.proofs.search.visit.Goals as goal

pub returns-then-not-is_seen-clause-reached : goal.returns-then-not-is_seen-clause-reached
returns-then-not-is_seen-clause-reached c =
    let edges = c.args.edges.now in
    let old = c.args.search.now in
    let n : ℕ = length old.place.items in
    let none : Edge = record { tail = 0; head = 0; whole = 0; under = 0; over = 0 } in
    let here : Leads (get_or edges c.args.edge none) c.args.node c.in-Some.next = search rules in
    let leads : (d : Edge) → Leads (get_or edges c.args.edge d) c.args.node c.in-Some.next = λ d. subst (λ (e : Edge). Leads e c.args.node c.in-Some.next) (get_or_default edges c.args.edge none d c.requires.known) here in
    let inside : c.in-Some.next < n = search rules in
    let new : get_or old.place.items c.in-Some.next 0 < old.seen → ⊥ = search rules in
    reached_more edges n c.args.node c.in-Some.next c.args.edge old c.see.new.self c.requires.reached c.see.ensures.room c.see.ensures.marked c.see.ensures.seen c.see.ensures.place c.see.ensures.way
    inside (unseen_place n c.in-Some.next old.place.items old.queue.items old.seen c.requires.reached.marked inside new) c.requires.here.1 c.requires.here.0 c.requires.known leads
