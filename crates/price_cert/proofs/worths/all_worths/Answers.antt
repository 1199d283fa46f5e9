-- A list has at most 201 places; one list more.
use Rattle.std.proofs.Common.{◌≡◌, ◌∙◌, ◌<◌, map, length, pos, ap, sym, arith}
use Rattle.std.proofs.lemmas.List.{length-map}
use Rattle.definitions.specs.Certificate.{worths_along}
use Rattle.definitions.specs.Sets.{cell_of}
use Rattle.definitions.specs.Values.{list_at}
use Rattle.definitions.proofs.Problems.{list_short}
use Rattle.price_cert.specs.Worths.{place_value, place_in, worths_in}
use Rattle.price_cert.proofs.WorthSteps.{list_more}
use Rattle.price_cert.proofs.worths.all_worths.Goals as goal

pub worths_of-requires-clause-short : goal.worths_of-requires-clause-short
worths_of-requires-clause-short c =
    let p = c.args.problem.now in
    let i = c.loop-agent.agent in
    let count : c.len-agent-end.result ≡ length p.agents = c.len-agent-end.ensures.value ∙ ap length c.agents.ensures.value in
    let known : i < length p.agents = omega (arith, count, c.loop-agent-test.true) in
    let short = list_short p i c.agents.ensures.lawful known in
    let same : length c.in_ok-places.places.items ≡ length (list_at p i) =
    sym (length-map c.in_ok-places.places.items place_value) ∙ ap length c.in_ok-places.ensures.value
    ∙ length-map (list_at p i) (λ a. place_in c.args.recipe.now c.args.trees.now c.args.eaten.now (cell_of i a)) in
    omega (arith, same, short.1, ap length c.deref.ensures.value)

pub loop-agent-preserved : goal.loop-agent-preserved
loop-agent-preserved c =
    list_more (λ w. w.items) (worths_in c.args.recipe.now c.args.problem.now c.args.trees.now c.args.eaten.now) c.loop-agent.agent c.loop-agent.worths.items c.push.new.self.items c.in_ok-worths_of.field-0
    c.in_ok-push.ensures.items c.loop-agent.invariant
    (c.in_ok-worths_of.ensures ∙ ap (λ qs. worths_along (pos 0) (map place_value qs)) c.deref.ensures.value ∙ ap (worths_along (pos 0)) c.in_ok-places.ensures.value)
