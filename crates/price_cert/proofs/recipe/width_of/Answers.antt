-- One list more, and all lists.
use Rattle.std.proofs.Common.{◌≡◌, ◌+◌, ◌<◌, ◌∙◌, List, ℕ, [], length, get_or, ap, sym, arith}
use Rattle.std.specs.Prelude.{max, fold}
use Rattle.std.proofs.lemmas.Option.{unwrap_or-slice_get}
use Rattle.std.proofs.lemmas.List.{take_all}
use Rattle.std.proofs.lemmas.List.Sums.{fold_more}
use Rattle.definitions.specs.Values.{list_at}
use Rattle.definitions.proofs.Problems.{list_short}
use Rattle.price_cert.proofs.recipe.width_of.Goals as goal

pub loop-agent-preserved : goal.loop-agent-preserved
loop-agent-preserved c =
    let p = c.args.problem.now in
    let i = c.loop-agent.agent in
    let h = c.agents.ensures.lawful in
    let many : length p.lists ≡ length p.agents = h.lists_many in
    let count : c.len-agent-end.result ≡ length p.agents = c.len-agent-end.ensures.value ∙ ap length c.agents.ensures.value in
    let known : i < length p.agents = omega (arith, count, c.loop-agent-test.true) in
    let short = list_short p i h known in
    let same : length c.list.result.now ≡ length (list_at p i) = ap length c.list.ensures.value in
    let more = fold_more (λ (a : ℕ) (list : List ℕ). max a (length list)) 0 p.lists i [] (omega (arith, known, many)) in
    let at : length (list_at p i) ≡ length (get_or p.lists i []) = ap length (unwrap_or-slice_get p.lists i []) in (
      c.max-longest.ensures ∙ ap (λ n. max c.loop-agent.longest n) (same ∙ at) ∙ ap (λ n. max n (length (get_or p.lists i []))) c.loop-agent.invariant.0 ∙ sym more,
      omega (arith, c.max-longest.ensures, same, short.1, c.loop-agent.invariant.1),
    )

pub returns : goal.returns
returns c =
    let p = c.args.problem.now in
    let h = c.agents.ensures.lawful in
    let count : c.len-agent-end.result ≡ length p.agents = c.len-agent-end.ensures.value ∙ ap length c.agents.ensures.value in
    let many : length p.lists ≡ length p.agents = h.lists_many in
    let all = take_all c.loop-agent.agent p.lists (omega (arith, count, many, c.loop-agent-test.false)) in
    record {
      value = ap (λ n. n + 1) (c.loop-agent.invariant.0 ∙ ap (fold (λ (a : ℕ) (list : List ℕ). max a (length list)) 0) all);
      small = omega (arith, c.loop-agent.invariant.1);
      lawful = h;
    }
