-- The lottery that is put together solves the problem.
use Rattle.std.proofs.Common.{◌∙◌, ◌++◌, ◌∷◌, [], ℕ, List, ap, sym}
use Rattle.definitions.specs.Sets.{FamilyValue, ScaledValue}
use Rattle.definitions.specs.Texts.{null_name}
use Rattle.definitions.specs.Values.{ProblemValue, prices_value}
use Rattle.eating.specs.Eaten.{EatenValue}
use Rattle.lottery_file.specs.Lotteries.{lists_value}
use Rattle.peeling.specs.Peelers.{pieces_value}
use Rattle.alloc_steps.proofs.Solving.{family_rows, own_sized, put_together, solves_gathered}
use Rattle.alloc_steps.proofs.gathered.gather.Goals as goal

pub new-requires-clause-agents : goal.new-requires-clause-agents
new-requires-clause-agents c =
    ap (λ (x : ScaledValue). x.agents) c.shares.ensures.value
    ∙ family_rows c.args.problem.now.family c.args.problem.now c.args.eaten.now (prices_value c.args.prices) c.requires.eaten.0 (own_sized c.args.problem.now c.family.ensures.lawful) c.family.ensures.lawful c.requires.eaten.1 c.requires.certifies
    ∙ sym (ap (λ (f : FamilyValue). f.agents) c.family.ensures.value)

pub returns : goal.returns
unfolding put_together
returns c =
    let p : ProblemValue = c.args.problem.now in
    let v : EatenValue = c.args.eaten.now in
    let e : List ℕ = c.requires.eaten.0 in
    solves_gathered p.family p v (prices_value c.args.prices) e (own_sized p c.family.ensures.lawful) c.family.ensures.lawful c.requires.eaten.1 c.requires.certifies
    c.in_ok-agents.agents c.in_ok-columns.columns (lists_value c.in_ok-lists.lists.items) c.in_ok-shares.shares (pieces_value c.in_ok-pieces.pieces) c.in_ok-peeler.peeler c.family.result.now c.shares.result.now
    (c.in_ok-agents.ensures ∙ c.agents.ensures.value)
    (c.in_ok-columns.ensures ∙ ap (λ (names : List (List ℕ)). names ++ null_name ∷ []) c.objects.ensures.value)
    c.in_ok-lists.ensures
    (c.in_ok-shares.ensures ∙ c.shares-2.ensures.value)
    c.family.ensures.value
    c.shares.ensures.value
    c.shares.ensures.lawful.matrix (c.requires.recipe e c.requires.eaten.1)
    c.in_ok-peeler.ensures.start c.in_ok-pieces.ensures.pieces
