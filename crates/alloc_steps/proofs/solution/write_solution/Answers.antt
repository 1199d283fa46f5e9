-- The lottery that is written solves the problem.
use Rattle.std.proofs.Common.{◌∙◌, ◌++◌, ◌∷◌, [], ℕ, List, ap}
use Rattle.definitions.specs.Lotteries.{SolvesFor}
use Rattle.definitions.specs.Sets.{FamilyValue, ScaledValue}
use Rattle.definitions.specs.Texts.{null_name}
use Rattle.definitions.specs.Values.{ProblemValue, prices_value}
use Rattle.eating.specs.Eaten.{EatenValue}
use Rattle.lottery_file.specs.Lotteries.{lists_value}
use Rattle.alloc_steps.proofs.Decomposed.{begun}
use Rattle.alloc_steps.proofs.Solving.{family_rows, shapes_made, solved_made}
use Rattle.alloc_steps.proofs.solution.write_solution.Goals as goal

pub new-requires-clause-agents : goal.new-requires-clause-agents
new-requires-clause-agents g c =
    ap (λ (x : ScaledValue). x.agents) c.shares-shares.ensures.value
    ∙ family_rows c.args.family.now c.args.problem.now c.args.eaten.now (prices_value c.args.prices.now) c.requires.eaten.0 (record { agents = c.requires.agents; columns = c.requires.columns }) c.objects.ensures.lawful c.requires.eaten.1 c.requires.certifies

pub write_peeled-requires-clause-shapes : goal.write_peeled-requires-clause-shapes
write_peeled-requires-clause-shapes g c =
    shapes_made c.args.family.now c.args.problem.now c.args.eaten.now (prices_value c.args.prices.now) c.requires.eaten.0 (record { agents = c.requires.agents; columns = c.requires.columns }) c.objects.ensures.lawful c.requires.eaten.1 c.requires.certifies _ _ _ _
    c.agents-2.ensures.value
    (c.in-Ok.ensures ∙ ap (λ (names : List (List ℕ)). names ++ null_name ∷ []) c.objects.ensures.value)
    (ap lists_value c.deref.ensures.value ∙ c.in-Ok-lists_of.ensures)
    c.shares-shares.ensures.value

pub returns-clause-lottery : goal.returns-clause-lottery
returns-clause-lottery g c =
    let f : FamilyValue = c.args.family.now in
    let p : ProblemValue = c.args.problem.now in
    let v : EatenValue = c.args.eaten.now in
    let e : List ℕ = c.requires.eaten.0 in
    begun g.K.Sink.written (SolvesFor f p) c.args.out.now c.write_peeled.new.out c.write_peeled.result
    (solved_made f p v (prices_value c.args.prices.now) e (record { agents = c.requires.agents; columns = c.requires.columns }) c.objects.ensures.lawful c.requires.eaten.1 c.requires.certifies
    g.K.Sink.written c.in-Ok-new.peeler c.args.out.now c.write_peeled.new.out c.write_peeled.result
    c.shares-shares.ensures.lawful.matrix (c.requires.recipe e c.requires.eaten.1) _ _ _ _
    c.agents-2.ensures.value
    (c.in-Ok.ensures ∙ ap (λ (names : List (List ℕ)). names ++ null_name ∷ []) c.objects.ensures.value)
    (ap lists_value c.deref.ensures.value ∙ c.in-Ok-lists_of.ensures)
    c.shares-shares.ensures.value
    c.in-Ok-new.ensures.start c.in-Ok-new.ensures.lawful c.write_peeled.ensures.pieces)
