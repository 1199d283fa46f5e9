use Rattle.std.proofs.Common.{◌≡◌, ◌∙◌, sym, subst, arith, rules}
use Rattle.definitions.specs.Sets.{IsBihierarchy}
use Rattle.definitions.specs.Values.{IsProblem, ProblemValue}
use Rattle.alloc_gen.specs.Made.{made_problem}
use Rattle.alloc_gen.specs.Words.{seed_words}
use Rattle.alloc_gen.proofs.MadeParts.{made_from_parts, parts_are_lawful}
use Rattle.alloc_gen.proofs.MadeSides.{made_apart}
use Rattle.alloc_gen.proofs.make.Goals as goal

pub new-requires : goal.new-requires
new-requires c =
    rw (c.in_ok-agent_names.ensures, c.in_ok-object_names.ensures, c.in_ok-lists.ensures, c.in_ok-stated.ensures)
    (parts_are_lawful c.args.agents c.args.objects (seed_words c.args.seed) (omega arith) (omega arith) (omega arith))

pub returns-clause-made : goal.returns-clause-made
returns-clause-made c =
    c.in_ok-problem.ensures
    ∙ rw (c.in_ok-agent_names.ensures, c.in_ok-object_names.ensures, c.in_ok-lists.ensures, c.in_ok-stated.ensures) (made_from_parts c.args.agents c.args.objects (seed_words c.args.seed))

pub returns-clause-apart : goal.returns-clause-apart
returns-clause-apart c =
    let lawful : IsProblem c.in_ok-problem.problem = search rules in
    let is : c.in_ok-problem.problem ≡ made_problem (seed_words c.args.seed) c.args.agents c.args.objects = returns-clause-made c in
    subst (λ (p : ProblemValue). IsBihierarchy p.family) (sym is)
    (made_apart (seed_words c.args.seed) c.args.agents c.args.objects (subst IsProblem is lawful))
