-- `solve-guarded`: that its outcome has one answer where it refuses, and what is left of it for a solvable problem.
use Rattle.std.proofs.Common.{◌≡◌, ◌∙◌, ℕ, List, ◌++◌, Option, Some, Result, Ok, Err, ap, subst, sym}
use Rattle.std.specs.Prelude.{All}
use Rattle.alloc_input.proofs.KnownSides.{IsKnownSide}
use Rattle.alloc_outcomes.specs.Answers.{Answer, Follows, Gives, HasText, RefusesAlone, refuse, text}
use Rattle.alloc_outcomes.specs.Causes.{trees_cause, too_fine_cause}
use Rattle.alloc_outcomes.specs.Sentences.{Counts}
use Rattle.alloc_outcomes.specs.declared.cause.Cause.{Cause}
use Rattle.alloc_outcomes.specs.declared.cause.Cause.TheVariants as causes
use Rattle.alloc_outcomes.proofs.AnswersLemmas.{IsPart, gives_alone, passed}
use Rattle.alloc_outcomes.proofs.MeaningsLemmas.{IsMeantOfTwo}
use Rattle.alloc_outcomes.proofs.SentencesLemmas.{CameBy}
use Rattle.alloc_readings.specs.Eaten.{EatsOrTooFine}
use Rattle.alloc_readings.specs.Guarded.{GuardsOrNot, IsGuardedFamily, guard_cause}
use Rattle.alloc_readings.specs.Trees.{CrossesOrTrees}
use Rattle.alloc_readings.proofs.EatenLemmas.{one_table}
use Rattle.alloc_readings.proofs.GuardedLemmas.{one_guard}
use Rattle.alloc_readings.proofs.ProblemLemmas.{one_problem, problem_known}
use Rattle.alloc_readings.proofs.TreesLemmas.{apart_has_no_pair, trees_alone}
use Rattle.alloc_steps.specs.Publishing.{IsLotteryText, Published}
use Rattle.alloc_steps.specs.Solve.{IsSolvable}
use Rattle.alloc_steps.specs.SolveGuarded.{EatsOverGuard, GuardedAnswers, KeepsGuardBy, SolveGuardedAnswers, SolvesGuarded, SolvesNearly, solve_guarded_meaning}
use Rattle.alloc_steps.proofs.SolutionsLemmas.{solution_eaten}
use Rattle.alloc_steps.proofs.SolvesWellLemmas.{solves_well_for}
use Rattle.bihierarchy.specs.declared.trees.TreesFault.{TreesFault}
use Rattle.bihierarchy.specs.declared.trees.TreesFault.TheVariants as trees
use Rattle.certificate_laws.proofs.GuardedSides.{guarded_apart}
use Rattle.definitions.specs.Fairness.{guarded_family}
use Rattle.definitions.specs.Lotteries.{LotteryValue, SolvesFor}
use Rattle.definitions.specs.Sets.{FamilyValue, IsBihierarchy}
use Rattle.definitions.specs.Trees.{TreesValue}
use Rattle.definitions.specs.Values.{IsProblem, ProblemValue}
use Rattle.eating.specs.Answers.{IsEaten, IsTooFineAt}
use Rattle.eating.specs.Eaten.{EatenValue}
use Rattle.eating_laws.proofs.Assignment.{eating_assigns}
use Rattle.eating_laws.proofs.Limits.{agent_count}
use Rattle.guard_sets.specs.Guard.{IsAssigned}
use Rattle.guard_sets.specs.declared.fault.GuardFault.{GuardFault}
use Rattle.guard_sets.specs.declared.fault.GuardFault.TheVariants as guard
use Rattle.lottery_laws.proofs.NearLemmas.{guarded_has, solution_near}

-- ---- what is eaten, and its guarded family

-- what is eaten is a random assignment
pub eaten_assigned : (p : ProblemValue) (v : EatenValue) → IsProblem p → IsEaten p v → IsAssigned p v.shares
eaten_assigned p v h (e, by) = record {
  agents = by.shares.agents ∙ agent_count p h;
  columns = by.shares.columns;
  assignment = eating_assigns p v.shares e h by.table by.shares;
}

-- no two sets of one side of its guarded family cross
pub guarded_trees : (p : ProblemValue) (v : EatenValue) (f : FamilyValue) → IsProblem p → IsBihierarchy p.family → IsGuardedFamily p v.shares f → IsBihierarchy f
guarded_trees p v f h apart g = subst IsBihierarchy (sym g.is) (guarded_apart p v.shares h apart.1)

-- a lottery that solves the problem with pieces for this family is one with pieces for the guarded family of its own shares
pub solves_guarded : (p : ProblemValue) (v : EatenValue) (f : FamilyValue) (l : LotteryValue) → IsEaten p v → IsGuardedFamily p v.shares f → SolvesFor f p l → SolvesGuarded p l
solves_guarded p v f l (e, by) g s = record {
  solves = subst (λ x. SolvesFor (guarded_family p x) p l) (sym (solution_eaten p f l e v s by)) (subst (λ (q : FamilyValue). SolvesFor q p l) g.is s);
}

-- ---- one answer

module _ (p : ProblemValue) where
  abbrev AsSolved : Answer → Type 0
  AsSolved = HasText (IsLotteryText (SolvesGuarded p))

  abbrev AsEaten : Answer → Type 0
  AsEaten = Gives too_fine_cause (EatsOrTooFine p) (GuardedAnswers p)

  eaten_alone : RefusesAlone AsEaten
  eaten_alone = gives_alone (one_table p) (λ v eaten. gives_alone (one_guard p v.shares) (λ f guarded due answer h k. absurd h))

  -- ---- the sentence of the headline

  -- the answers that it leaves: such a text, or such a denominator, or such numbers
  abbrev Expects : Answer → Type 0
  Expects (text t) = IsLotteryText (SolvesGuarded p) t
  Expects (refuse (causes.TooFine denominator)) = IsTooFineAt p denominator
  Expects (refuse (causes.OverGuard sets cells)) = EatsOverGuard p sets cells
  Expects (refuse _) = ⊥

  text_end : (answer : Answer) → AsSolved answer → Expects answer
  text_end (text t) h = h
  text_end (refuse cause) h = absurd h

  guard_end : (v : EatenValue) (answer : Answer) (r : Result FamilyValue GuardFault) → IsEaten p v → GuardsOrNot p v.shares r → Follows guard_cause (λ _. AsSolved) r answer → Expects answer
  guard_end v answer (Ok f) eaten m h = text_end answer h
  guard_end v answer (Err (guard.OverGuard sets cells)) eaten over h = subst Expects (sym h) (record { eaten = v; is = eaten; over = over })
  guard_end v answer (Err guard.NoMemory) eaten m h = absurd m

  eaten_end : (answer : Answer) (r : Result EatenValue ℕ) → EatsOrTooFine p r → Follows too_fine_cause (GuardedAnswers p) r answer → Expects answer
  eaten_end answer (Ok v) m h = guard_end v answer h.found m h.holds h.follows
  eaten_end answer (Err denominator) m h = subst Expects (sym h) m

  trees_end : (answer : Answer) (r : Result TreesValue TreesFault) → All IsKnownSide p.family.sets → IsBihierarchy p.family → CrossesOrTrees p.family r
      → Follows trees_cause (λ _. AsEaten) r answer → Expects answer
  trees_end answer (Ok t) known apart m h = eaten_end answer h.found h.holds h.follows
  trees_end answer (Err (trees.Crossing a b)) known apart m h = absurd (apart_has_no_pair p.family known a b apart m)
  trees_end answer (Err trees.NoMemory) known apart m h = absurd m

  guarded_expected : (prefs quotas : List ℕ) (answer : Answer) → IsSolvable prefs quotas p → SolveGuardedAnswers prefs quotas answer → Expects answer
  guarded_expected prefs quotas answer s h =
      let k = passed (one_problem prefs quotas) p s.problem answer h in
      trees_end answer k.found (problem_known prefs quotas p s.problem) s.apart k.holds k.follows

  -- the text of a lottery that solves the problem so publishes it
  guarded_published : (before t : List ℕ) (written : Option (List ℕ)) → IsLotteryText (SolvesGuarded p) t → written ≡ Some (before ++ t) → Published (SolvesNearly p) before written
  guarded_published before t written good did = record {
    lottery = good.lottery;
    plain = good.plain;
    has = record {
      well = solves_well_for (guarded_family p good.lottery.shares) p good.lottery good.has.solves (guarded_has p good.lottery);
      near = solution_near p good.lottery good.has.solves;
    };
    wrote = did ∙ ap (λ (bytes : List ℕ). Some (before ++ bytes)) good.is;
  }

  module _ (prefs quotas : List ℕ) (s : IsSolvable prefs quotas p) (before : List ℕ) (written : Option (List ℕ)) where
    keeps_by : (old new : Counts) (cause : Cause) → CameBy (SolveGuardedAnswers prefs quotas) before written old new cause
        → KeepsGuardBy (Published (SolvesNearly p) before written) (IsTooFineAt p) (EatsOverGuard p) old new cause
    keeps_by old new causes.Done came = guarded_published before came.0 written (guarded_expected prefs quotas (text came.0) s came.1) came.2
    keeps_by old new (causes.ReadFault file) came = came
    keeps_by old new causes.WriteFault came = came
    keeps_by old new causes.NoMemory came = tt
    keeps_by old new cause came = guarded_expected prefs quotas (refuse cause) s came

solve_guarded_alone : (prefs quotas : List ℕ) → RefusesAlone (SolveGuardedAnswers prefs quotas)
solve_guarded_alone prefs quotas =
    gives_alone (one_problem prefs quotas) (λ p read.
    trees_alone p.family (problem_known prefs quotas p read) (λ _. AsEaten p) (λ t u due answer h k. eaten_alone p due answer h k))

-- ---- its meaning

pub solve_guarded_meant : IsMeantOfTwo solve_guarded_meaning
solve_guarded_meant = record {
  alone = solve_guarded_alone;
  holds = λ prefs quotas run came p s. keeps_by p prefs quotas s run.before run.written run.counts run.counts_after run.cause (came s.short.0 s.short.1);
}
