-- `solve`: that its outcome has one answer where it refuses, and what is left of it for a solvable problem.
use Rattle.std.proofs.Common.{◌≡◌, ◌∙◌, ℕ, List, ◌++◌, Option, Some, Result, Ok, Err, ap}
use Rattle.std.specs.Prelude.{All}
use Rattle.alloc_input.proofs.KnownSides.{IsKnownSide}
use Rattle.alloc_outcomes.specs.Answers.{Answer, Follows, Gives, HasText, RefusesAlone}
use Rattle.alloc_outcomes.specs.Causes.{trees_cause, too_fine_cause}
use Rattle.alloc_outcomes.proofs.AnswersLemmas.{gives_alone, passed}
use Rattle.alloc_outcomes.proofs.MeaningsLemmas.{IsMeantOfTwo}
use Rattle.alloc_outcomes.proofs.SentencesLemmas.{Expected, expected_text, expected_refusal, keeps}
use Rattle.alloc_readings.specs.Eaten.{EatsOrTooFine}
use Rattle.alloc_readings.specs.Trees.{CrossesOrTrees}
use Rattle.alloc_readings.proofs.EatenLemmas.{one_table}
use Rattle.alloc_readings.proofs.ProblemLemmas.{one_problem, problem_known}
use Rattle.alloc_readings.proofs.TreesLemmas.{apart_has_no_pair, trees_alone}
use Rattle.alloc_steps.specs.Publishing.{IsLotteryText, Published}
use Rattle.alloc_steps.specs.Solve.{solve_meaning, IsSolvable, SolveAnswers}
use Rattle.alloc_steps.specs.SolvesWell.{SolvesWell}
use Rattle.alloc_steps.proofs.SolvesWellLemmas.{solves_well_of}
use Rattle.bihierarchy.specs.declared.trees.TreesFault.{TreesFault}
use Rattle.bihierarchy.specs.declared.trees.TreesFault.TheVariants as trees
use Rattle.definitions.specs.Lotteries.{Solves}
use Rattle.definitions.specs.Sets.{IsBihierarchy}
use Rattle.definitions.specs.Trees.{TreesValue}
use Rattle.definitions.specs.Values.{ProblemValue}
use Rattle.eating.specs.Answers.{IsTooFineAt}
use Rattle.eating.specs.Eaten.{EatenValue}

module _ (p : ProblemValue) where
  abbrev AsSolved : Answer → Type 0
  AsSolved = HasText (IsLotteryText (Solves p))

  abbrev AsEaten : Answer → Type 0
  AsEaten = Gives too_fine_cause (EatsOrTooFine p) (λ _. AsSolved)

  -- what is eaten decides, and then nothing is refused
  eaten_alone : RefusesAlone AsEaten
  eaten_alone = gives_alone (one_table p) (λ v eaten due answer h k. absurd h)

  eaten_end : (answer : Answer) (r : Result EatenValue ℕ) → EatsOrTooFine p r → Follows too_fine_cause (λ _. AsSolved) r answer → Expected (IsLotteryText (Solves p)) (IsTooFineAt p) answer
  eaten_end answer (Ok v) m h = expected_text (IsLotteryText (Solves p)) (IsTooFineAt p) answer h
  eaten_end answer (Err denominator) m h = expected_refusal (IsLotteryText (Solves p)) (IsTooFineAt p) denominator answer h m

  trees_end : (answer : Answer) (r : Result TreesValue TreesFault) → All IsKnownSide p.family.sets → IsBihierarchy p.family → CrossesOrTrees p.family r
      → Follows trees_cause (λ _. AsEaten) r answer → Expected (IsLotteryText (Solves p)) (IsTooFineAt p) answer
  trees_end answer (Ok t) known apart m h = eaten_end answer h.found h.holds h.follows
  trees_end answer (Err (trees.Crossing a b)) known apart m h = absurd (apart_has_no_pair p.family known a b apart m)
  trees_end answer (Err trees.NoMemory) known apart m h = absurd m

  solve_expected : (prefs quotas : List ℕ) (answer : Answer) → IsSolvable prefs quotas p → SolveAnswers prefs quotas answer
      → Expected (IsLotteryText (Solves p)) (IsTooFineAt p) answer
  solve_expected prefs quotas answer s h =
      let k = passed (one_problem prefs quotas) p s.problem answer h in
      trees_end answer k.found (problem_known prefs quotas p s.problem) s.apart k.holds k.follows

  -- the text of a lottery that solves the problem publishes it
  solve_published : (before t : List ℕ) (written : Option (List ℕ)) → IsLotteryText (Solves p) t → written ≡ Some (before ++ t) → Published (SolvesWell p) before written
  solve_published before t written good did = record {
    lottery = good.lottery;
    plain = good.plain;
    has = solves_well_of p good.lottery good.has;
    wrote = did ∙ ap (λ (bytes : List ℕ). Some (before ++ bytes)) good.is;
  }

solve_alone : (prefs quotas : List ℕ) → RefusesAlone (SolveAnswers prefs quotas)
solve_alone prefs quotas =
    gives_alone (one_problem prefs quotas) (λ p read.
    trees_alone p.family (problem_known prefs quotas p read) (λ _. AsEaten p) (λ t u due answer h k. eaten_alone p due answer h k))

-- ---- its meaning

pub solve_meant : IsMeantOfTwo solve_meaning
solve_meant = record {
  alone = solve_alone;
  holds = λ prefs quotas run came p s.
      keeps (SolveAnswers prefs quotas) (IsLotteryText (Solves p)) (Published (SolvesWell p) run.before run.written) (IsTooFineAt p) run (came s.short.0 s.short.1)
      (λ answer k. solve_expected p prefs quotas answer s k) (λ t good did. solve_published p run.before t run.written good did);
}
