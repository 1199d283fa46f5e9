-- `generate`: that its outcome has one answer where it refuses, and what is left of it.
use Rattle.std.proofs.Common.{◌≡◌, ◌∙◌, ℕ, List, [], ◌∷◌, ◌++◌, Option, Some, Result, Ok, Err, ap, false, map, refl, subst, sym}
use Rattle.std.specs.Prelude.{codes}
use Rattle.std.specs.List.{range_with_len}
use Rattle.alloc_gen.specs.Made.{made_name, made_problem}
use Rattle.alloc_outcomes.specs.Answers.{Answer, Follows, HasText, IsText, RefusesAlone}
use Rattle.alloc_outcomes.specs.Causes.{too_fine_cause}
use Rattle.alloc_outcomes.proofs.AnswersLemmas.{gives_alone, IsPart}
use Rattle.alloc_outcomes.proofs.MeaningsLemmas.{IsMeantOfNone}
use Rattle.alloc_outcomes.proofs.SentencesLemmas.{Expected, expected_text, expected_refusal, keeps}
use Rattle.alloc_readings.specs.Eaten.{EatsOrTooFine}
use Rattle.alloc_readings.proofs.EatenLemmas.{one_table}
use Rattle.alloc_steps.specs.Generate.{generate_meaning, problem_of, GenerateAnswers, IsSummary, SummedUp}
use Rattle.alloc_steps.specs.SolvesWell.{SolvesWell}
use Rattle.alloc_steps.proofs.SolvesWellLemmas.{solves_well_of}
use Rattle.definitions.specs.Lotteries.{LotteryValue, Solves}
use Rattle.definitions.specs.Texts.{has_name, null_name}
use Rattle.definitions.specs.Values.{ProblemValue}
use Rattle.eating.specs.Answers.{IsTooFineAt}
use Rattle.eating.specs.Eaten.{EatenValue}

-- ---- a made problem

-- no object is named `none`, since the name of each begins with `s`
plain_names : (numbers : List ℕ) → has_name (map (made_name (codes "s")) numbers) null_name ≡ false
plain_names [] = refl
plain_names (i ∷ numbers) = plain_names numbers

pub made_plain : (word : ℕ → ℕ) (agents objects : ℕ) → has_name (made_problem word agents objects).objects null_name ≡ false
unfolding made_problem
made_plain word agents objects = plain_names (range_with_len 0 objects)

-- ---- its answers

-- the text of such a summary
pub summary_part : (property : LotteryValue → Type 0) {outcome : Answer → Type 0} (t : List ℕ) → IsSummary property t → IsPart (HasText (IsSummary property)) outcome → IsPart (IsText t) outcome
summary_part property t good part answer is = part answer (subst (HasText (IsSummary property)) (sym is) good)

module _ (p : ProblemValue) where
  abbrev AsSummed : Answer → Type 0
  AsSummed = HasText (IsSummary (Solves p))

  eaten_end : (answer : Answer) (r : Result EatenValue ℕ) → EatsOrTooFine p r → Follows too_fine_cause (λ _. AsSummed) r answer → Expected (IsSummary (Solves p)) (IsTooFineAt p) answer
  eaten_end answer (Ok v) m h = expected_text (IsSummary (Solves p)) (IsTooFineAt p) answer h
  eaten_end answer (Err denominator) m h = expected_refusal (IsSummary (Solves p)) (IsTooFineAt p) denominator answer h m

  -- the summary of a lottery that solves the problem sums it up
  summed_up : (before t : List ℕ) (written : Option (List ℕ)) → IsSummary (Solves p) t → written ≡ Some (before ++ t) → SummedUp (SolvesWell p) before written
  summed_up before t written good did = record {
    lottery = good.lottery;
    plain = good.plain;
    has = solves_well_of p good.lottery good.has;
    wrote = did ∙ ap (λ (bytes : List ℕ). Some (before ++ bytes)) good.is;
  }

generate_alone : (seed : List ℕ) (agents objects : ℕ) → RefusesAlone (GenerateAnswers seed agents objects)
generate_alone seed agents objects = gives_alone (one_table (problem_of seed agents objects)) (λ v eaten due answer h k. absurd h)

-- ---- its meaning

pub generate_meant : (seed : List ℕ) (agents objects : ℕ) → IsMeantOfNone (generate_meaning seed agents objects)
generate_meant seed agents objects =
    let p : ProblemValue = problem_of seed agents objects in
    record {
      alone = generate_alone seed agents objects;
      holds = λ run came.
          keeps (GenerateAnswers seed agents objects) (IsSummary (Solves p)) (SummedUp (SolvesWell p) run.before run.written) (IsTooFineAt p) run came
          (λ answer k. eaten_end p answer k.found k.holds k.follows) (λ t good did. summed_up p run.before t run.written good did);
    }
