-- `decompose`: that its outcome has one answer where it refuses, and what is left of it for two splittable files.
use Rattle.std.proofs.Common.{◌≡◌, ◌∙◌, ℕ, List, ◌++◌, Option, Some, Result, Ok, Err, ap}
use Rattle.std.specs.Prelude.{All}
use Rattle.alloc_input.proofs.KnownSides.{IsKnownSide}
use Rattle.alloc_outcomes.specs.Answers.{Answer, Follows, Gives, HasText, RefusesAlone}
use Rattle.alloc_outcomes.specs.Causes.{trees_cause, infeasible_cause, input_cause, scale_cause}
use Rattle.alloc_outcomes.proofs.AnswersLemmas.{gives_alone, passed}
use Rattle.alloc_outcomes.proofs.MeaningsLemmas.{IsMeantOfTwo}
use Rattle.alloc_outcomes.proofs.SentencesLemmas.{Expected, expected_text, expected_refusal, keeps}
use Rattle.alloc_readings.specs.Family.{QuotasTextReads}
use Rattle.alloc_readings.specs.Quotas.{MeetsOrNot}
use Rattle.alloc_readings.specs.Shares.{MatrixTextReads, ScalesOrNot}
use Rattle.alloc_readings.specs.Splittable.{IsSplittable}
use Rattle.alloc_readings.specs.Trees.{CrossesOrTrees}
use Rattle.alloc_readings.proofs.FamilyLemmas.{family_known, one_family}
use Rattle.alloc_readings.proofs.QuotasLemmas.{not_feasible, one_meeting}
use Rattle.alloc_readings.proofs.SharesLemmas.{one_matrix, one_scale}
use Rattle.alloc_readings.proofs.TreesLemmas.{apart_has_no_pair, trees_alone}
use Rattle.alloc_steps.specs.Decompose.{decompose_meaning, AfterQuotas, DecomposeAnswers, SplitAnswers}
use Rattle.alloc_steps.specs.Publishing.{IsLotteryText, Published}
use Rattle.lottery_laws.specs.SplitsWell.{SplitsWell}
use Rattle.lottery_laws.proofs.SplitsWellLemmas.{well_of}
use Rattle.bihierarchy.specs.declared.trees.TreesFault.{TreesFault}
use Rattle.bihierarchy.specs.declared.trees.TreesFault.TheVariants as trees
use Rattle.definitions.specs.Lotteries.{Splits}
use Rattle.definitions.specs.Scaling.{IsScaled}
use Rattle.definitions.specs.Sets.{FamilyValue, ScaledValue, IsBihierarchy, IsFeasible, IsScaledMatrix}
use Rattle.definitions.specs.Trees.{TreesValue}
use Rattle.definitions.specs.Values.{SharesValue}
use Rattle.definitions.specs.declared.Infeasible.{Infeasible}
use Rattle.scaled_matrix.proofs.OneAnswer.{over_total_from_entry, too_fine_from_entry}
use Rattle.scaled_matrix.specs.Entries.{IsShares}
use Rattle.scaled_matrix.specs.Scaling.{IsOverTotal, IsTooFine}
use Rattle.scaled_matrix.specs.declared.scaling.ScaleFault.{ScaleFault}
use Rattle.scaled_matrix.specs.declared.scaling.ScaleFault.TheVariants as scaling

-- ---- one answer

-- where the rest of a command that reads a matrix and quotas has one answer, so has the command
pub after_quotas_alone : {rest : SharesValue → ScaledValue → FamilyValue → Answer → Type 0} (matrix quotas : List ℕ)
    → ((given : SharesValue) (x : ScaledValue) (f : FamilyValue) → QuotasTextReads given quotas (Ok f) → RefusesAlone (rest given x f))
    → RefusesAlone (AfterQuotas matrix quotas rest)
after_quotas_alone matrix quotas alone =
    gives_alone (one_matrix matrix) (λ given read.
    gives_alone (one_scale given read.1.shares) (λ x scaled.
    gives_alone (one_family given quotas) (λ f stated. alone given x f stated)))

pub split_alone : (given : SharesValue) (x : ScaledValue) (f : FamilyValue) → RefusesAlone (Gives infeasible_cause (MeetsOrNot f x) (λ _. HasText (IsLotteryText (Splits given f))))
split_alone given x f = gives_alone (one_meeting f x) (λ u meets due answer h k. absurd h)

decompose_alone : (matrix quotas : List ℕ) → RefusesAlone (DecomposeAnswers matrix quotas)
decompose_alone matrix quotas =
    after_quotas_alone matrix quotas (λ given x f stated.
    trees_alone f (family_known given quotas f stated) _ (λ t u due answer h k. split_alone given x f due answer h k))

-- ---- the sentence of the headline

module _ (given : SharesValue) (f : FamilyValue) where
  abbrev pub AsSplit : Answer → Type 0
  AsSplit = HasText (IsLotteryText (Splits given f))

  meets_end : (x : ScaledValue) (answer : Answer) (r : Result (Unit {0}) Infeasible) → IsFeasible f x → MeetsOrNot f x r
      → Follows infeasible_cause (λ _. AsSplit) r answer → AsSplit answer
  meets_end x answer (Ok u) feasible m h = h
  meets_end x answer (Err first) feasible m h = absurd (not_feasible f x first.set first.sum m feasible)

  -- shares that meet the quotas are split
  pub met_end : (x : ScaledValue) (answer : Answer) → IsFeasible f x → Gives infeasible_cause (MeetsOrNot f x) (λ _. AsSplit) answer → AsSplit answer
  met_end x answer feasible h = meets_end x answer h.found feasible h.holds h.follows

  trees_end : (x : ScaledValue) (answer : Answer) (r : Result TreesValue TreesFault) → All IsKnownSide f.sets → IsBihierarchy f → IsFeasible f x → CrossesOrTrees f r
      → Follows trees_cause (λ _. Gives infeasible_cause (MeetsOrNot f x) (λ _. AsSplit)) r answer → AsSplit answer
  trees_end x answer (Ok t) known apart feasible m h = met_end x answer feasible h
  trees_end x answer (Err (trees.Crossing a b)) known apart feasible m h = absurd (apart_has_no_pair f known a b apart m)
  trees_end x answer (Err trees.NoMemory) known apart feasible m h = absurd m

  -- the rest of a command that splits feasible shares
  module _ (rest : SharesValue → ScaledValue → FamilyValue → Answer → Type 0) (ends : (x : ScaledValue) (answer : Answer) → IsFeasible f x → rest given x f answer → AsSplit answer) where
    scale_end : (quotas : List ℕ) (answer : Answer) (r : Result ScaledValue ScaleFault) → IsShares given → QuotasTextReads given quotas (Ok f)
        → (IsOverTotal given → ⊥) → ((x : ScaledValue) → IsScaled given x → IsScaledMatrix x → IsFeasible f x) → ScalesOrNot given r
        → Follows scale_cause (λ x. Gives input_cause (QuotasTextReads given quotas) (λ g. rest given x g)) r answer
        → Expected (IsLotteryText (Splits given f)) (λ _. IsTooFine given) answer
    scale_end quotas answer (Err (scaling.TooFine denominator agent column)) lawful q total feasible m h =
        expected_refusal (IsLotteryText (Splits given f)) (λ _. IsTooFine given) denominator answer h (too_fine_from_entry given denominator agent column lawful m)
    scale_end quotas answer (Err (scaling.OverTotal agent column)) lawful q total feasible m h = absurd (total (over_total_from_entry given agent column m))
    scale_end quotas answer (Err scaling.NoMemory) lawful q total feasible m h = absurd m
    scale_end quotas answer (Ok x) lawful q total feasible m h =
        expected_text (IsLotteryText (Splits given f)) (λ _. IsTooFine given) answer (ends x answer (feasible x m.0 m.1) (passed (one_family given quotas) f q answer h))

    pub after_quotas_expected : (matrix quotas : List ℕ) (answer : Answer) → MatrixTextReads matrix (Ok given) → QuotasTextReads given quotas (Ok f)
        → (IsOverTotal given → ⊥) → ((x : ScaledValue) → IsScaled given x → IsScaledMatrix x → IsFeasible f x) → AfterQuotas matrix quotas rest answer
        → Expected (IsLotteryText (Splits given f)) (λ _. IsTooFine given) answer
    after_quotas_expected matrix quotas answer read q total feasible h =
        let k = passed (one_matrix matrix) given read answer h in
        scale_end quotas answer k.found read.1.shares q total feasible k.holds k.follows

  decompose_expected : (matrix quotas : List ℕ) (answer : Answer) → IsSplittable matrix quotas given f → DecomposeAnswers matrix quotas answer
      → Expected (IsLotteryText (Splits given f)) (λ _. IsTooFine given) answer
  decompose_expected matrix quotas answer s h =
      after_quotas_expected SplitAnswers (λ x end feasible k. trees_end x end k.found (family_known given quotas f s.family) s.apart feasible k.holds k.follows)
      matrix quotas answer s.shares s.family s.total s.feasible h

  -- the text of a lottery that splits feasible shares publishes it
  pub split_published : (before t : List ℕ) (written : Option (List ℕ)) → ((x : ScaledValue) → IsScaled given x → IsScaledMatrix x → IsFeasible f x)
      → IsLotteryText (Splits given f) t → written ≡ Some (before ++ t) → Published (SplitsWell given f) before written
  split_published before t written feasible good did = record {
    lottery = good.lottery;
    plain = good.plain;
    has = well_of given f good.lottery good.has (feasible good.lottery.shares good.has.scaled good.has.lottery.shares);
    wrote = did ∙ ap (λ (bytes : List ℕ). Some (before ++ bytes)) good.is;
  }

-- ---- its meaning

pub decompose_meant : IsMeantOfTwo decompose_meaning
decompose_meant = record {
  alone = decompose_alone;
  holds = λ matrix quotas run came given f s.
      keeps (DecomposeAnswers matrix quotas) (IsLotteryText (Splits given f)) (Published (SplitsWell given f) run.before run.written) (λ _. IsTooFine given) run (came s.short.0 s.short.1)
      (λ answer k. decompose_expected given f matrix quotas answer s k) (λ t good did. split_published given f run.before t run.written s.feasible good did);
}
