-- `audit-matrix`: that its outcome has one answer where it refuses, and what is left of it for three lawful files.
use Rattle.std.proofs.Common.{◌≡◌, ◌∙◌, ◌+◌, ℕ, List, Result, Ok, Err, ap, arith, length, refl}
use Rattle.alloc_audits.specs.AuditMatrix.{AuditMatrixAnswers, IsSplitAudited, PassesSplitAudit, SplitsOrFails, audit_matrix_meaning}
use Rattle.alloc_audits.specs.Verdicts.{LeavesTooFine, audit_cause, pass_text}
use Rattle.alloc_audits.proofs.SplitAudits.{split_passes}
use Rattle.alloc_audits.proofs.VerdictsLemmas.{Judged, judged_done, judged_fault, judged_fine, judges}
use Rattle.alloc_outcomes.specs.Answers.{Answer, Follows, Gives, IsText, RefusesAlone}
use Rattle.alloc_outcomes.specs.Causes.{infeasible_cause, input_cause, lottery_cause, scale_cause, trees_cause}
use Rattle.alloc_outcomes.proofs.AnswersLemmas.{gives_alone, passed, text_alone}
use Rattle.alloc_outcomes.proofs.MeaningsLemmas.{IsMeantOfThree}
use Rattle.alloc_readings.specs.Family.{QuotasTextReads}
use Rattle.alloc_readings.specs.Lottery.{LotteryReads}
use Rattle.alloc_readings.specs.Quotas.{MeetsOrNot}
use Rattle.alloc_readings.specs.Shares.{ScalesOrNot}
use Rattle.alloc_readings.specs.Trees.{CrossesOrTrees}
use Rattle.alloc_readings.proofs.FamilyLemmas.{family_known, one_family}
use Rattle.alloc_readings.proofs.LotteryLemmas.{one_lottery}
use Rattle.alloc_readings.proofs.QuotasLemmas.{not_feasible, one_meeting}
use Rattle.alloc_readings.proofs.SharesLemmas.{one_matrix, one_scale}
use Rattle.alloc_readings.proofs.TreesLemmas.{apart_has_no_pair, trees_alone}
use Rattle.bihierarchy.specs.declared.trees.TreesFault.{TreesFault}
use Rattle.bihierarchy.specs.declared.trees.TreesFault.TheVariants as trees
use Rattle.cert_check.specs.declared.faults.Fault.{Fault}
use Rattle.definitions.specs.Lotteries.{LotteryValue, Splits}
use Rattle.definitions.specs.Sets.{FamilyValue, ScaledValue}
use Rattle.definitions.specs.Trees.{TreesValue}
use Rattle.definitions.specs.Values.{SharesValue}
use Rattle.definitions.specs.declared.Infeasible.{Infeasible}
use Rattle.lottery_laws.proofs.SplitsWellLemmas.{well_of}
use Rattle.scaled_matrix.proofs.OneAnswer.{over_total_from_entry, too_fine_from_entry}
use Rattle.scaled_matrix.specs.Entries.{IsShares}
use Rattle.scaled_matrix.specs.Scaling.{IsTooFine}
use Rattle.scaled_matrix.specs.declared.scaling.ScaleFault.{ScaleFault}
use Rattle.scaled_matrix.specs.declared.scaling.ScaleFault.TheVariants as scaling

-- ---- one answer

-- the family is over the agents and columns of the shares
family_agents : (given : SharesValue) (quotas : List ℕ) (f : FamilyValue) → QuotasTextReads given quotas (Ok f) → f.agents ≡ length given.agents
family_agents given quotas f stated = ap (λ (g : FamilyValue). g.agents) stated.3

family_columns : (given : SharesValue) (quotas : List ℕ) (f : FamilyValue) → QuotasTextReads given quotas (Ok f) → f.columns ≡ length given.objects
family_columns given quotas f stated = ap (λ (g : FamilyValue). g.columns) stated.3 ∙ (let plain : length given.objects + 0 ≡ length given.objects = omega arith in plain)

module _ (given : SharesValue) (x : ScaledValue) (f : FamilyValue) (quotas : List ℕ) (lawful : IsShares given) (scaled : ScalesOrNot given (Ok x)) (stated : QuotasTextReads given quotas (Ok f)) where
  -- where a check fails, the lottery doesn't split the shares
  fails_unsplit : (l : LotteryValue) (fault : Fault) → SplitsOrFails given x f l (Err fault) → Splits given f l → ⊥
  fails_unsplit l fault fails splits =
      let none = split_passes given x f l lawful scaled.0 scaled.1 (family_agents given quotas f stated) (family_columns given quotas f stated) fails.family splits in
      let first = fails.first in
      cc (none, first)

  one_verdict : (l : LotteryValue) (r s : Result (Unit {0}) Fault) → SplitsOrFails given x f l r → SplitsOrFails given x f l s → r ≡ s
  one_verdict l (Ok u) (Ok v) h k = refl
  one_verdict l (Ok u) (Err fault) h k = absurd (fails_unsplit l fault k h)
  one_verdict l (Err fault) (Ok u) h k = absurd (fails_unsplit l fault h k)
  one_verdict l (Err fault) (Err other) h k = let first = h.first in let second = k.first in cc (first, second)

  meets_alone : (bytes : List ℕ) → RefusesAlone (Gives infeasible_cause (MeetsOrNot f x) (λ _. Gives lottery_cause (LotteryReads bytes) (λ l. Gives audit_cause (SplitsOrFails given x f l) (λ _. IsText pass_text))))
  meets_alone bytes =
      gives_alone (one_meeting f x) (λ u meets.
      gives_alone (one_lottery bytes) (λ l read.
      gives_alone (one_verdict l) (λ v sound.
      text_alone pass_text)))

audit_matrix_alone : (matrix quotas bytes : List ℕ) → RefusesAlone (AuditMatrixAnswers matrix quotas bytes)
audit_matrix_alone matrix quotas bytes =
    gives_alone (one_matrix matrix) (λ given read.
    gives_alone (one_scale given read.1.shares) (λ x scaled.
    gives_alone (one_family given quotas) (λ f stated.
    trees_alone f (family_known given quotas f stated) _ (λ t u due answer h k. meets_alone given x f quotas read.1.shares scaled stated bytes due answer h k))))

-- ---- the sentence of the headline

module _ (given : SharesValue) (f : FamilyValue) (l : LotteryValue) where
  abbrev Judgement : Answer → Type 0
  Judgement = Judged pass_text (Splits given f l) (Splits given f l) (LeavesTooFine (IsTooFine given))

  module _ (matrix quotas bytes : List ℕ) (files : IsSplitAudited matrix quotas bytes given f l) where
    verdict_end : (x : ScaledValue) (answer : Answer) (r : Result (Unit {0}) Fault) → ScalesOrNot given (Ok x) → SplitsOrFails given x f l r
        → Follows audit_cause (λ _. IsText pass_text) r answer → Judgement answer
    verdict_end x answer (Ok u) scaled splits h = judged_done pass_text (Splits given f l) (Splits given f l) (LeavesTooFine (IsTooFine given)) answer h splits
    verdict_end x answer (Err fault) scaled fails h =
        judged_fault pass_text (Splits given f l) (Splits given f l) (LeavesTooFine (IsTooFine given)) answer fault h
        (fails_unsplit given x f quotas files.splittable.shares.1.shares scaled files.splittable.family l fault fails)

    meets_end : (x : ScaledValue) (answer : Answer) (r : Result (Unit {0}) Infeasible) → ScalesOrNot given (Ok x) → MeetsOrNot f x r
        → Follows infeasible_cause (λ _. Gives lottery_cause (LotteryReads bytes) (λ m. Gives audit_cause (SplitsOrFails given x f m) (λ _. IsText pass_text))) r answer → Judgement answer
    meets_end x answer (Ok u) scaled m h =
        let k = passed (one_lottery bytes) l files.lottery answer h in
        verdict_end x answer k.found scaled k.holds k.follows
    meets_end x answer (Err first) scaled m h = absurd (not_feasible f x first.set first.sum m (files.splittable.feasible x scaled.0 scaled.1))

    trees_end : (x : ScaledValue) (answer : Answer) (r : Result TreesValue TreesFault) → ScalesOrNot given (Ok x) → CrossesOrTrees f r
        → Follows trees_cause (λ _. Gives infeasible_cause (MeetsOrNot f x) (λ _. Gives lottery_cause (LotteryReads bytes) (λ m. Gives audit_cause (SplitsOrFails given x f m) (λ _. IsText pass_text)))) r answer
        → Judgement answer
    trees_end x answer (Ok t) scaled m h = meets_end x answer h.found scaled h.holds h.follows
    trees_end x answer (Err (trees.Crossing a b)) scaled m h = absurd (apart_has_no_pair f (family_known given quotas f files.splittable.family) a b files.splittable.apart m)
    trees_end x answer (Err trees.NoMemory) scaled m h = absurd m

    scale_end : (answer : Answer) (r : Result ScaledValue ScaleFault) → ScalesOrNot given r
        → Follows scale_cause (λ x. Gives input_cause (QuotasTextReads given quotas) (λ g. Gives trees_cause (CrossesOrTrees g) (λ _. Gives infeasible_cause (MeetsOrNot g x) (λ _.
        Gives lottery_cause (LotteryReads bytes) (λ m. Gives audit_cause (SplitsOrFails given x g m) (λ _. IsText pass_text)))))) r answer
        → Judgement answer
    scale_end answer (Err (scaling.TooFine denominator agent column)) m h =
        judged_fine pass_text (Splits given f l) (Splits given f l) (LeavesTooFine (IsTooFine given)) answer denominator h (too_fine_from_entry given denominator agent column files.splittable.shares.1.shares m)
    scale_end answer (Err (scaling.OverTotal agent column)) m h = absurd (files.splittable.total (over_total_from_entry given agent column m))
    scale_end answer (Err scaling.NoMemory) m h = absurd m
    scale_end answer (Ok x) m h =
        let k = passed (one_family given quotas) f files.splittable.family answer h in
        trees_end x answer k.found m k.holds k.follows

    audit_matrix_judged : (answer : Answer) → AuditMatrixAnswers matrix quotas bytes answer → Judgement answer
    audit_matrix_judged answer h =
        let k = passed (one_matrix matrix) given files.splittable.shares answer h in
        scale_end answer k.found k.holds k.follows

-- ---- its meaning

pub audit_matrix_meant : IsMeantOfThree audit_matrix_meaning
audit_matrix_meant = record {
  alone = audit_matrix_alone;
  holds = λ matrix quotas bytes run came given f l files.
      judges pass_text (AuditMatrixAnswers matrix quotas bytes) (Splits given f l) (PassesSplitAudit given f l run) (Splits given f l) (LeavesTooFine (IsTooFine given)) run
      (came files.splittable.short.0 files.splittable.short.1 files.short) (audit_matrix_judged given f l matrix quotas bytes files)
      (λ splits wrote. record { well = well_of given f l splits (files.splittable.feasible l.shares splits.scaled splits.lottery.shares); wrote = wrote });
}
