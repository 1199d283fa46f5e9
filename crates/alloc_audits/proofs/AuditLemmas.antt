-- `audit`, and what comes after an audit: that the outcome has one answer where it refuses, and what is left of it for three lawful files.
use Rattle.std.proofs.Common.{◌≡◌, ℕ, List, Result, Ok, Err, refl}
use Rattle.alloc_audits.specs.Audit.{AreAudited, AuditedAnswers, IsFirstFault, IsSoundOrFails, PassesAudit, audit_meaning}
use Rattle.alloc_audits.specs.Verdicts.{Judges, LeavesNone, Wrote, audit_cause, pass_text}
use Rattle.alloc_audits.proofs.SoundAudits.{sound_passes}
use Rattle.alloc_audits.proofs.VerdictsLemmas.{Judged, judged_done, judged_fault, judges}
use Rattle.alloc_outcomes.specs.Answers.{Answer, Follows, Gives, IsText, RefusesAlone}
use Rattle.alloc_outcomes.specs.Causes.{lottery_cause, trees_cause}
use Rattle.alloc_outcomes.proofs.AnswersLemmas.{gives_alone, passed, text_alone}
use Rattle.alloc_outcomes.proofs.MeaningsLemmas.{IsMeantOfThree}
use Rattle.alloc_outcomes.proofs.SentencesLemmas.{Came}
use Rattle.alloc_outcomes.specs.Sentences.{Run}
use Rattle.alloc_readings.specs.Lottery.{LotteryReads}
use Rattle.alloc_readings.specs.Trees.{CrossesOrTrees}
use Rattle.alloc_readings.proofs.LotteryLemmas.{one_lottery}
use Rattle.alloc_readings.proofs.ProblemLemmas.{one_problem, problem_known}
use Rattle.alloc_readings.proofs.TreesLemmas.{apart_has_no_pair, trees_alone}
use Rattle.bihierarchy.specs.declared.trees.TreesFault.{TreesFault}
use Rattle.bihierarchy.specs.declared.trees.TreesFault.TheVariants as trees
use Rattle.cert_check.specs.declared.faults.Fault.{Fault}
use Rattle.definitions.specs.Lotteries.{LotteryValue}
use Rattle.definitions.specs.Trees.{TreesValue}
use Rattle.definitions.specs.Values.{ProblemValue}
use Rattle.lottery_laws.specs.Sound.{IsSound}
use Rattle.lottery_laws.proofs.SoundLemmas.{sound_meets}

-- ---- one answer

-- where a check fails, the lottery isn't sound
fails_unsound : (p : ProblemValue) (l : LotteryValue) (fault : Fault) → IsFirstFault p l fault → IsSound p l → ⊥
fails_unsound p l fault first sound = cc (sound_passes p l sound, first.is)

one_verdict : (p : ProblemValue) (l : LotteryValue) (r s : Result (Unit {0}) Fault) → IsSoundOrFails p l r → IsSoundOrFails p l s → r ≡ s
one_verdict p l (Ok u) (Ok v) h k = refl
one_verdict p l (Ok u) (Err fault) h k = absurd (fails_unsound p l fault k h)
one_verdict p l (Err fault) (Ok u) h k = absurd (fails_unsound p l fault h k)
one_verdict p l (Err fault) (Err other) h k = cc (h.is, k.is)

module _ (due : ProblemValue → LotteryValue → List ℕ) where
  lottery_alone : (p : ProblemValue) (bytes : List ℕ) → RefusesAlone (Gives lottery_cause (LotteryReads bytes) (λ l. Gives audit_cause (IsSoundOrFails p l) (λ _. IsText (due p l))))
  lottery_alone p bytes =
      gives_alone (one_lottery bytes) (λ l read.
      gives_alone (one_verdict p l) (λ _ sound.
      text_alone (due p l)))

  pub audited_alone : (prefs quotas bytes : List ℕ) → RefusesAlone (AuditedAnswers due prefs quotas bytes)
  audited_alone prefs quotas bytes =
      gives_alone (one_problem prefs quotas) (λ p read.
      trees_alone p.family (problem_known prefs quotas p read) _ (λ t u cause answer h k. lottery_alone p bytes cause answer h k))

-- ---- the sentence of the headline

module _ (due : ProblemValue → LotteryValue → List ℕ) (p : ProblemValue) (l : LotteryValue) where
  abbrev Judgement : Answer → Type 0
  Judgement = Judged (due p l) (IsSound p l) (IsSound p l) LeavesNone

  verdict_end : (answer : Answer) (r : Result (Unit {0}) Fault) → IsSoundOrFails p l r → Follows audit_cause (λ _. IsText (due p l)) r answer → Judgement answer
  verdict_end answer (Ok u) sound h = judged_done (due p l) (IsSound p l) (IsSound p l) LeavesNone answer h sound
  verdict_end answer (Err fault) first h = judged_fault (due p l) (IsSound p l) (IsSound p l) LeavesNone answer fault h (fails_unsound p l fault first)

  trees_end : (prefs quotas bytes : List ℕ) (answer : Answer) (r : Result TreesValue TreesFault) → AreAudited prefs quotas bytes p l → CrossesOrTrees p.family r
      → Follows trees_cause (λ _. Gives lottery_cause (LotteryReads bytes) (λ m. Gives audit_cause (IsSoundOrFails p m) (λ _. IsText (due p m)))) r answer
      → Judgement answer
  trees_end prefs quotas bytes answer (Ok t) given m h =
      let k = passed (one_lottery bytes) l given.lottery answer h in
      verdict_end answer k.found k.holds k.follows
  trees_end prefs quotas bytes answer (Err (trees.Crossing a b)) given m h = absurd (apart_has_no_pair p.family (problem_known prefs quotas p given.problem) a b given.apart m)
  trees_end prefs quotas bytes answer (Err trees.NoMemory) given m h = absurd m

  audited_expected : (prefs quotas bytes : List ℕ) (answer : Answer) → AreAudited prefs quotas bytes p l → AuditedAnswers due prefs quotas bytes answer → Judgement answer
  audited_expected prefs quotas bytes answer given h =
      let k = passed (one_problem prefs quotas) p given.problem answer h in
      trees_end prefs quotas bytes answer k.found given k.holds k.follows

  -- what is said of a run that ends with the text, where a sound lottery is all that it takes
  pub audited_judges : (done : Type 0) (prefs quotas bytes : List ℕ) (run : Run) → AreAudited prefs quotas bytes p l → Came (AuditedAnswers due prefs quotas bytes) run
      → (IsSound p l → Wrote (due p l) run → done) → Judges done (IsSound p l) LeavesNone run
  audited_judges done prefs quotas bytes run given came publish =
      judges (due p l) (AuditedAnswers due prefs quotas bytes) (IsSound p l) done (IsSound p l) LeavesNone run came (λ answer k. audited_expected prefs quotas bytes answer given k) publish

-- ---- its meaning

pub audit_meant : IsMeantOfThree audit_meaning
audit_meant = record {
  alone = audited_alone (λ _ _. pass_text);
  holds = λ prefs quotas bytes run came p l given.
      audited_judges (λ _ _. pass_text) p l (PassesAudit p l run) prefs quotas bytes run given (came given.short.0 given.short.1 given.short.2)
      (λ sound wrote. record { sound = sound; meets = sound_meets p l sound; wrote = wrote });
}
