-- `audit-guarded`: that its outcome has one answer where it refuses, and what is left of it for three lawful files.
use Rattle.std.proofs.Common.{◌≡◌, ◌∙◌, ℕ, List, None, Some, Result, Ok, Err, ap, refl, subst, sym}
use Rattle.alloc_audits.specs.Audit.{AreAudited}
use Rattle.alloc_audits.specs.AuditGuarded.{AuditGuardedAnswers, FailsCertificate, IsCertified, IsCertifiedOrFails, PassesGuardedAudit, PassesPieces, PiecesAnswers, audit_guarded_meaning}
use Rattle.alloc_audits.specs.Verdicts.{LeavesOverGuard, audit_cause, pass_text}
use Rattle.alloc_audits.proofs.SoundAudits.{IsOver, checked_matrix, matrix_for_family, passes_sound, sound_certified, sound_pieces}
use Rattle.alloc_audits.proofs.VerdictsLemmas.{Judged, judged_done, judged_fault, judged_over, judges, no_fault, this_fault}
use Rattle.alloc_outcomes.specs.Answers.{Answer, Follows, Gives, IsText, RefusesAlone}
use Rattle.alloc_outcomes.specs.Causes.{lottery_cause, trees_cause}
use Rattle.alloc_outcomes.proofs.AnswersLemmas.{gives_alone, passed, text_alone}
use Rattle.alloc_outcomes.proofs.MeaningsLemmas.{IsMeantOfThree}
use Rattle.alloc_readings.specs.Guarded.{GuardsOrNot, IsGuardedFamily, guard_cause}
use Rattle.alloc_readings.specs.Lottery.{LotteryReads}
use Rattle.alloc_readings.specs.Trees.{CrossesOrTrees}
use Rattle.alloc_readings.proofs.GuardedLemmas.{one_guard}
use Rattle.alloc_readings.proofs.LotteryLemmas.{one_lottery}
use Rattle.alloc_readings.proofs.ProblemLemmas.{one_problem, problem_known}
use Rattle.alloc_readings.proofs.TreesLemmas.{apart_has_no_pair, trees_alone}
use Rattle.bihierarchy.specs.declared.trees.TreesFault.{TreesFault}
use Rattle.bihierarchy.specs.declared.trees.TreesFault.TheVariants as trees
use Rattle.cert_check.specs.PieceFaults.{IsMatrixFor, first_piece_fault}
use Rattle.cert_check.specs.declared.faults.Fault.{Fault}
use Rattle.definitions.specs.Fairness.{guarded_family}
use Rattle.definitions.specs.Lotteries.{LotteryValue}
use Rattle.definitions.specs.Sets.{FamilyValue}
use Rattle.definitions.specs.Trees.{TreesValue}
use Rattle.definitions.specs.Values.{IsProblem, ProblemValue}
use Rattle.guard_sets.specs.Guard.{IsOverGuard}
use Rattle.guard_sets.specs.declared.fault.GuardFault.{GuardFault}
use Rattle.guard_sets.specs.declared.fault.GuardFault.TheVariants as guard
use Rattle.lottery_laws.specs.Near.{IsSoundGuarded}
use Rattle.lottery_laws.proofs.NearLemmas.{guarded_meets, pieces_near}

-- ---- one answer

one_certificate : (p : ProblemValue) (l : LotteryValue) (r s : Result (Unit {0}) Fault) → IsCertifiedOrFails p l r → IsCertifiedOrFails p l s → r ≡ s
one_certificate p l (Ok u) (Ok v) h k = refl
one_certificate p l (Ok u) (Err fault) h k = let none = h.passes in absurd (cc (none, k.is))
one_certificate p l (Err fault) (Ok u) h k = let none = k.passes in absurd (cc (none, h.is))
one_certificate p l (Err fault) (Err other) h k = cc (h.is, k.is)

one_verdict : (f : FamilyValue) (l : LotteryValue) (r s : Result (Unit {0}) Fault) → PassesPieces f l r → PassesPieces f l s → r ≡ s
one_verdict f l r s h k = h.is ∙ sym k.is

abbrev AsPieces : LotteryValue → FamilyValue → Answer → Type 0
AsPieces l f = Gives audit_cause (PassesPieces f l) (λ _. IsText pass_text)

abbrev AsCertified : ProblemValue → LotteryValue → Answer → Type 0
AsCertified p l = Gives audit_cause (IsCertifiedOrFails p l) (λ _. PiecesAnswers p l)

lottery_alone : (p : ProblemValue) (bytes : List ℕ) → RefusesAlone (Gives lottery_cause (LotteryReads bytes) (AsCertified p))
lottery_alone p bytes =
    gives_alone (one_lottery bytes) (λ l read.
    gives_alone (one_certificate p l) (λ _ certified.
    gives_alone (one_guard p l.shares) (λ f guarded.
    gives_alone (one_verdict f l) (λ _ pieces.
    text_alone pass_text))))

audit_guarded_alone : (prefs quotas bytes : List ℕ) → RefusesAlone (AuditGuardedAnswers prefs quotas bytes)
audit_guarded_alone prefs quotas bytes =
    gives_alone (one_problem prefs quotas) (λ p read.
    trees_alone p.family (problem_known prefs quotas p read) _ (λ t u cause answer h k. lottery_alone p bytes cause answer h k))

-- ---- the sentence of the headline

module _ (p : ProblemValue) (l : LotteryValue) where
  abbrev Judgement : Answer → Type 0
  Judgement = Judged pass_text (IsSoundGuarded p l) (IsSoundGuarded p l) (LeavesOverGuard (IsOverGuard p l.shares))

  -- the guarded family is over the problem's agents and columns
  guarded_over : (f : FamilyValue) → IsProblem p → IsGuardedFamily p l.shares f → IsOver p (guarded_family p l.shares)
  guarded_over f h g = subst (IsOver p) g.is (record { lawful = g.lawful; agents = sized_agents f g.is ∙ h.family_agents; columns = sized_columns f g.is ∙ h.family_columns })
    where
      sized_agents : (f : FamilyValue) → f ≡ guarded_family p l.shares → f.agents ≡ p.family.agents
      sized_agents f is = ap (λ (g : FamilyValue). g.agents) is

      sized_columns : (f : FamilyValue) → f ≡ guarded_family p l.shares → f.columns ≡ p.family.columns
      sized_columns f is = ap (λ (g : FamilyValue). g.columns) is

  -- the shares have the shape of the guarded family
  pub guarded_matrix : (f : FamilyValue) → IsCertified p l → IsGuardedFamily p l.shares f → IsMatrixFor f l.shares
  guarded_matrix f k g =
      subst (λ (q : FamilyValue). IsMatrixFor q l.shares) (sym g.is)
      (matrix_for_family (guarded_family p l.shares) p l (guarded_over f k.problem g) (checked_matrix p l k.problem k.lottery k.passes))

  -- where a check fails, the lottery isn't sound with pieces for the guarded family
  fails_certified : (fault : Fault) → FailsCertificate p l fault → IsSoundGuarded p l → ⊥
  fails_certified fault first sound = cc (sound_certified (guarded_family p l.shares) p l sound, first.is)

  fails_pieces : (f : FamilyValue) → IsGuardedFamily p l.shares f → (fault : Fault) → first_piece_fault f l.shares l.pieces ≡ Some fault → IsSoundGuarded p l → ⊥
  fails_pieces f g fault first sound =
      let none = sound_pieces (guarded_family p l.shares) p l sound (guarded_over f sound.problem g) in
      let same : first_piece_fault (guarded_family p l.shares) l.shares l.pieces ≡ Some fault = subst (λ (q : FamilyValue). first_piece_fault q l.shares l.pieces ≡ Some fault) g.is first in
      cc (none, same)

  -- where none fails, it is
  passes_guarded : (f : FamilyValue) → IsGuardedFamily p l.shares f → IsCertified p l → first_piece_fault f l.shares l.pieces ≡ None → IsSoundGuarded p l
  passes_guarded f g certified none =
      passes_sound (guarded_family p l.shares) p l certified.problem certified.lottery (guarded_over f certified.problem g) certified.passes
      (subst (λ (q : FamilyValue). first_piece_fault q l.shares l.pieces ≡ None) g.is none)

  pieces_end : (answer : Answer) (f : FamilyValue) (r : Result (Unit {0}) Fault) → IsCertified p l → IsGuardedFamily p l.shares f
      → PassesPieces f l r → Follows audit_cause (λ _. IsText pass_text) r answer → Judgement answer
  pieces_end answer f (Ok u) certified g first k =
      judged_done pass_text (IsSoundGuarded p l) (IsSoundGuarded p l) (LeavesOverGuard (IsOverGuard p l.shares)) answer k
      (passes_guarded f g certified (no_fault (first_piece_fault f l.shares l.pieces) u first.is))
  pieces_end answer f (Err fault) certified g first k =
      judged_fault pass_text (IsSoundGuarded p l) (IsSoundGuarded p l) (LeavesOverGuard (IsOverGuard p l.shares)) answer fault k
      (fails_pieces f g fault (this_fault (first_piece_fault f l.shares l.pieces) fault first.is))

  guard_end : (answer : Answer) (r : Result FamilyValue GuardFault) → IsCertified p l → GuardsOrNot p l.shares r → Follows guard_cause (AsPieces l) r answer → Judgement answer
  guard_end answer (Ok f) certified g k = pieces_end answer f k.found certified g k.holds k.follows
  guard_end answer (Err (guard.OverGuard sets cells)) certified over k =
      judged_over pass_text (IsSoundGuarded p l) (IsSoundGuarded p l) (LeavesOverGuard (IsOverGuard p l.shares)) answer sets cells k over
  guard_end answer (Err guard.NoMemory) certified none k = absurd none

  certified_end : (answer : Answer) (r : Result (Unit {0}) Fault) → IsCertifiedOrFails p l r → Follows audit_cause (λ _. PiecesAnswers p l) r answer → Judgement answer
  certified_end answer (Ok u) certified k = guard_end answer k.found certified k.holds k.follows
  certified_end answer (Err fault) first k =
      judged_fault pass_text (IsSoundGuarded p l) (IsSoundGuarded p l) (LeavesOverGuard (IsOverGuard p l.shares)) answer fault k
      (fails_certified fault first)

  trees_end : (prefs quotas bytes : List ℕ) (answer : Answer) (r : Result TreesValue TreesFault) → AreAudited prefs quotas bytes p l → CrossesOrTrees p.family r
      → Follows trees_cause (λ _. Gives lottery_cause (LotteryReads bytes) (AsCertified p)) r answer → Judgement answer
  trees_end prefs quotas bytes answer (Ok t) given m k =
      let read = passed (one_lottery bytes) l given.lottery answer k in
      certified_end answer read.found read.holds read.follows
  trees_end prefs quotas bytes answer (Err (trees.Crossing a b)) given m k = absurd (apart_has_no_pair p.family (problem_known prefs quotas p given.problem) a b given.apart m)
  trees_end prefs quotas bytes answer (Err trees.NoMemory) given m k = absurd m

  audit_guarded_expected : (prefs quotas bytes : List ℕ) (answer : Answer) → AreAudited prefs quotas bytes p l → AuditGuardedAnswers prefs quotas bytes answer → Judgement answer
  audit_guarded_expected prefs quotas bytes answer given k =
      let read = passed (one_problem prefs quotas) p given.problem answer k in
      trees_end prefs quotas bytes answer read.found given read.holds read.follows

-- ---- its meaning

pub audit_guarded_meant : IsMeantOfThree audit_guarded_meaning
audit_guarded_meant = record {
  alone = audit_guarded_alone;
  holds = λ prefs quotas bytes run came p l given.
      judges pass_text (AuditGuardedAnswers prefs quotas bytes) (IsSoundGuarded p l) (PassesGuardedAudit p l run) (IsSoundGuarded p l) (LeavesOverGuard (IsOverGuard p l.shares)) run
      (came given.short.0 given.short.1 given.short.2)
      (λ answer k. audit_guarded_expected p l prefs quotas bytes answer given k)
      (λ sound wrote. record { sound = sound; meets = guarded_meets p l sound; near = pieces_near p l sound; wrote = wrote });
}
