-- What a problem that is read may be solved with.
use Rattle.std.proofs.Common.{◌≡◌, ◌∙◌, ℕ, List, ap, false}
use Rattle.definitions.specs.Texts.{has_name, null_name}
use Rattle.definitions.specs.Values.{ProblemValue}
use Rattle.alloc_input.specs.Problems.{ProblemReads}
use Rattle.alloc_input.proofs.SaidPreferences.{declared-apart}

-- no object of it is `none`
pub problem-plain : (prefs quotas : List ℕ) (p : ProblemValue) → ProblemReads prefs quotas p → has_name p.objects null_name ≡ false
problem-plain prefs quotas p h = ap (λ (q : ProblemValue). has_name q.objects null_name) h.4.1 ∙ declared-apart h.1
