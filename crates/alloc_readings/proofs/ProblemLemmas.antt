-- Two texts are one problem, of which each set is of side 1 or 2, or they have one first fault.
use Rattle.std.proofs.Common.{◌≡◌, ◌+◌, ℕ, All, List, None, Result, Ok, Err, ap, inl, length, refl, subst, sym}
use Rattle.std.specs.List.{enumerate_from}
use Rattle.std.proofs.lemmas.List.Elements.{All-append, All-map}
use Rattle.alloc_input.specs.Problems.{problem_fault, solve_setting, ProblemReads}
use Rattle.alloc_input.specs.Quotas.{quotas_fault}
use Rattle.alloc_input.specs.Stated.{stated_by}
use Rattle.alloc_input.specs.declared.faults.InputFault.{InputFault}
use Rattle.alloc_input.proofs.KnownSides.{IsKnownSide, sides-known}
use Rattle.alloc_input.proofs.Once.{problem-once}
use Rattle.alloc_readings.specs.Problem.{ProblemTextReads}
use Rattle.definitions.specs.Texts.{Row}
use Rattle.definitions.specs.Values.{ProblemValue, row_sets}
use Rattle.definitions.proofs.Passed.{both-pass, map-none}

pub one_problem : (prefs quotas : List ℕ) (r s : Result ProblemValue InputFault) → ProblemTextReads prefs quotas r → ProblemTextReads prefs quotas s → r ≡ s
one_problem prefs quotas (Ok p) (Ok q) h k = ap Ok ((problem-once prefs quotas).one_value p q h k)
one_problem prefs quotas (Ok p) (Err f) h k = absurd ((problem-once prefs quotas).never_both p f h k)
one_problem prefs quotas (Err f) (Ok p) h k = absurd ((problem-once prefs quotas).never_both p f k h)
one_problem prefs quotas (Err f) (Err g) h k = ap Err ((problem-once prefs quotas).one_fault f g h k)

quotas_lawful : (rows quota_rows : List Row) → problem_fault rows quota_rows ≡ None → quotas_fault (solve_setting rows quota_rows) quota_rows ≡ None
quotas_lawful rows quota_rows e = map-none _ (quotas_fault (solve_setting rows quota_rows) quota_rows) (both-pass _ _ e).1

-- each set of its family is of side 1 or 2
pub problem_known : (prefs quotas : List ℕ) (p : ProblemValue) → ProblemReads prefs quotas p → All IsKnownSide p.family.sets
problem_known prefs quotas p h =
    let g = solve_setting h.0 h.1 in
    let st = stated_by g h.1 in
    let stated : All IsKnownSide st.sets = sides-known g h.1 (quotas_lawful h.0 h.1 h.4.0) in
    let rows : All IsKnownSide (row_sets (length g.objects + 1) st.demands) = All-map IsKnownSide _ (enumerate_from 0 st.demands) (λ k d within. inl refl) in
    subst (λ (q : ProblemValue). All IsKnownSide q.family.sets) (sym h.4.1) (All-append IsKnownSide st.sets (row_sets (length g.objects + 1) st.demands) stated rows)
