-- What a command answers, where its files are short enough and where one is too long; that an outcome that refuses
-- has no other answer; and that what is said of a run follows.
use Rattle.std.proofs.Common.{◌≡◌, ◌∙◌, ℕ, List, [], ◌∷◌, Vec, Global, Result, Ok, Err, ap, arith, get_or, length, refl, subst, sym}
use Rattle.std.specs.Prelude.{IsErrAnd}
use Rattle.device_core.specs.declared.traits.Sink as Sink
use Rattle.alloc_cli.specs.Load.{bytes_of}
use Rattle.alloc_cli.specs.Outcomes.{meaning_of_none, meaning_of_one, meaning_of_three, meaning_of_two, Answers, Outcome, Says, within}
use Rattle.alloc_cli.specs.ShortNames.{name_text}
use Rattle.alloc_cli.specs.declared.words.Command.{Command}
use Rattle.alloc_cli.specs.declared.words.Command.TheVariants as commands
use Rattle.alloc_cli.specs.declared.words.NoFile.{NoFile}
use Rattle.alloc_cli.specs.declared.words.NoFile.TheVariants as none
use Rattle.alloc_cli.specs.declared.words.OneFile.{OneFile}
use Rattle.alloc_cli.specs.declared.words.OneFile.TheVariants as one
use Rattle.alloc_cli.specs.declared.words.ThreeFiles.{ThreeFiles}
use Rattle.alloc_cli.specs.declared.words.ThreeFiles.TheVariants as three
use Rattle.alloc_cli.specs.declared.words.TwoFiles.{TwoFiles}
use Rattle.alloc_cli.specs.declared.words.TwoFiles.TheVariants as two
use Rattle.alloc_audits.proofs.AuditLemmas.{audit_meant}
use Rattle.alloc_audits.proofs.AuditGuardedLemmas.{audit_guarded_meant}
use Rattle.alloc_audits.proofs.AuditMatrixLemmas.{audit_matrix_meant}
use Rattle.alloc_audits.proofs.EnvyLemmas.{envy_meant}
use Rattle.alloc_draws.proofs.DrawLemmas.{draw_meant}
use Rattle.alloc_draws.proofs.PactCommitLemmas.{pact_commit_meant}
use Rattle.alloc_draws.proofs.PactDrawLemmas.{pact_draw_meant}
use Rattle.alloc_draws.proofs.PickLemmas.{pick_meant}
use Rattle.alloc_draws.proofs.ReportLemmas.{report_meant}
use Rattle.alloc_outcomes.specs.Answers.{Answer, refuse, RefusesAlone, Then, on_none, on_three}
use Rattle.alloc_outcomes.specs.Causes.{IsRefusal}
use Rattle.alloc_outcomes.specs.Sentences.{Run}
use Rattle.alloc_outcomes.specs.Steps.{Steps}
use Rattle.alloc_outcomes.specs.declared.cause.Cause.{Cause}
use Rattle.alloc_outcomes.proofs.AnswersLemmas.{on_none_alone, on_one_alone, on_three_alone, on_two_alone, then_alone, IsPart}
use Rattle.alloc_outcomes.proofs.MeaningsLemmas.{AreShort, IsMeantOfNone, IsMeantOfOne, IsMeantOfThree, IsMeantOfTwo, none_says, one_says, three_says, two_says}
use Rattle.alloc_outcomes.proofs.SentencesLemmas.{Came}
use Rattle.alloc_outcomes.proofs.StepsLemmas.{refused_step}
use Rattle.alloc_steps.proofs.DecomposeFreeLemmas.{decompose_free_meant}
use Rattle.alloc_steps.proofs.DecomposeLemmas.{decompose_meant}
use Rattle.alloc_steps.proofs.GenerateLemmas.{generate_meant}
use Rattle.alloc_steps.proofs.SolveGuardedLemmas.{solve_guarded_meant}
use Rattle.alloc_steps.proofs.SolveLemmas.{solve_meant}
use Rattle.alloc_tables.proofs.SetsLemmas.{sets_meant}
use Rattle.alloc_tables.proofs.SidesLemmas.{sides_meant}
use Rattle.alloc_tables.proofs.TableLemmas.{table_meant}

-- where the files are short enough, the command answers
pub measured_part : (command : Command) (given : List (List ℕ)) → within given ≡ Ok given → IsPart (Answers command given) (Outcome command given)
measured_part command given short answer h = subst (λ r. Then r (Answers command) answer) (sym short) h

-- the exit of a `?` where one is too long
pub steps-measured : {K T : Type 0} (sink : Sink.Ghosts K) (command : Command) (given : List (List ℕ)) (out : K) (cause : Cause) (r : Result T Cause)
    → (within given ≡ Err cause) × IsRefusal cause → IsErrAnd r (λ it. it ≡ cause) → Steps sink (Outcome command given) out out r
steps-measured sink command given out cause (Ok x) h is = absurd is
steps-measured {T = T} sink command given out cause (Err it) h is =
    let due : Then (within given) (Answers command) (refuse cause) = subst (λ r. Then r (Answers command) (refuse cause)) (sym h.0) refl in
    subst (λ c. Steps sink {T = T} (Outcome command given) out out (Err c)) (sym is) (refused_step sink out cause h.1 due)

-- the outcome of a command on no file, where nothing was loaded
pub on_none_given : (outcome : Answer → Type 0) (given : List (Vec ℕ Global)) → length given ≡ 0 → IsPart outcome (on_none outcome (bytes_of given))
on_none_given outcome [] count answer h = h
on_none_given outcome (x ∷ more) count answer h = absurd (omega (arith, count))

-- the outcome of a command on three files, over what was loaded of each
pub on_three_given : (outcome : List ℕ → List ℕ → List ℕ → Answer → Type 0) (given : List (Vec ℕ Global)) (first second third : Vec ℕ Global) (a b c : List ℕ) → length given ≡ 3
    → first ≡ get_or given 0 first → second ≡ get_or given 1 second → third ≡ get_or given 2 third → a ≡ first.items → b ≡ second.items → c ≡ third.items
    → IsPart (outcome a b c) (on_three outcome (bytes_of given))
on_three_given outcome [] first second third a b c count is0 is1 is2 a_is b_is c_is answer h = absurd (omega (arith, count))
on_three_given outcome (x ∷ []) first second third a b c count is0 is1 is2 a_is b_is c_is answer h = absurd (omega (arith, count))
on_three_given outcome (x ∷ y ∷ []) first second third a b c count is0 is1 is2 a_is b_is c_is answer h = absurd (omega (arith, count))
on_three_given outcome (x ∷ y ∷ z ∷ []) first second third a b c count is0 is1 is2 a_is b_is c_is answer h =
    subst (λ bytes. outcome x.items y.items bytes answer) (c_is ∙ ap (λ (v : Vec ℕ Global). v.items) is2)
    (subst (λ bytes. outcome x.items bytes c answer) (b_is ∙ ap (λ (v : Vec ℕ Global). v.items) is1)
    (subst (λ bytes. outcome bytes b c answer) (a_is ∙ ap (λ (v : Vec ℕ Global). v.items) is0) h))
on_three_given outcome (x ∷ y ∷ z ∷ w ∷ more) first second third a b c count is0 is1 is2 a_is b_is c_is answer h = absurd (omega (arith, count))

-- ---- what each command means

-- a line for each command on no file
pub none_meant : (command : NoFile) → IsMeantOfNone (meaning_of_none command)
none_meant (none.Generate seed agents objects) = generate_meant seed agents objects
none_meant (none.PactCommit name contribution) = pact_commit_meant (name_text name) contribution

-- a line for each command on one file
pub one_meant : (command : OneFile) → IsMeantOfOne (meaning_of_one command)
one_meant (one.Pick ticket) = pick_meant ticket
one_meant (one.Draw seed) = draw_meant seed
one_meant one.Report = report_meant

-- a line for each command on two files
pub two_meant : (command : TwoFiles) → IsMeantOfTwo (meaning_of_two command)
two_meant two.Sets = sets_meant
two_meant two.Table = table_meant
two_meant two.Decompose = decompose_meant
two_meant two.Sides = sides_meant
two_meant two.DecomposeFree = decompose_free_meant
two_meant two.Solve = solve_meant
two_meant two.PactDraw = pact_draw_meant
two_meant two.SolveGuarded = solve_guarded_meant

-- a line for each command on three files
pub three_meant : (command : ThreeFiles) → IsMeantOfThree (meaning_of_three command)
three_meant three.Audit = audit_meant
three_meant three.AuditMatrix = audit_matrix_meant
three_meant three.Envy = envy_meant
three_meant three.AuditGuarded = audit_guarded_meant

answers_alone : (command : Command) (given : List (List ℕ)) → RefusesAlone (Answers command given)
answers_alone (commands.Zero command) given = on_none_alone (none_meant command).alone given
answers_alone (commands.One command) given = on_one_alone (one_meant command).alone given
answers_alone (commands.Two command) given = on_two_alone (two_meant command).alone given
answers_alone (commands.Three command) given = on_three_alone (three_meant command).alone given

pub outcome_alone : (command : Command) (given : List (List ℕ)) → RefusesAlone (Outcome command given)
outcome_alone command given = then_alone (within given) (Answers command) (answers_alone command)

-- what is said of a run follows from what comes of short files
pub says : (command : Command) (given : List (List ℕ)) (run : Run) → (AreShort given → Came (Answers command given) run) → Says command given run
says (commands.Zero command) given run came = none_says (meaning_of_none command) (none_meant command) given run came
says (commands.One command) given run came = one_says (meaning_of_one command) (one_meant command) given run came
says (commands.Two command) given run came = two_says (meaning_of_two command) (two_meant command) given run came
says (commands.Three command) given run came = three_says (meaning_of_three command) (three_meant command) given run came
