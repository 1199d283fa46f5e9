-- What each command means: what it answers, given what its files gave, a refusal or a text that it may
-- write; and what is said of its runs.
use Rattle.std.specs.Prelude.{◌≡◌, ℕ, ◌+◌, List, [], ◌∷◌, length, if◌then◌else◌, nat_lt, Option, None, Some, Result, Ok, Err}
use Rattle.std.specs.Option.{option_map_or}
use Rattle.alloc_cli.specs.ShortNames.{name_text}
use Rattle.alloc_cli.specs.declared.words.Command.{Command}
use Rattle.alloc_cli.specs.declared.words.Command.TheVariants as commands
use Rattle.alloc_cli.specs.declared.words.NoFile.{NoFile}
use Rattle.alloc_cli.specs.declared.words.NoFile.TheVariants as none
use Rattle.alloc_cli.specs.declared.words.OneFile.{OneFile}
use Rattle.alloc_cli.specs.declared.words.OneFile.TheVariants as one
use Rattle.alloc_cli.specs.declared.words.ThreeFiles.{ThreeFiles}
use Rattle.alloc_cli.specs.declared.words.ThreeFiles.TheVariants as three
use Rattle.alloc_cli.specs.declared.words.TwoFiles.{TwoFiles}
use Rattle.alloc_cli.specs.declared.words.TwoFiles.TheVariants as two
use Rattle.alloc_audits.specs.Audit.{audit_meaning}
use Rattle.alloc_audits.specs.AuditGuarded.{audit_guarded_meaning}
use Rattle.alloc_audits.specs.AuditMatrix.{audit_matrix_meaning}
use Rattle.alloc_audits.specs.Envy.{envy_meaning}
use Rattle.alloc_draws.specs.Draw.{draw_meaning}
use Rattle.alloc_draws.specs.PactCommit.{pact_commit_meaning}
use Rattle.alloc_draws.specs.PactDraw.{pact_draw_meaning}
use Rattle.alloc_draws.specs.Pick.{pick_meaning}
use Rattle.alloc_draws.specs.Report.{report_meaning}
use Rattle.alloc_outcomes.specs.Answers.{Answer, Then, on_none, on_one, on_three, on_two}
use Rattle.alloc_outcomes.specs.Causes.{IsRefusal}
use Rattle.alloc_outcomes.specs.Limits.{file_limit}
use Rattle.alloc_outcomes.specs.Meanings.{NoneMeaning, OneMeaning, ThreeMeaning, TwoMeaning, said_on_none, said_on_one, said_on_three, said_on_two}
use Rattle.alloc_outcomes.specs.Sentences.{Run}
use Rattle.alloc_outcomes.specs.declared.cause.Cause.{Cause}
use Rattle.alloc_outcomes.specs.declared.cause.Cause.TheVariants as causes
use Rattle.alloc_steps.specs.Decompose.{decompose_meaning}
use Rattle.alloc_steps.specs.DecomposeFree.{decompose_free_meaning}
use Rattle.alloc_steps.specs.Generate.{generate_meaning}
use Rattle.alloc_steps.specs.Solve.{solve_meaning}
use Rattle.alloc_steps.specs.SolveGuarded.{solve_guarded_meaning}
use Rattle.alloc_tables.specs.Sets.{sets_meaning}
use Rattle.alloc_tables.specs.Sides.{sides_meaning}
use Rattle.alloc_tables.specs.Table.{table_meaning}

-- what a command on no file means: a line for each
abbrev pub meaning_of_none : NoFile → NoneMeaning
meaning_of_none (none.Generate seed agents objects) = generate_meaning seed agents objects
meaning_of_none (none.PactCommit name contribution) =
    pact_commit_meaning (name_text name) contribution

-- what a command on one file means: a line for each
abbrev pub meaning_of_one : OneFile → OneMeaning
meaning_of_one (one.Pick ticket) = pick_meaning ticket
meaning_of_one (one.Draw seed) = draw_meaning seed
meaning_of_one one.Report = report_meaning

-- what a command on two files means: a line for each
abbrev pub meaning_of_two : TwoFiles → TwoMeaning
meaning_of_two two.Sets = sets_meaning
meaning_of_two two.Table = table_meaning
meaning_of_two two.Decompose = decompose_meaning
meaning_of_two two.Sides = sides_meaning
meaning_of_two two.DecomposeFree = decompose_free_meaning
meaning_of_two two.Solve = solve_meaning
meaning_of_two two.PactDraw = pact_draw_meaning
meaning_of_two two.SolveGuarded = solve_guarded_meaning

-- what a command on three files means: a line for each
abbrev pub meaning_of_three : ThreeFiles → ThreeMeaning
meaning_of_three three.Audit = audit_meaning
meaning_of_three three.AuditMatrix = audit_matrix_meaning
meaning_of_three three.Envy = envy_meaning
meaning_of_three three.AuditGuarded = audit_guarded_meaning

-- what a command answers once its files are short enough
abbrev pub Answers : Command → List (List ℕ) → Answer → Type 0
Answers (commands.Zero command) = on_none (meaning_of_none command).answers
Answers (commands.One command) = on_one (meaning_of_one command).answers
Answers (commands.Two command) = on_two (meaning_of_two command).answers
Answers (commands.Three command) = on_three (meaning_of_three command).answers

-- what is said of a run of a command, over what its files hold
abbrev pub Says : Command → List (List ℕ) → Run → Type 0
Says (commands.Zero command) = said_on_none (meaning_of_none command).says
Says (commands.One command) = said_on_one (meaning_of_one command).says
Says (commands.Two command) = said_on_two (meaning_of_two command).says
Says (commands.Three command) = said_on_three (meaning_of_three command).says

-- the first file of more bytes than a file may have, counted from this number on
abbrev pub too_long_from : ℕ → List (List ℕ) → Option ℕ
too_long_from number [] = None
too_long_from number (file ∷ files) =
    if nat_lt file_limit (length file) then Some number else too_long_from (number + 1) files

-- the files, where each is short enough
abbrev pub within : List (List ℕ) → Result (List (List ℕ)) Cause
within given = option_map_or (λ file. Err (causes.TooLong file)) (too_long_from 1 given) (Ok given)

-- no file is too long, or the first that is
abbrev pub Measures : {T : Type 0} → List (List ℕ) → Result T Cause → Type 0
Measures given (Ok _) = within given ≡ Ok given
Measures given (Err cause) = (within given ≡ Err cause) × IsRefusal cause

-- what a command answers
abbrev pub Outcome : Command → List (List ℕ) → Answer → Type 0
Outcome command given = Then (within given) (Answers command)
