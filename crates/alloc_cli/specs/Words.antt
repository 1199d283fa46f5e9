-- The forms of the words.
use Rattle.std.specs.Prelude.{ℕ, ◌&&◌, List, [], ◌∷◌, if◌then◌else◌, nat_le, Option, None, Some, codes}
use Rattle.std.specs.Option.{option_and_then, option_map, option_or}
use Rattle.std.specs.Str.{bytes_eq}
use Rattle.definitions.specs.Texts.{count_of}
use Rattle.alloc_cli.specs.Seed.{seed_of}
use Rattle.alloc_cli.specs.ShortNames.{short_name_of, IsShortName}
use Rattle.alloc_cli.specs.declared.words.Command.{Command}
use Rattle.alloc_cli.specs.declared.words.Command.TheVariants as commands
use Rattle.alloc_cli.specs.declared.words.NoFile.{NoFile}
use Rattle.alloc_cli.specs.declared.words.NoFile.TheVariants as none
use Rattle.alloc_cli.specs.declared.words.OneFile.{OneFile}
use Rattle.alloc_cli.specs.declared.words.OneFile.TheVariants as one
use Rattle.alloc_cli.specs.declared.words.ThreeFiles.{ThreeFiles}
use Rattle.alloc_cli.specs.declared.words.ThreeFiles.TheVariants as three
use Rattle.alloc_cli.specs.declared.words.TwoFiles.{TwoFiles}
use Rattle.alloc_cli.specs.declared.words.TwoFiles.TheVariants as two
use Rattle.alloc_steps.specs.Generate.{IsMakeable}

-- a number of agents or of objects, from 1 to this limit
abbrev pub size_of : (limit : ℕ) (word : List ℕ) → Option ℕ
size_of limit word = option_and_then
    (λ n. if nat_le 1 n && nat_le n limit then Some n else None) (count_of word)

-- `generate`, by the words after its name
abbrev pub generate_of : (seed agents objects : List ℕ) → Option NoFile
generate_of seed agents objects =
    option_and_then (λ s. option_and_then (λ n. option_map (λ m. none.Generate s n m)
    (size_of 200 objects)) (size_of 1000 agents)) (seed_of seed)

-- `pact-commit`, by the words after its name
abbrev pub pact_commit_of : (name contribution : List ℕ) → Option NoFile
pact_commit_of name contribution =
    option_and_then (λ n. option_map (λ c. none.PactCommit n c) (seed_of contribution))
    (short_name_of name)

-- the command on no file of this name, and of the two words after it
abbrev pub pair_of : (name first second : List ℕ) → Option NoFile
pair_of name first second =
    if bytes_eq name (codes "pact-commit") then pact_commit_of first second else None

-- the command on no file of this name, and of the three words after it
abbrev pub none_of : (name first second third : List ℕ) → Option NoFile
none_of name first second third =
    if bytes_eq name (codes "generate") then generate_of first second third else None

-- the command on one file alone of this name
abbrev pub alone_of : (name : List ℕ) → Option OneFile
alone_of name = if bytes_eq name (codes "report") then Some one.Report else None

-- the command on one file of this name, and of the word after the file
abbrev pub one_of : (name word : List ℕ) → Option OneFile
one_of name word =
    if bytes_eq name (codes "pick") then option_map (λ ticket. one.Pick ticket) (count_of word)
    else if bytes_eq name (codes "draw") then option_map (λ seed. one.Draw seed) (seed_of word)
    else None

-- the command on two files of this name
abbrev pub two_of : (name : List ℕ) → Option TwoFiles
two_of name =
    if bytes_eq name (codes "sets") then Some two.Sets
    else if bytes_eq name (codes "table") then Some two.Table
    else if bytes_eq name (codes "decompose") then Some two.Decompose
    else if bytes_eq name (codes "sides") then Some two.Sides
    else if bytes_eq name (codes "decompose-free") then Some two.DecomposeFree
    else if bytes_eq name (codes "solve") then Some two.Solve
    else if bytes_eq name (codes "pact-draw") then Some two.PactDraw
    else if bytes_eq name (codes "solve-guarded") then Some two.SolveGuarded
    else None

-- the command on three files of this name
abbrev pub three_of : (name : List ℕ) → Option ThreeFiles
three_of name =
    if bytes_eq name (codes "audit") then Some three.Audit
    else if bytes_eq name (codes "audit-matrix") then Some three.AuditMatrix
    else if bytes_eq name (codes "envy") then Some three.Envy
    else if bytes_eq name (codes "audit-guarded") then Some three.AuditGuarded
    else None

-- the command of this name and one more word
abbrev pub form_of_one : (name : List ℕ) → Option Command
form_of_one name = option_map (λ c. commands.One c) (alone_of name)

-- the command of this name and two more words
abbrev pub form_of_two : (name first second : List ℕ) → Option Command
form_of_two name first second =
    option_or (option_map (λ c. commands.Two c) (two_of name))
    (option_or (option_map (λ c. commands.One c) (one_of name second))
    (option_map (λ c. commands.Zero c) (pair_of name first second)))

-- the command of this name and three more words
abbrev pub form_of_three : (name first second third : List ℕ) → Option Command
form_of_three name first second third =
    option_or (option_map (λ c. commands.Three c) (three_of name))
    (option_map (λ c. commands.Zero c) (none_of name first second third))

-- the command that the words are a form of
abbrev pub command_of : List (List ℕ) → Option Command
command_of (name ∷ first ∷ []) = form_of_one name
command_of (name ∷ first ∷ second ∷ []) = form_of_two name first second
command_of (name ∷ first ∷ second ∷ third ∷ []) = form_of_three name first second third
command_of _ = None

-- the numbers of a command are within their limits, and its name is lawful: those of the words are
abbrev pub IsWithinLimits : Command → Type 0
IsWithinLimits (commands.Zero (none.Generate _ agents objects)) = IsMakeable agents objects
IsWithinLimits (commands.Zero (none.PactCommit name _)) = IsShortName name
IsWithinLimits _ = Unit {0}

-- how many files it loads: the words after its name
abbrev pub file_count : Command → ℕ
file_count (commands.Zero _) = 0
file_count (commands.One _) = 1
file_count (commands.Two _) = 2
file_count (commands.Three _) = 3
