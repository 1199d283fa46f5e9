-- The forms of two words, of three and of four, and how many files they load.
use Rattle.std.proofs.Common.{◌≡◌, ◌∙◌, ◌+◌, ◌<◌, ◌≤◌, ℕ, List, [], ◌∷◌, Option, None, Some, IfSome, ap, arith, get_or, length, map, subst, sym}
use Rattle.std.specs.Option.{option_map, option_or}
use Rattle.alloc_cli.specs.Words.{command_of, file_count, form_of_one, form_of_two, form_of_three, none_of, one_of, pair_of, three_of, two_of}
use Rattle.alloc_cli.specs.declared.words.Command.{Command}
use Rattle.alloc_cli.specs.declared.words.Command.TheVariants as commands
use Rattle.alloc_cli.specs.declared.words.NoFile.{NoFile}
use Rattle.alloc_cli.specs.declared.words.OneFile.{OneFile}
use Rattle.alloc_cli.specs.declared.words.ThreeFiles.{ThreeFiles}
use Rattle.alloc_cli.specs.declared.words.TwoFiles.{TwoFiles}

module _ {A : Type 0} (text : A → List ℕ) where
  pub form_of_two_words : (words : List A) (name : A) → 2 ≤ length words → length words < 3 → name ≡ get_or words 0 name → form_of_one (text name) ≡ command_of (map text words)
  form_of_two_words [] name least most n = absurd (omega (arith, least))
  form_of_two_words (a ∷ []) name least most n = absurd (omega (arith, least))
  form_of_two_words (a ∷ b ∷ []) name least most n = ap (λ word. form_of_one (text word)) n
  form_of_two_words (a ∷ b ∷ c ∷ more) name least most n = absurd (omega (arith, most))

  pub form_of_three_words : (words : List A) (name first second : A) → 3 ≤ length words → length words < 4 → name ≡ get_or words 0 name → first ≡ get_or words 1 first → second ≡ get_or words 2 second
      → form_of_two (text name) (text first) (text second) ≡ command_of (map text words)
  form_of_three_words [] name first second least most n e s = absurd (omega (arith, least))
  form_of_three_words (a ∷ []) name first second least most n e s = absurd (omega (arith, least))
  form_of_three_words (a ∷ b ∷ []) name first second least most n e s = absurd (omega (arith, least))
  form_of_three_words (a ∷ b ∷ c ∷ []) name first second least most n e s =
      ap (λ word. form_of_two (text word) (text first) (text second)) n ∙ ap (λ word. form_of_two (text a) (text word) (text second)) e ∙ ap (λ word. form_of_two (text a) (text b) (text word)) s
  form_of_three_words (a ∷ b ∷ c ∷ d ∷ more) name first second least most n e s = absurd (omega (arith, most))

  pub form_of_four_words : (words : List A) (name first second third : A) → 4 ≤ length words → length words < 5
      → name ≡ get_or words 0 name → first ≡ get_or words 1 first → second ≡ get_or words 2 second → third ≡ get_or words 3 third
      → form_of_three (text name) (text first) (text second) (text third) ≡ command_of (map text words)
  form_of_four_words [] name first second third least most n e f g = absurd (omega (arith, least))
  form_of_four_words (a ∷ []) name first second third least most n e f g = absurd (omega (arith, least))
  form_of_four_words (a ∷ b ∷ []) name first second third least most n e f g = absurd (omega (arith, least))
  form_of_four_words (a ∷ b ∷ c ∷ []) name first second third least most n e f g = absurd (omega (arith, least))
  form_of_four_words (a ∷ b ∷ c ∷ d ∷ []) name first second third least most n e f g =
      ap (λ word. form_of_three (text word) (text first) (text second) (text third)) n ∙ ap (λ word. form_of_three (text a) (text word) (text second) (text third)) e
      ∙ ap (λ word. form_of_three (text a) (text b) (text word) (text third)) f ∙ ap (λ word. form_of_three (text a) (text b) (text c) (text word)) g
  form_of_four_words (a ∷ b ∷ c ∷ d ∷ e ∷ more) name first second third least most n h f g = absurd (omega (arith, most))

-- fewer files than words
abbrev pub LoadsFewer : ℕ → Option Command → Type 0
LoadsFewer words r = IfSome r (λ command. file_count command + 1 ≤ words)

of_two : (words : ℕ) → 3 ≤ words → (two : Option TwoFiles) (one : Option OneFile) (alone : Option NoFile)
    → LoadsFewer words (option_or (option_map (λ c. commands.Two c) two) (option_or (option_map (λ c. commands.One c) one) (option_map (λ c. commands.Zero c) alone)))
of_two words least (Some _) _ _ = omega (arith, least)
of_two words least None (Some _) _ = omega (arith, least)
of_two words least None None (Some _) = omega (arith, least)
of_two words least None None None = tt

of_three : (words : ℕ) → 4 ≤ words → (three : Option ThreeFiles) (alone : Option NoFile)
    → LoadsFewer words (option_or (option_map (λ c. commands.Three c) three) (option_map (λ c. commands.Zero c) alone))
of_three words least (Some _) _ = omega (arith, least)
of_three words least None (Some _) = omega (arith, least)
of_three words least None None = tt

pub form_of_two_loads : (words : ℕ) (name first second : List ℕ) (r : Option Command) → r ≡ form_of_two name first second → 3 ≤ words → LoadsFewer words r
form_of_two_loads words name first second r is least =
    subst (LoadsFewer words) (sym is) (of_two words least (two_of name) (one_of name second) (pair_of name first second))

pub form_of_three_loads : (words : ℕ) (name first second third : List ℕ) (r : Option Command) → r ≡ form_of_three name first second third → 4 ≤ words → LoadsFewer words r
form_of_three_loads words name first second third r is least =
    subst (LoadsFewer words) (sym is) (of_three words least (three_of name) (none_of name first second third))
