-- A made problem. The project's own rule.
-- make(seed, n, m) has agents p1 to pn and objects s1 to sm. Words are those of the ChaCha20 stream
-- 0 with the seed as key, from word 0 on, each used once. The lists are those of `MadeLists`, the
-- stated sets those of `MadeSets`. Each demand is 1.
use Rattle.std.specs.Prelude.{ℕ, ◌+◌, ◌*◌, List, ◌++◌, codes, map, replicate}
use Rattle.std.specs.Fmt.{decimal}
use Rattle.std.specs.List.{range_with_len}
use Rattle.definitions.specs.Sets.{FamilyValue}
use Rattle.definitions.specs.Values.{ProblemValue, row_sets}
use Rattle.alloc_gen.specs.MadeLists.{made_lists}
use Rattle.alloc_gen.specs.MadeSets.{made_sets}

-- the name with number i + 1: a letter and the number
abbrev pub made_name : List ℕ → ℕ → List ℕ
made_name letter i = letter ++ decimal (i + 1)

-- the names with numbers 1 to so many
abbrev pub made_names : List ℕ → ℕ → List (List ℕ)
made_names letter count = map (made_name letter) (range_with_len 0 count)

-- the stated sets of n agents and m objects, over the columns of the objects and of `none`
abbrev pub made_family : ℕ → ℕ → FamilyValue
made_family n m = record { agents = n; columns = m + 1; sets = made_sets n m }

-- the problem of n agents and m objects that these words make
unfoldable pub made_problem : (ℕ → ℕ) → ℕ → ℕ → ProblemValue
made_problem word n m = record {
  agents = made_names (codes "p") n;
  objects = made_names (codes "s") m;
  lists = made_lists word n m;
  demands = replicate n 1;
  family = record (made_family n m) {
    sets = made_sets n m ++ row_sets (m + 1) (replicate n 1);
  };
  stated = 2 * m;
}
