-- The lists of a made problem. The project's own rule.
-- For each agent in order: start with s1 to sm in order. For j from 1 to min(m, 5): take the next
-- word w and exchange the entries at places j and j + (w mod (m − j + 1)). The list is the first
-- min(m, 5) entries and `none`.
-- Below places count from 0, so that place j is the place j + 1 of the rule; s1 to sm are the
-- columns 0 to m − 1, and `none` is the column m.
use Rattle.std.specs.Prelude.{ℕ, zero, suc, ◌+◌, ◌-◌, ◌*◌, ◌%◌, List, [], ◌∷◌, ◌++◌, map, take, min}
use Rattle.std.specs.List.{range_with_len, swap}
use Rattle.alloc_gen.specs.Words.{words_from}

-- s1 to sm after so many exchanges: the next word exchanges the entry at place j with one of the
-- m − j entries from there on
unfoldable pub shuffled : (ℕ → ℕ) → ℕ → ℕ → List ℕ
shuffled word m zero = range_with_len 0 m
shuffled word m (suc j) = swap (shuffled word m j) j (j + word j % (m - j))

-- how many objects a list has, and how many words it takes
abbrev pub list_size : ℕ → ℕ
list_size m = min m 5

-- the list of an agent who takes the first of these words
unfoldable pub made_list : (ℕ → ℕ) → ℕ → List ℕ
made_list word m = take (list_size m) (shuffled word m (list_size m)) ++ m ∷ []

-- the lists of n agents, of whom each takes the next words
unfoldable pub made_lists : (ℕ → ℕ) → ℕ → ℕ → List (List ℕ)
made_lists word n m =
    map (λ i. made_list (words_from word (i * list_size m)) m) (range_with_len 0 n)
