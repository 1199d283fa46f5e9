-- The same tests word by word, which the loops are proved against. The public clauses speak of bits alone.
use Rattle.std.specs.Prelude.{ℕ, List, [], ◌∷◌, Bool, true, false, not, ◌||◌, ◌&&◌, ◌==◌, bit_and}

-- some word of a shares a bit with the word of b at its place
abbrev pub words_meet : List ℕ → List ℕ → Bool
words_meet [] ys = false
words_meet (x ∷ xs) [] = false
words_meet (x ∷ xs) (y ∷ ys) = not (bit_and x y == 0) || words_meet xs ys

-- each word of a has its bits in the word of b at its place
abbrev pub words_within : List ℕ → List ℕ → Bool
words_within [] ys = true
words_within (x ∷ xs) [] = true
words_within (x ∷ xs) (y ∷ ys) = (bit_and x y == x) && words_within xs ys
