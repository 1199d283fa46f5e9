-- The words of a seed.
use Rattle.std.specs.Prelude.{ℕ, ◌+◌, List}
use Rattle.rand_chacha.specs.ChaCha.{word_at, key_of}

-- the words of ChaCha20 (RFC 8439) with a 64-bit counter, the seed of 32 bytes as its key and a
-- nonce of zero: 10 double rounds, stream 0
abbrev pub seed_words : List ℕ → ℕ → ℕ
seed_words seed = word_at 10 (key_of seed) 0

-- the words from a place on
abbrev pub words_from : (ℕ → ℕ) → ℕ → ℕ → ℕ
words_from word place j = word (place + j)
