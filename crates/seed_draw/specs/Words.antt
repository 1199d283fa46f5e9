-- The words of a seed, and numbers made of them.
use Rattle.std.specs.Prelude.{ℕ, ◌+◌, ◌*◌, ◌^◌, List}
use Rattle.rand_chacha.specs.ChaCha.{word_at, key_of}

-- the words of ChaCha20 (RFC 8439) with a 64-bit counter, the seed of 32 bytes as its key and a
-- nonce of zero: 10 double rounds, stream 0
abbrev pub seed_words : List ℕ → ℕ → ℕ
seed_words seed = word_at 10 (key_of seed) 0

-- four words from a place on as one number, the first word least
abbrev pub four_words : (ℕ → ℕ) → ℕ → ℕ
four_words word at =
    word at + 2 ^ 32 * word (at + 1) + 2 ^ 64 * word (at + 2) + 2 ^ 96 * word (at + 3)
