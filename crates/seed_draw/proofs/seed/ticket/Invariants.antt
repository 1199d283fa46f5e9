use Rattle.std.proofs.Common.{◌≡◌, ◌-◌, ◌*◌}
use Rattle.definitions.specs.Tickets.{binary_digits, ticket_of}
use Rattle.rand_chacha.specs.ChaCha.{key_of}
use Rattle.seed_draw.specs.Words.{seed_words}
use Rattle.seed_draw.proofs.Candidates.{first_candidate}
use Rattle.seed_draw.proofs.seed.ticket.Given as goal

-- the answer is that of the candidates from here on
abbrev pub invariant-loop-k : goal.invariant-loop-k
invariant-loop-k l = record {
  key : l.words.key ≡ key_of l.fn.seed;
  stream : l.words.stream ≡ 0;
  place : l.words.word_pos ≡ 4 * l._k;
  digits : l.digits ≡ binary_digits (l.denominator - 1);
  rest : ticket_of (seed_words l.fn.seed) l.denominator ≡ first_candidate (seed_words l.fn.seed) l.denominator l._k 256;
}
