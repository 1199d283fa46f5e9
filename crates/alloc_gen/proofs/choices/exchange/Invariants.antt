use Rattle.std.proofs.Common.{◌≡◌, ◌+◌, length}
use Rattle.rand_chacha.specs.ChaCha.{word_at}
use Rattle.alloc_gen.specs.MadeLists.{shuffled}
use Rattle.alloc_gen.specs.Words.{words_from}
use Rattle.alloc_gen.proofs.choices.exchange.Given as goal

abbrev pub invariant-loop-place : goal.invariant-loop-place
invariant-loop-place l = record {
  order : l.order ≡ shuffled (words_from (word_at 10 l.fn.words.key l.fn.words.stream) l.fn.words.word_pos) (length l.order) l.place;
  words : l.words ≡ record l.fn.words { word_pos = l.fn.words.word_pos + l.place };
}
