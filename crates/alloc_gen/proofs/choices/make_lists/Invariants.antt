use Rattle.std.proofs.Common.{◌≡◌, ◌*◌, map}
use Rattle.rand_chacha.specs.ChaCha.{key_of}
use Rattle.alloc_gen.specs.MadeLists.{list_size, made_lists}
use Rattle.alloc_gen.specs.Words.{seed_words}
use Rattle.alloc_gen.proofs.choices.make_lists.Given as goal

abbrev pub invariant-loop-agent : goal.invariant-loop-agent
invariant-loop-agent l = record {
  lists : map (λ list. list.items) l.lists.items ≡ made_lists (seed_words l.fn.seed) l._agent l.objects;
  words : l.words ≡ record { key = key_of l.fn.seed; stream = 0; word_pos = l._agent * list_size l.objects };
}
