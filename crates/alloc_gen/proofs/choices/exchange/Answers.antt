use Rattle.std.proofs.Common.{◌≡◌, ℕ, ◌+◌, length, ap, sym, ◌∙◌, arith}
use Rattle.rand_chacha.specs.ChaCha.{ChaCha, word_at}
use Rattle.alloc_gen.specs.MadeLists.{shuffled}
use Rattle.alloc_gen.specs.Words.{words_from}
use Rattle.alloc_gen.proofs.Shuffles.{shuffled_none, exchanged}
use Rattle.alloc_gen.proofs.choices.exchange.Goals as goal

pub loop-place-init : goal.loop-place-init
loop-place-init c =
    let g = c.args.words.now in
    let word = words_from (word_at 10 g.key g.stream) g.word_pos in
    let e : g.word_pos ≡ g.word_pos + 0 = omega arith in
    record {
      order = c.requires.start ∙ sym (shuffled_none word (length c.args.order.now));
      words = ap (λ (x : ℕ). record g { word_pos = x }) e;
    }

pub loop-place-preserved : goal.loop-place-preserved
loop-place-preserved c =
    let g = c.args.words.now in
    let word = words_from (word_at 10 g.key g.stream) g.word_pos in
    let m = length c.loop-place.order in
    let inv = c.loop-place.invariant in
    let read : c.take_word-word.result ≡ word c.loop-place.place = c.take_word-word.ensures.value ∙ ap (λ (h : ChaCha). word_at 10 h.key h.stream h.word_pos) inv.words in
    let step = exchanged word m c.loop-place.place c.take_word-word.result c.loop-place.order inv.order read in
    let same : length c.swap.new.self ≡ m = c.swap.ensures.len in
    let e : g.word_pos + c.loop-place.place + 1 ≡ g.word_pos + (c.loop-place.place + 1) = omega arith in
    record {
      order = c.swap.ensures.after ∙ step ∙ ap (λ (x : ℕ). shuffled word x (c.loop-place.place + 1)) (sym same);
      words = c.take_word-word.ensures.moved ∙ ap (λ (h : ChaCha). record h { word_pos = h.word_pos + 1 }) inv.words ∙ ap (λ (x : ℕ). record g { word_pos = x }) e;
    }
