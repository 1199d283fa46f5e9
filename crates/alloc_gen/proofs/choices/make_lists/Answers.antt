use Rattle.std.proofs.Common.{◌≡◌, ℕ, ◌+◌, ◌*◌, ◌≤◌, List, [], ◌∷◌, ◌++◌, map, ap, sym, ◌∙◌, arith}
use Rattle.std.proofs.lemmas.List.{map-append}
use Rattle.std.proofs.lemmas.Nat.{mul-le}
use Rattle.rand_chacha.specs.ChaCha.{ChaCha, word_at, key_of}
use Rattle.alloc_gen.specs.MadeLists.{list_size, made_list, made_lists}
use Rattle.alloc_gen.specs.Words.{seed_words, words_from}
use Rattle.alloc_gen.proofs.Shuffles.{lists_none, lists_more, next_place}
use Rattle.alloc_gen.proofs.choices.make_lists.Goals as goal

pub loop-agent-init : goal.loop-agent-init
loop-agent-init c =
    let e : 0 ≡ 0 * list_size c.args.objects = omega arith in
    record {
      lists = ap (map (λ (v : _). v.items)) c.new-lists.ensures.items ∙ sym (lists_none (seed_words c.args.seed) c.args.objects);
      words = c.from_seed-words.ensures ∙ ap (λ (x : ℕ). record { key = key_of c.args.seed; stream = 0; word_pos = x }) e;
    }

pub make_list-requires : goal.make_list-requires
make_list-requires c =
    let place : c.loop-agent.words.word_pos ≡ c.loop-agent._agent * list_size c.args.objects = ap (λ (g : ChaCha). g.word_pos) c.loop-agent.invariant.words in
    let most : c.loop-agent._agent * list_size c.args.objects ≤ 1000 * 5 = mul-le c.loop-agent._agent (list_size c.args.objects) 1000 5 (omega arith) (omega arith) in
    omega arith

pub loop-agent-preserved : goal.loop-agent-preserved
loop-agent-preserved c =
    let word = seed_words c.args.seed in
    let m = c.args.objects in
    let i = c.loop-agent._agent in
    let inv = c.loop-agent.invariant in
    let pushed = ap (map (λ (v : _). v.items)) c.in_ok-push.ensures.items ∙ map-append (λ (v : _). v.items) c.loop-agent.lists.items (c.in_ok-list.list ∷ []) in
    let made : c.in_ok-list.list.items ≡ made_list (words_from word (i * list_size m)) m = c.in_ok-list.ensures.list ∙ ap (λ (g : ChaCha). made_list (words_from (word_at 10 g.key g.stream) g.word_pos) m) inv.words in
    let e : i * list_size m + list_size m ≡ (i + 1) * list_size m = next_place i (list_size m) in
    record {
      lists = pushed ∙ ap (λ (l : List (List ℕ)). l ++ c.in_ok-list.list.items ∷ []) inv.lists ∙ ap (λ (l : List ℕ). made_lists word i m ++ l ∷ []) made ∙ sym (lists_more word i m);
      words = c.in_ok-list.ensures.moved ∙ ap (λ (g : ChaCha). record g { word_pos = g.word_pos + list_size m }) inv.words ∙ ap (λ (x : ℕ). record { key = key_of c.args.seed; stream = 0; word_pos = x }) e;
    }
