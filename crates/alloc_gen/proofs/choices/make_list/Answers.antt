use Rattle.std.proofs.Common.{◌≡◌, length, take, ap, sym, ◌∙◌, arith}
use Rattle.std.specs.List.{range_with_len}
use Rattle.std.proofs.lemmas.List.{take_at}
use Rattle.std.proofs.lemmas.List.FromFn.{length-range_with_len}
use Rattle.rand_chacha.specs.ChaCha.{word_at}
use Rattle.alloc_gen.specs.Words.{words_from}
use Rattle.alloc_gen.proofs.Shuffles.{list_put}
use Rattle.alloc_gen.proofs.choices.make_list.Goals as goal

pub exchange-requires-clause-start : goal.exchange-requires-clause-start
exchange-requires-clause-start c =
    let all : c.deref_mut.result.now ≡ range_with_len 0 c.args.objects = c.deref_mut.ensures.value ∙ c.in_ok-order.ensures in
    let many : length c.deref_mut.result.now ≡ c.args.objects = ap length all ∙ length-range_with_len 0 c.args.objects in
    all ∙ ap (range_with_len 0) (sym many)

pub exchange-requires-clause-within : goal.exchange-requires-clause-within
exchange-requires-clause-within c =
    let all : c.deref_mut.result.now ≡ range_with_len 0 c.args.objects = c.deref_mut.ensures.value ∙ c.in_ok-order.ensures in
    let many : length c.deref_mut.result.now ≡ c.args.objects = ap length all ∙ length-range_with_len 0 c.args.objects in
    omega arith

pub returns-clause-list : goal.returns-clause-list
returns-clause-list c =
    let g = c.args.words.now in
    let word = words_from (word_at 10 g.key g.stream) g.word_pos in
    let all : c.deref_mut.result.now ≡ range_with_len 0 c.args.objects = c.deref_mut.ensures.value ∙ c.in_ok-order.ensures in
    let many : length c.deref_mut.result.now ≡ c.args.objects = ap length all ∙ length-range_with_len 0 c.args.objects in
    let kept : c.truncate.new.self.items ≡ take c.min-size.result c.exchange.new.order = c.truncate.ensures.items ∙ ap (take c.min-size.result) (take_at c.exchange.new.order _ c.in_ok-order.order.len (omega arith)) in
    list_put word c.args.objects c.min-size.result (length c.deref_mut.result.now) c.exchange.new.order c.truncate.new.self.items c.push.new.self.items many c.min-size.ensures c.exchange.ensures.order kept c.in_ok-push.ensures.items
