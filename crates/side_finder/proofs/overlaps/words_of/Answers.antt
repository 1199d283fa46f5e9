use Rattle.std.proofs.Common.{◌≡◌, ℕ, ◌*◌, ◌∙◌, length, replicate, ap₂}
use Rattle.std.proofs.lemmas.List.{with_items_is}
use Rattle.side_finder.proofs.Words.{holders_none}
use Rattle.side_finder.proofs.overlaps.words_of.Goals as goal

pub loop-bit-init : goal.loop-bit-init
loop-bit-init c =
    holders_none c.args.family.now c.args.block c.in_ok-words.words.items
    (c.in_ok-words.ensures.items_if_clones_equal (λ y e. e) ∙ ap₂ (λ (m n : ℕ). replicate (m * n) 0) c.agents.ensures.value c.columns.ensures.value)

pub loop-bit-preserved : goal.loop-bit-preserved
loop-bit-preserved c =
    let size : length c.enter_bit.new.words ≡ c.loop-bit.words.len = c.enter_bit.auto.words ∙ c.deref_mut.ensures.len in
    rw (with_items_is c.loop-bit.words c.enter_bit.new.words size) c.enter_bit.ensures
