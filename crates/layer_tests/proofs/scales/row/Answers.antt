use Rattle.std.proofs.Common.{◌≡◌, ℕ, ◌*◌, ◌∙◌, length, refl, sym, ap, arith, one-mul}
use Rattle.layer_tests.proofs.scales.row.Goals as goal

one_row : (cells agents objects : ℕ) → agents ≡ 1 → objects ≡ cells → cells ≡ agents * objects
one_row cells agents objects one many = sym many ∙ sym (one-mul objects) ∙ ap (λ n. n * objects) (sym one)

pub new-requires-clause-shape : goal.new-requires-clause-shape
new-requires-clause-shape c =
    let one : length c.add.new.self ≡ 1 = rw (c.in_ok-add.ensures.added, c.new-agents.ensures) refl in
    one_row (length c.args.entries.items) (length c.add.new.self) (length c.loop-i.objects) one (omega arith)
