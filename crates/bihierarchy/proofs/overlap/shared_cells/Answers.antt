use Rattle.std.proofs.Common.{drop, get_or, false, refl, arith}
use Rattle.std.specs.Prelude.{IsTrue}
use Rattle.definitions.specs.Sets.{cell_of}
use Rattle.bihierarchy.proofs.Merges.{level, pass_first, pass_second, pass_both, shared_none}
use Rattle.bihierarchy.proofs.overlap.shared_cells.Goals as goal

pub loop-i-preserved-then-is_before : goal.loop-i-preserved-then-is_before
loop-i-preserved-then-is_before c =
    let step = pass_first c.args.a.now c.args.b.now c.loop-i.i c.loop-i.j (cell_of 0 0) c.requires.first c.requires.second (omega arith) (omega arith) (c.if-is_before.ensures.0 refl) in
    record { first = omega arith; second = omega arith; left = omega (arith, c.loop-i.invariant.left, step) }

pub loop-i-preserved-then-is_before-2 : goal.loop-i-preserved-then-is_before-2
loop-i-preserved-then-is_before-2 c =
    let step = pass_second c.args.a.now c.args.b.now c.loop-i.i c.loop-i.j (cell_of 0 0) c.requires.first c.requires.second (omega arith) (omega arith) (c.if-is_before-2.ensures.0 refl) in
    record { first = omega arith; second = omega arith; left = omega (arith, c.loop-i.invariant.left, step) }

pub loop-i-preserved : goal.loop-i-preserved
loop-i-preserved c =
    let d = cell_of 0 0 in
    let same = level (get_or c.args.a.now c.loop-i.i d) (get_or c.args.b.now c.loop-i.j d) (λ h. not_so (c.if-is_before.ensures.1 h)) (λ h. not_so (c.if-is_before-2.ensures.1 h)) in
    let step = pass_both c.args.a.now c.args.b.now c.loop-i.i c.loop-i.j d c.requires.first c.requires.second (omega arith) (omega arith) same in
    record { first = omega arith; second = omega arith; left = omega (arith, c.loop-i.invariant.left, step) }
  where
    not_so : IsTrue false → ⊥
    not_so e = cc e

pub returns-else-j-b : goal.returns-else-j-b
returns-else-j-b c = omega (arith, c.loop-i.invariant.left, shared_none (drop c.loop-i.i c.args.a.now) c.args.b.now c.loop-i.j c.if-j-b.false)
