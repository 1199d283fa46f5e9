use Rattle.std.proofs.Common.{◌≡◌, ℕ, ◌+◌, ◌∙◌, Vec, Global, Option, length, ap, sym, subst}
use Rattle.std.proofs.lemmas.List.{with_items_is}
use Rattle.bihierarchy.specs.Tables.{AreDeepest}
use Rattle.bihierarchy.proofs.Entering.{deepest_same}
use Rattle.bihierarchy.proofs.holders.deepest_of.Goals as goal
use Rattle.bihierarchy.proofs.holders.deepest_of.Goals.{then-side_of-side, else-side_of-side}

pub loop-set-preserved : goal.loop-set-preserved
loop-set-preserved c =
    let f = c.args.family.now in
    let n = c.loop-set.set in
    elim c.if-side_of-side.branch [
      | then-side_of-side w ↦
          let size : length w.enter.new.table ≡ c.loop-set.deepest.len = w.enter.auto.table ∙ w.deref_mut.ensures.len in
          let items : c.if-side_of-side.deepest.items ≡ w.enter.new.table = ap (λ (v : Vec (Option ℕ) Global). v.items) w.deepest-is ∙ with_items_is c.loop-set.deepest w.enter.new.table size in
          rw items (subst (λ (side : ℕ). AreDeepest f side (n + 1) w.enter.new.table) (sym c.side_of.ensures ∙ w.if-side_of-side.true) w.enter.ensures)
      | else-side_of-side w ↦ rw w.deepest-is (deepest_same f c.args.side n c.loop-set.deepest.items (λ e. w.if-side_of-side.false (c.side_of.ensures ∙ e)) c.loop-set.invariant)
    ]
