-- One worth more.
use Rattle.std.proofs.Common.{◌≡◌, ◌+◌, ◌++◌, ◌∙◌, None, get_or, ap, sym, subst, rules, pos, drop, to_z, of_z, w64, ◌+ℤ◌, ◌≤ℤ◌, ℤ}
use Rattle.std.proofs.lemmas.Int.{to_z-of_z}
use Rattle.definitions.specs.Certificate.{worth_here}
use Rattle.price_cert.specs.Worths.{worths_by}
use Rattle.price_cert.proofs.WorthSteps.{worth_more}
use Rattle.price_cert.proofs.worths.worths_from.Goals as goal

pub loop-level-preserved : goal.loop-level-preserved
loop-level-preserved c =
    let w = to_z w64 (of_z w64 c.worth_of-before.result) in
    let levels = c.args.levels.now in
    let i = c.loop-level.level-index in
    let back : to_z w64 (of_z w64 c.worth_of-before.result) ≡ c.worth_of-before.result = to_z-of_z w64 c.worth_of-before.result (search rules) in
    let value = c.worth_of-before.ensures.value ∙ ap (λ b. worth_here b (get_or c.args.levels.now c.loop-level.level-index None)) c.loop-level.before-is in
    record {
      made = worth_more levels i None c.loop-level.before w c.loop-level.worths.items c.push.new.self.items (worths_by (pos 0) levels) c.loop-level-test.true (back ∙ value)
          c.in_ok-push.ensures.items (ap (λ b. c.loop-level.worths.items ++ worths_by b (drop c.loop-level.level-index c.args.levels.now)) (sym c.loop-level.before-is) ∙ c.loop-level.invariant.made);
      low = subst (λ (z : ℤ). pos 0 ≤ℤ (z +ℤ pos (i + 1))) (sym back) (c.worth_of-before.ensures.low i c.loop-level.invariant.low);
    }
