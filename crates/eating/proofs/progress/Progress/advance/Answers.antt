use Rattle.std.proofs.Common.{None, ◌+◌, ◌*◌, ◌<◌, ◌≤◌, refl, arith, length, ap, sym, subst, ◌∙◌, get_or, mul_comm}
use Rattle.std.proofs.lemmas.List.{length-set, get_or_read, get_or-set_other, get_or-set_same}
use Rattle.eating.specs.declared.due.Due.{Due}
use Rattle.eating.specs.Dues.{AreDueAt, IsSteadyAt}
use Rattle.eating.proofs.Dues.{dues_after, steady_after}
use Rattle.eating.proofs.Advancing.{IsAdvancing, advanced_read, advancing_more}
use Rattle.eating.proofs.progress.Progress.advance.Goals as goal
use Rattle.eating.proofs.progress.Progress.advance.Goals.{then-moment-taken, else-moment-taken}

pub loop-limit-preserved : goal.loop-limit-preserved
loop-limit-preserved c =
    let old = c.args.self.now in
    let now = c.loop-limit.self in
    let n = c.loop-limit.limit in
    let inv = c.loop-limit.invariant in
    let inside : n < length old.moments.items = omega (arith, c.loop-limit-test.true, c.len-limit-end.ensures, old.moments.ok) in
    let in_moments : n < length now.moments.items = omega (arith, inside, inv.many) in
    let in_rests : n < length now.rests.items = omega (arith, inside, inv.many_rests, c.requires.within.many_rests) in
    let in_speeds : n < length now.speeds.items = omega (arith, inside, ap length inv.speeds, c.requires.within.many_speeds) in
    let moment = get_or_read now.moments.items n c.index-in-loop-limit.result.now in_moments c.index-in-loop-limit.ensures 0 ∙ inv.moments n (omega arith) in
    let rest = get_or_read now.rests.items n c.index-in-loop-limit-2.result.now in_rests c.index-in-loop-limit-2.ensures 0 ∙ inv.rests n (omega arith) in
    let speed = get_or_read now.speeds.items n c.index.result.now in_speeds c.index.ensures 0 ∙ ap (λ xs. get_or xs n 0) inv.speeds in
    let in_dues : n < length now.dues = omega (arith, inside, inv.many_dues, c.requires.dues.many) in
    let never : Due = record { moment = None } in
    let step = advanced_read old.unit c.args.factor c.args.step _ c.index-in-loop-limit.result.now c.index-in-loop-limit-2.result.now c.index.result.now _ _ _ c.limit-moment.result.0 c.limit-moment.result.1 moment rest speed c.limit-moment.ensures in
    elim c.if-moment-taken.branch [
      | then-moment-taken w ↦
          subst (IsAdvancing old c.args.factor c.args.step (n + 1)) (sym w.self-is)
          (advancing_more old c.args.factor c.args.step n now _ c.limit-moment.result.0 c.limit-moment.result.1 inv in_moments in_rests refl refl refl refl refl refl step (record {
            many = ap length w.set_key.ensures ∙ length-set now.dues n never;
            others = λ d j apart. ap (λ xs. get_or xs j d) w.set_key.ensures ∙ get_or-set_other now.dues n j never d apart;
            closed = λ d _. ap (λ (x : Due). x.moment) (ap (λ xs. get_or xs n d) w.set_key.ensures ∙ get_or-set_same now.dues n never d in_dues);
            kept = λ d other. absurd (other w.if-moment-taken.true);
          }))
      | else-moment-taken w ↦
          subst (IsAdvancing old c.args.factor c.args.step (n + 1)) (sym w.self-is)
          (advancing_more old c.args.factor c.args.step n now _ c.limit-moment.result.0 c.limit-moment.result.1 inv in_moments in_rests refl refl refl refl refl refl step (record {
            many = refl;
            others = λ d j apart. refl;
            closed = λ d is. absurd (w.if-moment-taken.false is);
            kept = λ d other. refl;
          }))
    ]

pub returns-clause-steady : goal.returns-clause-steady
returns-clause-steady c =
    let old = c.args.self.now in
    let now = c.loop-limit.self in
    let inv = c.loop-limit.invariant in
    let all : length old.moments.items ≤ c.loop-limit.limit = omega (arith, c.loop-limit-test.false, c.len-limit-end.ensures, old.moments.ok) in
    subst (λ U. IsSteadyAt U (c.args.factor * old.at + c.args.step) now.moments.items now.rests.items now.speeds.items) (mul_comm c.args.factor old.unit ∙ ap (λ n. n * c.args.factor) (sym inv.unit))
    (steady_after old.unit old.at c.args.factor c.args.step (c.args.factor * old.at + c.args.step) old.moments.items old.rests.items old.speeds.items now.speeds.items now.moments.items now.rests.items
    c.requires.within c.requires.positive refl c.requires.before_end c.requires.fine inv.speeds
    (record { many = inv.many; many_rests = inv.many_rests ∙ c.requires.within.many_rests; each = λ j l. inv.done j (omega (arith, l, all)) }))

pub returns-clause-dues : goal.returns-clause-dues
returns-clause-dues c =
    let old = c.args.self.now in
    let now = c.loop-limit.self in
    let inv = c.loop-limit.invariant in
    let all : length old.moments.items ≤ c.loop-limit.limit = omega (arith, c.loop-limit-test.false, c.len-limit-end.ensures, old.moments.ok) in
    subst (λ U. AreDueAt U (c.args.factor * old.at + c.args.step) now.moments.items now.rests.items now.speeds.items now.dues) (mul_comm c.args.factor old.unit ∙ ap (λ n. n * c.args.factor) (sym inv.unit))
    (subst (λ v. AreDueAt (c.args.factor * old.unit) (c.args.factor * old.at + c.args.step) now.moments.items now.rests.items v now.dues) (sym inv.speeds)
    (dues_after old.unit old.at c.args.factor c.args.step (c.args.factor * old.at + c.args.step) old.moments.items old.rests.items old.speeds.items now.moments.items now.rests.items old.dues now.dues
    c.requires.positive refl c.requires.before_end
    (record { many = inv.many; many_rests = inv.many_rests ∙ c.requires.within.many_rests; each = λ j l. inv.done j (omega (arith, l, all)) })
    inv.many_dues (λ d j l. inv.closed d j (omega (arith, l, all))) (λ d j l. inv.kept d j (omega (arith, l, all))) c.requires.dues))
