use Rattle.std.proofs.Common.{◌≡◌, ◌+◌, ◌<◌, arith, length, get_or, ap, sym, ◌∙◌, subst, set, take, drop}
use Rattle.definitions.specs.Eating.{full_at}
use Rattle.eating.specs.Plan.{least_from}
use Rattle.eating.specs.Serving.{IsRow}
use Rattle.eating.proofs.Rows.{row_more, row_all, line_capped, line_inside, same_column}
use Rattle.eating.proofs.serving.cap_line.Goals as goal

pub loop-place-preserved : goal.loop-place-preserved
loop-place-preserved c market i w h =
    let line = c.args.line.now in
    let e = c.args.moments.now in
    let D = c.args.unit in
    let first = c.args.stated in
    let k = c.loop-place.place in
    let l : k < length line.columns = omega (arith, c.loop-place-test.true, ap length c.columns-columns.ensures) in
    let column : get_or c.columns-columns.result.now k 0 ≡ get_or w.list k 0 = ap (λ xs. get_or xs k 0) c.columns-columns.ensures ∙ same_column market i w line e h k in
    let value = c.least_capped-cap.ensures ∙ ap (least_from D e first) c.holders.ensures ∙ line_capped market i w line e h D first k l in
    let inside = c.requires.inside k 0 l in
    let read = same_column market i w line e h k in
    let room : c.args.start + get_or w.list k 0 < length c.loop-place.caps = omega (arith, inside, read, c.loop-place.auto.caps) in
    let g = full_at D (drop first market.limits) (drop first e) i in
    subst (λ a. IsRow g (take (k + 1) w.list) c.args.start c.args.caps.now (set c.loop-place.caps (c.args.start + a) c.least_capped-cap.result)) (sym column)
    (row_more g w.list k c.args.start c.least_capped-cap.result c.args.caps.now c.loop-place.caps (line_inside market i w line e h k l) room value (c.loop-place.invariant market i w h))

pub returns : goal.returns
returns c market i w h =
    let line = c.args.line.now in
    let e = c.args.moments.now in
    row_all (full_at c.args.unit (drop c.args.stated market.limits) (drop c.args.stated e) i) w.list c.loop-place.place c.args.start c.args.caps.now c.loop-place.caps
    (omega (arith, c.loop-place-test.false, ap length c.columns-columns.ensures, ap length h.is_line.columns)) (c.loop-place.invariant market i w h)
