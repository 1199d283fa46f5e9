use Rattle.std.proofs.Common.{◌≡◌, ◌+◌, ◌<◌, ◌≤◌, refl, arith, length, get_or, ap, sym, ◌∙◌, subst, set, take, ◌*◌, ◌-◌}
use Rattle.std.proofs.Math.Nat.{mul-le-mul_right}
use Rattle.definitions.specs.Eating.{share, reached}
use Rattle.eating_laws.proofs.Holders.{least_of, least_le}
use Rattle.eating.specs.Serving.{IsRow}
use Rattle.eating.proofs.Rows.{row_none, row_more, row_all, line_reached, line_share, line_inside, same_column}
use Rattle.eating.proofs.serving.serve_line.Goals as goal

pub loop-place-init : goal.loop-place-init
unfolding reached
loop-place-init c = record {
  within = omega arith;
  reached = λ market i w h. refl;
  row = λ market i w h. row_none (share market c.args.unit c.args.moments.now i) c.args.start c.args.units.now;
}

pub overflow_mul-units : goal.overflow_mul-units
overflow_mul-units c =
    let least = least_le c.args.unit c.args.moments.now c.holders.result.now in
    let high : c.max-to.result ≤ c.args.unit = omega (arith, c.max-to.ensures, c.least_of.ensures, least, c.loop-place.invariant.within) in
    let few : c.demand.result ≤ 1000 = omega (arith, c.demand.ensures, c.requires.demand) in
    let one = mul-le-mul_right (c.max-to.result - c.loop-place.from) few in
    omega (arith, one, high, c.requires.fine)

pub loop-place-preserved : goal.loop-place-preserved
loop-place-preserved c =
    let line = c.args.line.now in
    let e = c.args.moments.now in
    let D = c.args.unit in
    let k = c.loop-place.place in
    let from = c.loop-place.from in
    let to = c.max-to.result in
    let l : k < length line.columns = omega (arith, c.loop-place-test.true, ap length c.columns-columns.ensures) in
    let least = least_le D e c.holders.result.now in
    let high : to ≤ D = omega (arith, c.max-to.ensures, c.least_of.ensures, least, c.loop-place.invariant.within) in
    let is = c.least_of.ensures ∙ ap (least_of D e) c.holders.ensures in
    record {
      within = high;
      reached = λ market i w h. line_reached market i w line e h D k c.least_of.result from to l is c.max-to.ensures (c.loop-place.invariant.reached market i w h);
      row = λ market i w h. (let before = c.loop-place.invariant.reached market i w h in
          let after = line_reached market i w line e h D k c.least_of.result from to l is c.max-to.ensures before in
          let value = ap (λ d. d * (to - from)) c.demand.ensures ∙ line_share market i w line e h D k from to l c.loop-place.invariant.within high before after in
          let read = same_column market i w line e h k in
          let column : get_or c.columns-columns.result.now k 0 ≡ get_or w.list k 0 = ap (λ xs. get_or xs k 0) c.columns-columns.ensures ∙ read in
          let inside = c.requires.inside k 0 l in
          let room : c.args.start + get_or w.list k 0 < length c.loop-place.units = omega (arith, inside, read, c.loop-place.auto.units) in
          let g = share market D e i in
          subst (λ a. IsRow g (take (k + 1) w.list) c.args.start c.args.units.now (set c.loop-place.units (c.args.start + a) (c.demand.result * (to - from)))) (sym column)
          (row_more g w.list k c.args.start (c.demand.result * (to - from)) c.args.units.now c.loop-place.units (line_inside market i w line e h k l) room value (c.loop-place.invariant.row market i w h)));
    }

pub returns : goal.returns
returns c market i w h =
    row_all (share market c.args.unit c.args.moments.now i) w.list c.loop-place.place c.args.start c.args.units.now c.loop-place.units
    (omega (arith, c.loop-place-test.false, ap length c.columns-columns.ensures, ap length h.is_line.columns)) (c.loop-place.invariant.row market i w h)
