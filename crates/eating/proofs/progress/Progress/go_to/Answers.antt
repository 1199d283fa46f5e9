use Rattle.std.proofs.Common.{◌≡◌, ◌-◌, ◌*◌, arith, ap, sym, ◌∙◌, subst}
use Rattle.std.specs.Prelude.{◌/◌}
use Rattle.frac128.specs.Lcm.{IsLcm}
use Rattle.frac128.specs.Fraction.{numerator, denominator}
use Rattle.eating.proofs.Going.{going}
use Rattle.eating.proofs.progress.Progress.go_to.Goals as goal

pub overflow_mul-at : goal.overflow_mul-at
overflow_mul-at c =
    let g = going c.args.self.now.unit c.args.self.now.at c.args.self.now.moments.items c.args.self.now.rests.items c.args.self.now.speeds.items c.requires.within c.args.moment c.requires.earliest c.in_ok-unit.unit
    c.den.result c.den-2.result c.num.result c.den.ensures c.den-2.ensures c.num.ensures c.in_ok-unit.ensures.within.0 in
    omega (arith, g.below, c.in_ok-unit.ensures.within.1)

pub overflow_sub-at : goal.overflow_sub-at
overflow_sub-at c =
    let g = going c.args.self.now.unit c.args.self.now.at c.args.self.now.moments.items c.args.self.now.rests.items c.args.self.now.speeds.items c.requires.within c.args.moment c.requires.earliest c.in_ok-unit.unit
    c.den.result c.den-2.result c.num.result c.den.ensures c.den-2.ensures c.num.ensures c.in_ok-unit.ensures.within.0 in
    g.after

pub advance-requires-clause-positive : goal.advance-requires-clause-positive
advance-requires-clause-positive c =
    let g = going c.args.self.now.unit c.args.self.now.at c.args.self.now.moments.items c.args.self.now.rests.items c.args.self.now.speeds.items c.requires.within c.args.moment c.requires.earliest c.in_ok-unit.unit
    c.den.result c.den-2.result c.num.result c.den.ensures c.den-2.ensures c.num.ensures c.in_ok-unit.ensures.within.0 in
    g.positive

pub advance-requires-clause-before_end : goal.advance-requires-clause-before_end
advance-requires-clause-before_end c =
    let g = going c.args.self.now.unit c.args.self.now.at c.args.self.now.moments.items c.args.self.now.rests.items c.args.self.now.speeds.items c.requires.within c.args.moment c.requires.earliest c.in_ok-unit.unit
    c.den.result c.den-2.result c.num.result c.den.ensures c.den-2.ensures c.num.ensures c.in_ok-unit.ensures.within.0 in
    omega (arith, g.below, g.after, g.one)

pub advance-requires-clause-fine : goal.advance-requires-clause-fine
advance-requires-clause-fine c =
    let g = going c.args.self.now.unit c.args.self.now.at c.args.self.now.moments.items c.args.self.now.rests.items c.args.self.now.speeds.items c.requires.within c.args.moment c.requires.earliest c.in_ok-unit.unit
    c.den.result c.den-2.result c.num.result c.den.ensures c.den-2.ensures c.num.ensures c.in_ok-unit.ensures.within.0 in
    omega (arith, g.one, c.in_ok-unit.ensures.within.1)

pub advance-requires-clause-slow : goal.advance-requires-clause-slow
advance-requires-clause-slow c =
    let g = going c.args.self.now.unit c.args.self.now.at c.args.self.now.moments.items c.args.self.now.rests.items c.args.self.now.speeds.items c.requires.within c.args.moment c.requires.earliest c.in_ok-unit.unit
    c.den.result c.den-2.result c.num.result c.den.ensures c.den-2.ensures c.num.ensures c.in_ok-unit.ensures.within.0 in
    g.unpassed

pub returns-clause-step : goal.returns-clause-step
returns-clause-step c =
    let old = c.args.self.now in
    let unit = c.in_ok-unit.unit in
    let g = going old.unit old.at old.moments.items old.rests.items old.speeds.items c.requires.within c.args.moment c.requires.earliest unit
    c.den.result c.den-2.result c.num.result c.den.ensures c.den-2.ensures c.num.ensures c.in_ok-unit.ensures.within.0 in
    let factor = unit / old.unit in
    let at = c.num.result * (unit / c.den-2.result) in
    let same : c.advance.new.self.unit ≡ unit = c.advance.ensures.unit ∙ g.one in
    let there : c.advance.new.self.at ≡ at = (let after = g.after in omega (arith, c.advance.ensures.at, after)) in
    record {
      factor = factor;
      step = at - factor * old.at;
      positive = g.positive;
      unit = c.advance.ensures.unit;
      fine = omega (arith, same, c.in_ok-unit.ensures.within.1);
      at = c.advance.ensures.at;
      least = subst (λ n. IsLcm old.unit (denominator c.args.moment) n) (sym same) (subst (λ n. IsLcm old.unit n unit) c.den.ensures c.in_ok-unit.ensures.within.0);
      value = ap (λ n. n * denominator c.args.moment) there ∙ g.value ∙ ap (λ n. numerator c.args.moment * n) (sym same);
      limits = c.advance.ensures.limits;
      speeds = c.advance.ensures.speeds;
      places = c.advance.ensures.places;
    }
