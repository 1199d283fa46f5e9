use Rattle.std.proofs.Common.{◌*◌, ◌/◌, sym, subst, arith}
use Rattle.frac128.specs.Lcm.{IsLcm}
use Rattle.frac128.specs.Measure.{gcd_positive, IsLcm-from_gcd}
use Rattle.frac128.proofs.divisors.lcm_within.Goals as goal

pub nonzero_div-a : goal.nonzero_div-a
nonzero_div-a c = gcd_positive c.args.a c.args.b c.gcd.result c.gcd.ensures c.requires.b_positive

pub returns-in-Some-clause-within : goal.returns-in-Some-clause-within
returns-in-Some-clause-within c =
    let least = IsLcm-from_gcd c.args.a c.args.b c.gcd.result c.gcd.ensures c.requires.a_positive c.requires.b_positive in
    (subst (λ l. IsLcm c.args.a c.args.b l) (sym c.in-Some.ensures.1) least, omega arith)

pub returns-in-Some-2-clause-beyond : goal.returns-in-Some-2-clause-beyond
returns-in-Some-2-clause-beyond c =
    let least = IsLcm-from_gcd c.args.a c.args.b c.gcd.result c.gcd.ensures c.requires.a_positive c.requires.b_positive in
    record {
      multiple = c.args.a / c.gcd.result * c.args.b;
      least = least;
      above = omega (arith, c.in-Some.ensures);
      held = omega (arith, c.in-Some.ensures);
    }

pub returns-in-None-clause-beyond : goal.returns-in-None-clause-beyond
returns-in-None-clause-beyond c =
    let least = IsLcm-from_gcd c.args.a c.args.b c.gcd.result c.gcd.ensures c.requires.a_positive c.requires.b_positive in
    record {
      multiple = c.args.a / c.gcd.result * c.args.b;
      least = least;
      above = omega (arith, c.in-None.ensures);
      held = omega (arith, c.in-None.ensures);
    }
