use Rattle.std.proofs.Common.{◌/◌, ◌%◌, ◌∙◌, sym, ap, arith, inl, inr}
use Rattle.std.specs.Ordering.{is_ne}
use Rattle.frac128.proofs.Euclid.{quotients_differ, quotients_agree, quotients_decide, remainders_decide, remainders_end, turned}
use Rattle.frac128.proofs.fractions.compare.Goals as goal

pub returns-then-is_ne : goal.returns-then-is_ne
returns-then-is_ne c =
    let l = c.loop-by_quotient in
    let apart = quotients_differ (l.a / l.b) (l.c / l.d) (ap is_ne (sym c.cmp-by_quotient.ensures) ∙ sym c.is_ne.ensures ∙ c.if-is_ne.true) in
    c.cmp-by_quotient.ensures ∙ quotients_decide l.a l.b l.c l.d l.invariant.b_positive l.invariant.d_positive apart ∙ l.invariant.same

pub returns-then-of_first-eq0 : goal.returns-then-of_first-eq0
returns-then-of_first-eq0 c =
    let l = c.loop-by_quotient in
    let same = quotients_agree (l.a / l.b) (l.c / l.d) (ap is_ne (sym c.cmp-by_quotient.ensures) ∙ sym c.is_ne.ensures ∙ c.if-is_ne.false) in
    c.cmp.ensures
    ∙ remainders_end (l.a % l.b) (l.c % l.d) l.b l.d l.invariant.b_positive l.invariant.d_positive (elim c.then-of_first-eq0.either [ inl e ↦ inl e | inr e ↦ inr e.1 ])
    ∙ remainders_decide l.a l.b l.c l.d same
    ∙ l.invariant.same

pub loop-by_quotient-preserved : goal.loop-by_quotient-preserved
loop-by_quotient-preserved c =
    let l = c.loop-by_quotient in
    let same = quotients_agree (l.a / l.b) (l.c / l.d) (ap is_ne (sym c.cmp-by_quotient.ensures) ∙ sym c.is_ne.ensures ∙ c.if-is_ne.false) in
    record {
      b_positive = omega arith;
      d_positive = omega arith;
      same = turned l.a l.b l.c l.d same ∙ l.invariant.same;
    }
