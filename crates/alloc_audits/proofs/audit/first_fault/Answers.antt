use Rattle.std.proofs.Common.{ℕ, List, Vec, Global, ap, length, map, subst, sym}
use Rattle.alloc_audits.proofs.SoundAudits.{shape_as, shape_of_problem, small_prices}
use Rattle.alloc_audits.proofs.VerdictsLemmas.{is_pass}
use Rattle.alloc_audits.proofs.audit.first_fault.Goals as goal
use Rattle.cert_check.specs.PriceFaults.{AreSmall}
use Rattle.definitions.specs.Certificate.{HasShapeOf}
use Rattle.definitions.specs.Values.{PricesValue}
use Rattle.lottery_file.specs.Lotteries.{lottery_value}

pub check_prices-requires-clause-shape : goal.check_prices-requires-clause-shape
check_prices-requires-clause-shape c =
    let p = c.args.problem.now in
    let l = lottery_value c.args.lottery.now in
    let passes = (c.check_shape.ensures.pass).0 (is_pass c.check_shape.result tt c.in_ok-passed.ensures) in
    let s = shape_as p l (map (λ (list : Vec ℕ Global). list.items) c.deref.result.now) (length c.args.prices.now.price.items)
    (ap (λ (vs : List (Vec ℕ Global)). map (λ (list : Vec ℕ Global). list.items) vs) c.deref.ensures.value) (ap (λ (y : PricesValue). length y.price) c.requires.prices) passes in
    subst (HasShapeOf p) (sym c.requires.prices) (shape_of_problem p l c.stated-stated.ensures.lawful c.requires.lawful s)

pub check_prices-requires-clause-small : goal.check_prices-requires-clause-small
check_prices-requires-clause-small c =
    let p = c.args.problem.now in
    let l = lottery_value c.args.lottery.now in
    let passes = (c.check_shape.ensures.pass).0 (is_pass c.check_shape.result tt c.in_ok-passed.ensures) in
    let s = shape_as p l (map (λ (list : Vec ℕ Global). list.items) c.deref.result.now) (length c.args.prices.now.price.items)
    (ap (λ (vs : List (Vec ℕ Global)). map (λ (list : Vec ℕ Global). list.items) vs) c.deref.ensures.value) (ap (λ (y : PricesValue). length y.price) c.requires.prices) passes in
    subst AreSmall (sym c.requires.prices) (small_prices p l c.stated-stated.ensures.lawful c.requires.lawful s)
