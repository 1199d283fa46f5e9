-- How many moments there are, and the ways up.
use Rattle.std.proofs.Common.{◌≡◌, ◌≤◌, ◌∙◌, List, ℕ, length, ap, sym, subst, arith}
use Rattle.std.proofs.lemmas.List.{length-map}
use Rattle.definitions.specs.Sets.{ScaledValue}
use Rattle.price_cert.specs.Moments.{number_in}
use Rattle.price_cert.specs.Ranks.{IsClimbable}
use Rattle.price_cert.proofs.NumbersAgree.{moments_many}
use Rattle.price_cert.proofs.RecipeAgrees.{climbable, order_few, numbering_of}
use Rattle.price_cert.proofs.recipe.recipe_of.Goals as goal

pub numbers_of-requires-clause-few : goal.numbers_of-requires-clause-few
numbers_of-requires-clause-few c =
    let end : c.denominator-end.result ≡ c.args.eaten.now.shares.denominator = c.denominator-end.ensures.value ∙ ap (λ (x : ScaledValue). x.denominator) c.shares.ensures.value in
    let n = numbering_of c.args.eaten.now c.denominator-end.result c.moments.result.now c.caps.result.now c.in_ok-order.order.items end c.moments.ensures.value c.caps.ensures.value c.in_ok-order.ensures in
    subst (λ (xs : List ℕ). length xs ≤ 202000) (sym c.deref.ensures.value)
    (order_few c.args.problem.now c.requires.eaten.0 c.args.eaten.now c.in_ok-order.order.items c.width_of-width.ensures.lawful c.requires.eaten.1 n)

pub ranks_of-requires-clause-climbable : goal.ranks_of-requires-clause-climbable
ranks_of-requires-clause-climbable c =
    let many : length c.deref-2.result.now ≡ c.args.problem.now.stated =
    ap length c.deref-2.ensures.value ∙ ap length c.in_ok-numbers.ensures ∙ length-map c.moments-2.result.now (number_in c.deref.result.now) ∙ ap length c.moments-2.ensures.value
    ∙ moments_many c.args.problem.now c.width_of-width.ensures.lawful c.requires.eaten.0 c.args.eaten.now c.requires.eaten.1 in
    subst (IsClimbable c.args.trees.now) (sym many) (climbable c.args.problem.now c.width_of-width.ensures.lawful c.args.trees.now c.requires.trees)

pub ranks_of-requires-clause-few : goal.ranks_of-requires-clause-few
ranks_of-requires-clause-few c =
    let many : length c.deref-2.result.now ≡ c.args.problem.now.stated =
    ap length c.deref-2.ensures.value ∙ ap length c.in_ok-numbers.ensures ∙ length-map c.moments-2.result.now (number_in c.deref.result.now) ∙ ap length c.moments-2.ensures.value
    ∙ moments_many c.args.problem.now c.width_of-width.ensures.lawful c.requires.eaten.0 c.args.eaten.now c.requires.eaten.1 in
    let limit = c.width_of-width.ensures.lawful.stated_limit in
    omega (arith, many, limit)
