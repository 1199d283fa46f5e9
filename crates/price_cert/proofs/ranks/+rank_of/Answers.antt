-- The rank of no set, and of a set whose rank isn't known yet.
use Rattle.std.proofs.Common.{◌≡◌, ◌+◌, ◌-◌, ◌<◌, ◌≤◌, ◌∙◌, Some, IfSome, length, ap, sym, subst, refl, arith}
use Rattle.price_cert.specs.Ranks.{rank_in}
use Rattle.price_cert.proofs.RankSteps.{rank_of_none, rank_made, rank_found}
use Rattle.price_cert.proofs.ranks.+rank_of.Goals as goal

pub returns-in_default-clause-rank : goal.returns-in_default-clause-rank
returns-in_default-clause-rank t c =
    sym (ap (λ o. rank_in c.args.numbers.now c.args.top c.args.trees.now o) c.in_default.is ∙ rank_of_none c.args.numbers.now c.args.top c.args.trees.now)

pub returns-clause-rank : goal.returns-clause-rank
returns-clause-rank t c =
    let n = length c.args.numbers.now in
    let known : (0 < c.in-Some.set) × (c.in-Some.set ≤ length c.args.numbers.now) = subst (λ o. IfSome o (λ s. (0 < s) × (s ≤ length c.args.numbers.now))) c.in-Some.is c.requires.known in
    rank_made c.args.numbers.now c.args.top c.args.trees.now (length c.args.numbers.now) c.requires.climbable c.args.set c.in-Some.set c.rank_of-above.result _ c.min-rank.result
    c.in-Some.is known.0 known.1 (c.rank_of-above.ensures.rank ∙ ap (λ o. rank_in c.args.numbers.now c.args.top c.args.trees.now o) c.parent.ensures.value) refl c.min-rank.ensures

pub returns-clause-found : goal.returns-clause-found
returns-clause-found t c =
    let known : (0 < c.in-Some.set) × (c.in-Some.set ≤ length c.args.numbers.now) = subst (λ o. IfSome o (λ s. (0 < s) × (s ≤ length c.args.numbers.now))) c.in-Some.is c.requires.known in
    let place : c.in-Some.set ≡ c.in-Some.set - 1 + 1 = omega (arith, known.0) in
    rank_found c.args.numbers.now c.args.top c.args.trees.now (length c.args.numbers.now) c.requires.climbable c.rank_of-above.new.found (c.in-Some.set - 1) c.min-rank.result
    c.rank_of-above.ensures.found (omega (arith, known.0, known.1))
    (rank_made c.args.numbers.now c.args.top c.args.trees.now (length c.args.numbers.now) c.requires.climbable (Some (c.in-Some.set - 1 + 1)) c.in-Some.set c.rank_of-above.result _ c.min-rank.result
    (ap Some (sym place)) known.0 known.1 (c.rank_of-above.ensures.rank ∙ ap (λ o. rank_in c.args.numbers.now c.args.top c.args.trees.now o) c.parent.ensures.value) refl c.min-rank.ensures)
