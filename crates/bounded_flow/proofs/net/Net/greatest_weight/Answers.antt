use Rattle.std.proofs.Common.{◌≡◌, ◌≤◌, ◌⊎◌, ℕ, List, All, arith}
use Rattle.std.specs.Prelude.{Any}
use Rattle.bounded_flow.specs.declared.edge.Edge.{Edge}
use Rattle.key_queue.specs.declared.key.Falling.{Falling}
use Rattle.bounded_flow.specs.Ranks.{IsRanked}
use Rattle.bounded_flow.proofs.Ranking.{most_of_keys, some_of_keys}
use Rattle.bounded_flow.proofs.Shown.{shown_lawful}
use Rattle.bounded_flow.proofs.Weights.{IsGreatestGap, gap_below, greatest_fits, greatest_tight}
use Rattle.bounded_flow.proofs.net.Net.greatest_weight.Goals as goal

-- the greatest gap of the edges, from their keys
greatest_of : (edges : List Edge) (keys : List Falling) (g : ℕ) → IsRanked edges keys → All (λ (x : Falling). x.0 ≤ g) keys → (g ≡ 0) ⊎ Any (λ (x : Falling). x.0 ≡ g) keys → IsGreatestGap edges g
greatest_of edges keys g ranked most attained = record { most = most_of_keys edges keys ranked g most; attained = some_of_keys edges keys ranked g attained }

pub overflow_sub-result : goal.overflow_sub-result
overflow_sub-result c =
    let greatest = greatest_of c.self.inside.edges.items c.self.inside.gaps c.greatest_gap.result c.self.invariant.ranked c.greatest_gap.ensures.most c.greatest_gap.ensures.attained in
    let below = gap_below c.self.inside c.args.self.now c.self.view_is c.self.invariant.web c.requires.rounds c.requires.some c.greatest_gap.result greatest in
    omega (arith, below)

pub returns-clause-one : goal.returns-clause-one
returns-clause-one c =
    let greatest = greatest_of c.self.inside.edges.items c.self.inside.gaps c.greatest_gap.result c.self.invariant.ranked c.greatest_gap.ensures.most c.greatest_gap.ensures.attained in
    let below = gap_below c.self.inside c.args.self.now c.self.view_is c.self.invariant.web c.requires.rounds c.requires.some c.greatest_gap.result greatest in
    omega (arith, below)

pub returns-clause-fits : goal.returns-clause-fits
returns-clause-fits c =
    let greatest = greatest_of c.self.inside.edges.items c.self.inside.gaps c.greatest_gap.result c.self.invariant.ranked c.greatest_gap.ensures.most c.greatest_gap.ensures.attained in
    greatest_fits c.self.inside c.args.self.now c.self.view_is c.self.invariant.web c.requires.rounds c.requires.some c.greatest_gap.result greatest

pub returns-clause-tight : goal.returns-clause-tight
returns-clause-tight c =
    let greatest = greatest_of c.self.inside.edges.items c.self.inside.gaps c.greatest_gap.result c.self.invariant.ranked c.greatest_gap.ensures.most c.greatest_gap.ensures.attained in
    greatest_tight c.self.inside c.args.self.now c.self.view_is c.self.invariant.web c.requires.rounds c.requires.some c.greatest_gap.result greatest

pub returns-clause-lawful : goal.returns-clause-lawful
returns-clause-lawful c = shown_lawful c.self.inside c.args.self.now c.self.view_is c.self.invariant.web
