use Rattle.std.proofs.Common.{◌∙◌, ℕ, List, take, ap, sym, subst, arith}
use Rattle.std.specs.List.{concat}
use Rattle.std.proofs.lemmas.List.{take_all}
use Rattle.sha2.specs.Sha256.{sha256}
use Rattle.sha2.specs.Hashers.{Holds256}
use Rattle.seed_pact.specs.Commitments.{joint_seed_of}
use Rattle.seed_pact.proofs.Joins.{concat-more}
use Rattle.seed_pact.proofs.seeds.joint_seed.Goals as goal

pub loop-contribution-preserved : goal.loop-contribution-preserved
loop-contribution-preserved c =
    let all = c.deref-contribution-items.result.now in
    let i = c.loop-contribution.contribution-index in
    let step = c.update.ensures (concat (take i all)) c.loop-contribution.invariant in
    subst (λ (m : List ℕ). Holds256 c.update.new.self m) (sym (concat-more all i _ (omega arith))) step

pub returns : goal.returns
unfolding joint_seed_of
returns c =
    let all = c.deref-contribution-items.result.now in
    let i = c.loop-contribution.contribution-index in
    c.finalize.ensures (concat (take i all)) c.loop-contribution.invariant ∙ ap (λ (m : List (List ℕ)). sha256 (concat m)) (take_all i all (omega arith) ∙ c.deref-contribution-items.ensures.value)
