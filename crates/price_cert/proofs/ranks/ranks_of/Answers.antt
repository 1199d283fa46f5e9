-- One rank more.
use Rattle.std.proofs.Common.{◌≡◌, ◌∙◌, Some, length, sym, subst}
use Rattle.std.proofs.lemmas.List.{with_items_is}
use Rattle.price_cert.specs.Ranks.{rank_in, AreRanksFound}
use Rattle.price_cert.proofs.RankSteps.{pushed}
use Rattle.price_cert.proofs.ranks.ranks_of.Goals as goal

pub loop-set-preserved : goal.loop-set-preserved
loop-set-preserved c =
    let size : length c.rank_of.new.found ≡ c.loop-set.found.len = c.rank_of.auto.found ∙ c.deref_mut.ensures.len in
    record {
      ranks = pushed (λ s. rank_in c.args.numbers.now c.args.top c.args.trees.now (Some s)) c.loop-set.set c.loop-set.ranks.items c.push.new.self.items c.rank_of.result
          c.in_ok-push.ensures.items c.loop-set.invariant.ranks c.rank_of.ensures.rank;
      found = subst (AreRanksFound c.args.numbers.now c.args.top c.args.trees.now) (sym (with_items_is c.loop-set.found c.rank_of.new.found size)) c.rank_of.ensures.found;
    }
