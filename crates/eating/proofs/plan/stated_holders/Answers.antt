use Rattle.std.proofs.Common.{◌-◌, ◌∙◌, ◌∷◌, ◌++◌, [], ap, sym, map, append_assoc}
use Rattle.definitions.specs.Trees.{chain_of}
use Rattle.side_laws.proofs.Trees.{parent_known}
use Rattle.eating.proofs.Walks.{chain_next, chain_end, chain_shorter}
use Rattle.eating.proofs.plan.stated_holders.Goals as goal

pub loop-next-smaller : goal.loop-next-smaller
loop-next-smaller c =
    chain_shorter c.args.problem.now.family c.args.trees.now c.list.ensures.lawful.family c.requires.trees c.loop-next.next c.parent-next.result c.in-Some.set
    c.in-Some.is (c.loop-next.invariant.known c.in-Some.set c.in-Some.is) c.parent-next.ensures.value

pub loop-next-preserved : goal.loop-next-preserved
loop-next-preserved c =
    let known = c.loop-next.invariant.known c.in-Some.set c.in-Some.is in
    let next = chain_next c.args.problem.now.family c.args.trees.now c.list.ensures.lawful.family c.requires.trees c.loop-next.next c.parent-next.result c.in-Some.set c.in-Some.is known c.parent-next.ensures.value in
    record {
      known = λ s e. parent_known c.args.problem.now.family c.list.ensures.lawful.family.lawful c.args.trees.now c.requires.trees c.in-Some.set known s (sym c.parent-next.ensures.value ∙ e);
      rest =
          ap (λ items. items ++ map (λ s. s - 1) (chain_of c.args.trees.now c.parent-next.result)) c.in_ok-push.ensures.items
          ∙ append_assoc c.loop-next.holders.items ((c.in-Some.set - 1) ∷ []) (map (λ s. s - 1) (chain_of c.args.trees.now c.parent-next.result))
          ∙ ap (λ chain. c.loop-next.holders.items ++ map (λ s. s - 1) chain) (sym next) ∙ c.loop-next.invariant.rest;
    }

pub returns : goal.returns
returns c = chain_end c.args.trees.now c.loop-next.next c.in_default.is c.loop-next.holders.items ∙ c.loop-next.invariant.rest
