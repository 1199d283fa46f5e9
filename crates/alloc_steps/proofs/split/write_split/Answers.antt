-- The lottery that is written splits the shares.
use Rattle.std.proofs.Common.{List, ℕ, [], None, subst}
use Rattle.definitions.specs.Peelings.{PeelerValue, sets_of}
use Rattle.definitions.specs.Lotteries.{Splits}
use Rattle.peeling.specs.Peelers.{IsPeeler, IsStart}
use Rattle.alloc_steps.specs.Writing.{lottery_with, WritesPieces}
use Rattle.alloc_steps.proofs.Decomposed.{begun}
use Rattle.alloc_steps.proofs.Splitting.{kept_at, split_written}
use Rattle.alloc_steps.proofs.split.write_split.Goals as goal

pub returns-clause-lottery : goal.returns-clause-lottery
returns-clause-lottery g c =
    let v : PeelerValue = c.in_ok-peeler.peeler in
    let start : IsStart c.args.family.now c.args.x.now v = kept_at (IsStart c.args.family.now c.args.x.now) _ c.new-peeler.result c.map_err.result v c.new-peeler.ensures.start c.map_err.ensures.cases c.map_err.ensures.variant c.in_ok-peeler.was in
    let lawful : IsPeeler v = kept_at IsPeeler _ c.new-peeler.result c.map_err.result v c.new-peeler.ensures.lawful c.map_err.ensures.cases c.map_err.ensures.variant c.in_ok-peeler.was in
    let written = g.K.Sink.written in
    let old = written c.args.out.now in
    let new = written c.write_peeled.new.out in
    let did : WritesPieces v.columns (sets_of v) v.rest v.left (lottery_with c.args.shares.now.agents c.args.shares.now.objects c.args.x.now [] None) old new c.write_peeled.result =
    subst (λ (names : List (List ℕ)). WritesPieces v.columns (sets_of v) v.rest v.left (lottery_with c.args.shares.now.agents names c.args.x.now [] None) old new c.write_peeled.result) c.objects.ensures.value
    (subst (λ (names : List (List ℕ)). WritesPieces v.columns (sets_of v) v.rest v.left (lottery_with names c.objects.result.now c.args.x.now [] None) old new c.write_peeled.result) c.agents-2.ensures.value c.write_peeled.ensures.pieces) in
    begun written (Splits c.args.shares.now c.args.family.now) c.args.out.now c.write_peeled.new.out c.write_peeled.result
    (split_written written c.args.shares.now c.args.family.now c.args.x.now v c.args.out.now c.write_peeled.new.out c.write_peeled.result
    c.requires.scaled c.agents.ensures.lawful c.requires.plain c.requires.agents c.requires.columns start lawful did)
