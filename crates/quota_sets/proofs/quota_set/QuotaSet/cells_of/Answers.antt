use Rattle.std.proofs.Common.{◌-◌, List, length, take, drop, ltb, leb, sym, rules}
use Rattle.std.proofs.lemmas.List.{take_rest}
use Rattle.std.proofs.lemmas.List.Sorted.{IsPartitionPoint-from_clause, IsPartitionedBy-leb, IsPartitionedBy-ltb}
use Rattle.definitions.specs.declared.Cell.{Cell}
use Rattle.definitions.specs.Sets.{IsRising}
use Rattle.quota_sets.proofs.RunLemmas.{rising_agents, rest_rises, run_is_filter}
use Rattle.quota_sets.proofs.quota_set.QuotaSet.cells_of.Goals as goal

pub returns-clause-value : goal.returns-clause-value
returns-clause-value c =
    let cells : List Cell = c.cells-cells.result.now in
    let start = c.partition_point-start.result in
    let rise : IsRising cells = rw c.cells-cells.ensures.value c.cells-cells.ensures.lawful.rise in
    let agents = rising_agents cells rise in
    let rest = take_rest cells start in
    let later = rw (sym rest) at (rest_rises cells start agents) in
    let first = IsPartitionPoint-from_clause (λ (w : Cell). ltb w.agent c.args.agent) _ _ c.partition_point-start.ensures.partitioned
    (IsPartitionedBy-ltb (λ (w : Cell). w.agent) cells c.args.agent agents) (λ a r q k. search rules) in
    let second = IsPartitionPoint-from_clause (λ (w : Cell). leb w.agent c.args.agent) _ _ c.partition_point-end.ensures.partitioned
    (IsPartitionedBy-leb (λ (w : Cell). w.agent) (take (length cells - start) (drop start cells)) c.args.agent later) (λ a r q k. search rules) in
    rw (rest, ← c.cells-cells.ensures.value) (run_is_filter (λ (w : Cell). w.agent) cells c.args.agent start c.partition_point-end.result first (rw rest at second))
