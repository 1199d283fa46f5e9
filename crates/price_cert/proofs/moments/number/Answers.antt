-- Where the moments rise, as many are below one as stand before its place.
use Rattle.std.proofs.Common.{◌+◌, ltb, ap, sym, rules, arith}
use Rattle.std.proofs.lemmas.List.Sorted.{IsPartitionPoint-from_clause, IsPartitionedBy-ltb}
use Rattle.price_cert.proofs.Rising.{count_front, rising_weakly}
use Rattle.price_cert.proofs.moments.number.Goals as goal

pub returns : goal.returns
returns c =
    let p = IsPartitionPoint-from_clause (λ m. ltb m c.args.moment) _ _ c.partition_point.ensures.partitioned
    (IsPartitionedBy-ltb (λ m. m) _ c.args.moment (rising_weakly _ c.requires.rise)) (λ a r f h. search rules) in
    let count = count_front (λ m. ltb m c.args.moment) c.args.order.now c.partition_point.result c.partition_point.ensures.bound (λ k l. p.0 k 0 (omega arith) l) (λ k l m. p.1 k 0 l m) in
    ap (λ n. n + 1) (sym count)
