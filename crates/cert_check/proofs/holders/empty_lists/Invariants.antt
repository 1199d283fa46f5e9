use Rattle.std.proofs.Common.{◌≡◌, [], All, length}
use Rattle.cert_check.specs.HolderTables.{lists_of}
use Rattle.cert_check.proofs.holders.empty_lists.Given as goal

abbrev pub invariant-loop : goal.invariant-loop
invariant-loop l = record {
  many : length l.lists.items ≡ l.counter;
  empty : All (λ list. list ≡ []) (lists_of l.lists.items);
}
