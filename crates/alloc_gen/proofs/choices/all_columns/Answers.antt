use Rattle.std.proofs.Common.{ℕ, ◌+◌, List, [], ◌∷◌, ◌++◌, ◌∙◌, ap, sym, arith}
use Rattle.std.specs.List.{range_with_len}
use Rattle.std.proofs.lemmas.List.{map-id}
use Rattle.std.proofs.lemmas.List.FromFn.{map-range_with_len_more}
use Rattle.alloc_gen.proofs.choices.all_columns.Goals as goal

pub loop-column-preserved : goal.loop-column-preserved
loop-column-preserved c =
    let n = c.loop-column.column in
    c.in_ok-push.ensures.items
    ∙ ap (λ (l : List ℕ). l ++ n ∷ []) (c.loop-column.invariant ∙ sym (map-id (range_with_len 0 n)))
    ∙ sym (map-range_with_len_more (λ (i : ℕ). i) 0 n n (omega arith))
    ∙ map-id (range_with_len 0 (n + 1))
