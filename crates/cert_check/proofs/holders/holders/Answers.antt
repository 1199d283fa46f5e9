use Rattle.std.proofs.Common.{◌≡◌, ℕ, ◌<◌, ◌*◌, List, Vec, Global, length, ap, ◌∙◌, arith}
use Rattle.std.proofs.lemmas.List.{length-map, with_items_is}
use Rattle.cert_check.specs.HolderTables.{lists_of, times_in}
use Rattle.cert_check.specs.PieceFaults.{cells_in_set}
use Rattle.cert_check.proofs.PieceCounts.{set_read}
use Rattle.cert_check.proofs.SetLists.{all_entered, before_sets, lists_empty, set_entered, set_places}
use Rattle.cert_check.proofs.holders.holders.Goals as goal

pub loop-index-init : goal.loop-index-init
loop-index-init c = record {
  many = omega (arith, c.in_ok-lists.ensures.many, c.agents.ensures.value);
  times = λ place s l. lists_empty (lists_of c.in_ok-lists.lists.items) place s c.in_ok-lists.ensures.empty ∙ before_sets s _;
}

pub enter-requires : goal.enter-requires
enter-requires c =
    let found = rw c.unwrap.ensures at c.get.ensures.value in
    let cells : c.cells-cells.result.now ≡ cells_in_set c.args.family.now c.loop-index.index = set_read c.args.family.now c.loop-index.index c.unwrap.result.now c.cells-cells.result.now found c.cells-cells.ensures.value in
    let many : length c.deref_mut.result.now ≡ c.args.family.now.agents * 201 = ap (λ (lists : List (Vec ℕ Global)). length lists) c.deref_mut.ensures.value ∙ c.loop-index.invariant.many in
    set_places c.args.family.now c.loop-index.index (length c.deref_mut.result.now) c.cells-cells.result.now c.get.ensures.lawful (omega arith) cells many

pub loop-index-preserved : goal.loop-index-preserved
loop-index-preserved c =
    let size : length c.enter.new.lists ≡ c.loop-index.lists.len = c.enter.auto.lists ∙ c.deref_mut.ensures.len in
    let many : length c.enter.new.lists ≡ c.args.family.now.agents * 201 = c.enter.auto.lists ∙ ap (λ (lists : List (Vec ℕ Global)). length lists) c.deref_mut.ensures.value ∙ c.loop-index.invariant.many in
    let found = rw c.unwrap.ensures at c.get.ensures.value in
    let cells : c.cells-cells.result.now ≡ cells_in_set c.args.family.now c.loop-index.index = set_read c.args.family.now c.loop-index.index c.unwrap.result.now c.cells-cells.result.now found c.cells-cells.ensures.value in
    rw (with_items_is c.loop-index.lists c.enter.new.lists size) (record {
      many = many;
      times = λ place s l.
          let inside : place < length c.deref_mut.result.now = omega (arith, l, many, c.enter.auto.lists) in
          set_entered c.args.family.now c.loop-index.index place s (times_in (lists_of c.deref_mut.result.now) place s) (times_in (lists_of c.enter.new.lists) place s) c.cells-cells.result.now cells
          (ap (λ (lists : List (Vec ℕ Global)). times_in (lists_of lists) place s) c.deref_mut.ensures.value ∙ c.loop-index.invariant.times place s l) (c.in_ok-enter.ensures place s inside);
    })

pub returns : goal.returns
returns c = all_entered c.args.family.now (lists_of c.loop-index.lists.items) c.loop-index.index (omega arith) (length-map c.loop-index.lists.items (λ (list : Vec ℕ Global). list.items) ∙ c.loop-index.invariant.many) c.loop-index.invariant.times
