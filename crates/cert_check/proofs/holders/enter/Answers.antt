use Rattle.std.proofs.Common.{◌≡◌, ℕ, ◌<◌, ◌++◌, [], ◌∷◌, List, Vec, Global, length, get_or, set, ap, sym, ◌∙◌, arith}
use Rattle.std.proofs.lemmas.List.{map-set, length-map, get_or-map}
use Rattle.definitions.specs.Sets.{cell_of}
use Rattle.cert_check.specs.HolderTables.{lists_of, times_in}
use Rattle.cert_check.proofs.SetLists.{entered_more}
use Rattle.cert_check.proofs.holders.enter.Goals as goal

pub loop-i-preserved : goal.loop-i-preserved
loop-i-preserved c = λ place s l.
    let many : length (lists_of c.loop-i.lists) ≡ length c.loop-i.lists = length-map c.loop-i.lists (λ (list : Vec ℕ Global). list.items) in
    let within : c.place_of-place.result < length c.loop-i.lists =
    omega (arith, c.place_of-place.ensures, c.requires c.loop-i.i (cell_of 0 0) c.loop-i-test.true, c.loop-i.auto.lists) in
    let read : get_or (lists_of c.loop-i.lists) c.place_of-place.result [] ≡ (get_or c.loop-i.lists c.place_of-place.result c.index-lists-place.result).items =
    get_or-map (λ (list : Vec ℕ Global). list.items) c.loop-i.lists c.place_of-place.result c.index-lists-place.result [] within in
    let pushed : c.push.new.self.items ≡ get_or (lists_of c.loop-i.lists) c.place_of-place.result [] ++ c.args.index ∷ [] =
    c.in_ok-push.ensures.items ∙ ap (λ (items : List ℕ). items ++ c.args.index ∷ []) (sym read) in
    let written : lists_of (set c.loop-i.lists c.place_of-place.result c.push.new.self) ≡ set (lists_of c.loop-i.lists) c.place_of-place.result (get_or (lists_of c.loop-i.lists) c.place_of-place.result [] ++ c.args.index ∷ []) =
    map-set (λ (list : Vec ℕ Global). list.items) c.loop-i.lists c.place_of-place.result c.push.new.self
    ∙ ap (λ (items : List ℕ). set (lists_of c.loop-i.lists) c.place_of-place.result items) pushed in
    ap (λ lists. times_in lists place s) written
    ∙ entered_more (lists_of c.loop-i.lists) c.args.cells.now c.loop-i.i c.place_of-place.result place s c.args.index (times_in (lists_of c.args.lists.now) place s) (cell_of 0 0) c.loop-i-test.true c.place_of-place.ensures (omega (arith, many, within)) (c.loop-i.invariant place s l)
