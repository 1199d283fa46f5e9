use Rattle.std.proofs.Common.{◌≡◌, get_or, length, ap, arith, ◌∙◌}
use Rattle.std.proofs.lemmas.List.{get_or_default}
use Rattle.csv.proofs.RecordFacts.{cut-length, field-bounds}
use Rattle.table_text.proofs.CutFacts.{cut-field}
use Rattle.table_text.proofs.row.Row.field.Goals as goal

pub start_of-start-requires : goal.start_of-start-requires
start_of-start-requires c =
    let size = cut-length 0 c.self.inside.ends.items c.self.inside.bytes.items in
    let there = rw (← c.self.view_is) at c.requires in
    rw c.as_slice.ensures.value (omega (arith, size, there))

pub index-requires : goal.index-requires
index-requires c =
    let size = cut-length 0 c.self.inside.ends.items c.self.inside.bytes.items in
    let there = rw (← c.self.view_is) at c.requires in
    omega (arith, size, there, c.self.inside.ends.ok.0)

pub slice_bounds-result-count : goal.slice_bounds-result-count
slice_bounds-result-count c =
    let there = rw (← c.self.view_is, cut-length 0 c.self.inside.ends.items c.self.inside.bytes.items) at c.requires in
    let end = c.index.ensures ∙ get_or_default c.self.inside.ends.items c.args.index c.index.result.now 0 there in
    let start = rw c.as_slice.ensures.value at c.start_of-start.ensures in
    let f = field-bounds 0 c.self.inside.ends.items (length c.self.inside.bytes.items) c.args.index c.self.invariant.0 there in
    omega (arith, start, end, f.0)

pub slice_bounds-result-start : goal.slice_bounds-result-start
slice_bounds-result-start c =
    let there = rw (← c.self.view_is, cut-length 0 c.self.inside.ends.items c.self.inside.bytes.items) at c.requires in
    let end = c.index.ensures ∙ get_or_default c.self.inside.ends.items c.args.index c.index.result.now 0 there in
    let start = rw c.as_slice.ensures.value at c.start_of-start.ensures in
    let f = field-bounds 0 c.self.inside.ends.items (length c.self.inside.bytes.items) c.args.index c.self.invariant.0 there in
    omega (arith, start, end, f.0, f.1, ap length c.as_slice-2.ensures.value)

pub slice_bounds-result-end : goal.slice_bounds-result-end
slice_bounds-result-end c =
    let there = rw (← c.self.view_is, cut-length 0 c.self.inside.ends.items c.self.inside.bytes.items) at c.requires in
    let end = c.index.ensures ∙ get_or_default c.self.inside.ends.items c.args.index c.index.result.now 0 there in
    let start = rw c.as_slice.ensures.value at c.start_of-start.ensures in
    let f = field-bounds 0 c.self.inside.ends.items (length c.self.inside.bytes.items) c.args.index c.self.invariant.0 there in
    omega (arith, start, end, f.0, f.1, ap length c.as_slice-2.ensures.value)

pub returns : goal.returns
returns c =
    let there = rw (← c.self.view_is, cut-length 0 c.self.inside.ends.items c.self.inside.bytes.items) at c.requires in
    let end : c.index.result.now ≡ get_or c.self.inside.ends.items c.args.index 0 =
    c.index.ensures ∙ get_or_default c.self.inside.ends.items c.args.index c.index.result.now 0 there in
    let start = rw c.as_slice.ensures.value at c.start_of-start.ensures in
    rw (← c.self.view_is, c.as_slice-2.ensures.value, start, end) (cut-field c.self.inside.ends.items c.self.inside.bytes.items c.args.index there)
