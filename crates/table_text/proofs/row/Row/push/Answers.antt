use Rattle.std.proofs.Common.{◌≡◌, length, ◌∙◌, rules, true}
use Rattle.std.specs.Result.{is_ok}
use Rattle.table_text.proofs.CutFacts.{rising-push, cut-push}
use Rattle.table_text.proofs.row.Row.push.Goals as goal

pub invariant_of-self-else-is_err : goal.invariant_of-self-else-is_err
invariant_of-self-else-is_err c =
    let extended : is_ok c.extend_from_slice.result ≡ true = search rules in
    let pushed : is_ok c.push.result ≡ true = search rules in
    let bytes = rw extended at c.extend_from_slice.ensures.items in
    let end : c.len-end.result ≡ length c.extend_from_slice.new.self.items = c.len-end.ensures ∙ c.extend_from_slice.new.self.ok.0 in
    let ends = rw (pushed, end) at c.push.ensures.items in
    rw (ends, bytes) (rising-push c.self.inside.ends.items c.self.inside.bytes.items c.args.field.now c.self.invariant.0)

pub returns-clause-ok : goal.returns-clause-ok
returns-clause-ok c =
    let extended : is_ok c.extend_from_slice.result ≡ true = search rules in
    let pushed : is_ok c.push.result ≡ true = search rules in
    let bytes = rw extended at c.extend_from_slice.ensures.items in
    let end : c.len-end.result ≡ length c.extend_from_slice.new.self.items = c.len-end.ensures ∙ c.extend_from_slice.new.self.ok.0 in
    let ends = rw (pushed, end) at c.push.ensures.items in
    rw (← c.self.view_is, ends, bytes) (cut-push c.self.inside.ends.items c.self.inside.bytes.items c.args.field.now c.self.invariant.0 c.self.invariant.1)
