use Rattle.std.proofs.Common.{◌≡◌, ◌++◌, ◌∷◌, ◌∙◌, [], Ok, true, false, ap, length, arith, rules, subst, sym}
use Rattle.std.specs.Result.{is_ok}
use Rattle.std.proofs.lemmas.List.{append-nil, append_assoc}
use Rattle.table_text.specs.Rows.{IsTextOf}
use Rattle.table_text.proofs.rows.records.Goals as goal

pub loop-row-init : goal.loop-row-init
loop-row-init c = rw c.new-rows.ensures.items c.new-reader.ensures.text

pub returns-then-not-branch : goal.returns-then-not-branch
returns-then-not-branch c =
    let found : c.read.result ≡ Ok false = search rules in
    let none : c.loop-row.reader ≡ [] = c.read.ensures.end found in
    subst (IsTextOf c.args.bytes.now) (ap (λ left. c.loop-row.rows.items ++ left) none ∙ append-nil c.loop-row.rows.items) c.loop-row.invariant

pub loop-row-preserved : goal.loop-row-preserved
loop-row-preserved c =
    let found : c.read.result ≡ Ok true = search rules in
    let pushed : is_ok c.push.result ≡ true = search rules in
    let items = rw pushed at c.push.ensures.items in
    let more = c.read.ensures.more found in
    subst (IsTextOf c.args.bytes.now)
    (ap (λ left. c.loop-row.rows.items ++ left) more
    ∙ sym (append_assoc c.loop-row.rows.items (c.read.new.row ∷ []) c.read.new.self)
    ∙ ap (λ rows. rows ++ c.read.new.self) (sym items)) c.loop-row.invariant

pub loop-row-smaller : goal.loop-row-smaller
loop-row-smaller c =
    let found : c.read.result ≡ Ok true = search rules in
    let more = ap length (c.read.ensures.more found) in
    omega (arith, more)
