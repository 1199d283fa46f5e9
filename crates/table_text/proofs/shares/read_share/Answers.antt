use Rattle.std.proofs.Common.{sym}
use Rattle.std.proofs.lemmas.Bool.{eqb-true}
use Rattle.table_text.proofs.ShareFacts.{share-empty, share-count, share-quotient, share-decimal}
use Rattle.table_text.proofs.SignedFacts.{some-length}
use Rattle.table_text.proofs.shares.read_share.Goals as goal

pub returns-then-is_empty-clause-value : goal.returns-then-is_empty-clause-value
returns-then-is_empty-clause-value c = share-empty c.args.text.now (eqb-true _ _ (sym c.if-is_empty.ensures))

pub returns-in-Some-clause-value : goal.returns-in-Some-clause-value
returns-in-Some-clause-value c = share-count c.args.text.now c.in-Some.count (some-length c.args.text.now c.if-is_empty.ensures) c.in-Some.ensures

pub returns-in-Some-read_quotient-clause-value : goal.returns-in-Some-read_quotient-clause-value
returns-in-Some-read_quotient-clause-value c =
    share-quotient c.args.text.now _ (some-length c.args.text.now c.if-is_empty.ensures) c.in_default.ensures c.in-Some-read_quotient.ensures.value

pub returns-clause-value : goal.returns-clause-value
returns-clause-value c =
    share-decimal c.args.text.now _ (some-length c.args.text.now c.if-is_empty.ensures) c.in_default.ensures c.in_default-read_quotient.ensures.value c.read_decimal.ensures.value
