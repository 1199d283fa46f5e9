use Rattle.std.proofs.lemmas.Result.{on_ok_weaker}
use Rattle.table_text.proofs.WritingFacts.{escaped_once, escaped_twice}
use Rattle.table_text.proofs.writing.push_escaped.Goals.{then-byte-eq34+in_ok-push_byte, else-byte-eq34}
use Rattle.table_text.proofs.writing.push_escaped.Goals as goal

pub returns-clause-text : goal.returns-clause-text
returns-clause-text c = elim c.if-byte-eq34.branch [
  | then-byte-eq34+in_ok-push_byte w ↦
      on_ok_weaker c.push_byte-2.result (λ h. escaped_twice c.args.into.now.items c.if-byte-eq34.into.items _ c.args.byte w.if-byte-eq34.true (rw w.into-is w.in_ok-push_byte.ensures.text) h) c.push_byte-2.ensures.text
  | else-byte-eq34 w ↦
      on_ok_weaker c.push_byte-2.result (λ h. escaped_once c.args.into.now.items _ c.args.byte w.if-byte-eq34.false (rw w.into-is at h)) c.push_byte-2.ensures.text
]
