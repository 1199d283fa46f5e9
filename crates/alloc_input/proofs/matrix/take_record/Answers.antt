use Rattle.std.proofs.Common.{◌∙◌, sym, refl, true}
use Rattle.std.proofs.lemmas.Result.{err_from_is_err_and}
use Rattle.alloc_input.proofs.MatrixRecords.{matrix-blank, header-check, after-header-row, shares-check, after-shares}
use Rattle.alloc_input.proofs.Stops.{checks_along, passed-is, stops_along}
use Rattle.alloc_input.proofs.matrix.take_record.Goals as goal

pub returns-then-is_empty-clause-taken : goal.returns-then-is_empty-clause-taken
returns-then-is_empty-clause-taken c = λ earlier after. matrix-blank earlier _ c.args.state.now c.if-is_empty.ensures after

pub returns-then-state-clause-taken : goal.returns-then-state-clause-taken
returns-then-state-clause-taken c = λ earlier after.
    let s = c.args.state.now in
    checks_along _ _ _ _ _ (shares-check earlier _ s c.if-is_empty.ensures (passed-is _ _ _ c.in_ok-need.ensures.0 c.is_text.ensures) c.if-state.true after)
    (λ x h. after-shares earlier _ s (record { header = s.header; objects = s.objects; agents = c.take_shares.new.agents; entries = c.take_shares.new.entries }) c.if-is_empty.ensures c.if-state.true refl refl h.0 h.1 after)
    c.take_shares.ensures.taken

pub returns-in_err-state-clause-taken : goal.returns-in_err-state-clause-taken
returns-in_err-state-clause-taken c = λ earlier after.
    let p = err_from_is_err_and c.from_residual-in_err-state.result c.from_residual-in_err-state.ensures.1 in
    rw (p.1, p.2) (stops_along c.in_err-state.field-0.0 _ _ (header-check earlier _ c.args.state.now c.if-is_empty.ensures (passed-is _ _ _ c.in_ok-need.ensures.0 c.is_text.ensures) c.if-state.false after) c.in_err-state.ensures)

pub returns-clause-taken : goal.returns-clause-taken
returns-clause-taken c = λ earlier after.
    let s = c.args.state.now in (
      sym (header-check earlier _ s c.if-is_empty.ensures (passed-is _ _ _ c.in_ok-need.ensures.0 c.is_text.ensures) c.if-state.false after) ∙ c.in_ok-state.ensures.0,
      after-header-row earlier _ s (record { header = true; objects = c.in_ok-state.field-0; agents = s.agents; entries = s.entries }) c.if-is_empty.ensures c.if-state.false refl c.in_ok-state.ensures.1 refl refl after,
    )
