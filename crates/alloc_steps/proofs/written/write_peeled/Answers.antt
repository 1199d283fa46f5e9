-- Piece by piece up to the end.
use Rattle.std.proofs.Common.{List, ◌∙◌, ◌≤◌, ℕ, arith, subst}
use Rattle.std.proofs.lemmas.Result.{err_from_is_err_and}
use Rattle.definitions.specs.Peelings.{IsStep}
use Rattle.device_core.proofs.Continuing.{counts_continued}
use Rattle.peeling.specs.Peelers.{IsPeeler}
use Rattle.alloc_steps.proofs.Loop.{so_far_start, so_far_next, so_far_refused, so_far_ended, few_so_far}
use Rattle.alloc_steps.proofs.written.write_peeled.Goals as goal

pub loop-weight-init : goal.loop-weight-init
loop-weight-init g c = record {
  so_far = so_far_start _ _ _ _ _ _ _ _ _ c.write_head-state.ensures.bytes;
  flushed = c.write_head-state.ensures.flushed;
  counted = c.write_head-state.ensures.cause;
}

pub overflow_add-number : goal.overflow_add-number
overflow_add-number g c =
    let step = c.in-Some.ensures.step.1 in
    let few : c.loop-weight.number ≤ 203000 = few_so_far _ _ _ _ _ _ _ _ _ _ _ c.loop-weight.invariant.so_far c.requires.lawful (omega (arith, step.weight, step.left)) in
    omega arith

pub loop-weight-preserved : goal.loop-weight-preserved
loop-weight-preserved g c =
    let m : List ℕ = c.in-Some.ensures.step.0 in
    let step : IsStep c.loop-weight.peeler c.next.new.self c.in-Some.weight m = c.in-Some.ensures.step.1 in
    let did = c.write_given-state.ensures.bytes m step.piece in
    record {
      so_far = so_far_next _ _ _ _ _ _ _ _ _ _ _ _ _ _ _ _ c.loop-weight.invariant.so_far step did;
      flushed = c.write_given-state.ensures.flushed ∙ c.loop-weight.invariant.flushed;
      counted = counts_continued _ _ _ _ _ _ _ _ _ _ _ c.loop-weight.invariant.counted c.write_given-state.ensures.cause did;
    }

pub returns-in_err-state-clause-pieces : goal.returns-in_err-state-clause-pieces
returns-in_err-state-clause-pieces g c =
    let stays = c.in_default.ensures.step in
    let p = err_from_is_err_and c.from_residual.result c.from_residual.ensures.1 in
    rw (p.1, p.2) (so_far_refused _ _ _ _ _ _ _ _ _ _ _ (rw c.in_err-state.was at c.loop-weight.invariant.so_far) (subst IsPeeler stays.1 c.in_default.ensures.lawful) stays.0)

pub returns-clause-pieces : goal.returns-clause-pieces
returns-clause-pieces g c =
    let stays = c.in_default.ensures.step in
    so_far_ended _ _ _ _ _ _ _ _ _ _ _ _ _ (rw c.in_ok-state.was at c.loop-weight.invariant.so_far) (subst IsPeeler stays.1 c.in_default.ensures.lawful) stays.0 c.write_end.ensures.bytes
