use Rattle.std.proofs.Common.{sym}
use Rattle.std.proofs.lemmas.Bool.{leb-true}
use Rattle.frac128.specs.Fraction.{numerator, denominator}
use Rattle.alloc_input.proofs.EntryFacts.{limit-kept}
use Rattle.alloc_input.proofs.Stops.{passed-is}
use Rattle.alloc_input.proofs.matrix.shares.read_entry.Goals as goal

pub returns-clause-limited : goal.returns-clause-limited
returns-clause-limited c =
    limit-kept (numerator c.new.result) (denominator c.new.result) c.in-Some.num c.in-Some.den c.in-Some.ensures.positive c.new.ensures
    (leb-true _ _ (sym (passed-is _ _ _ c.in_ok-need.ensures.0 c.is_within_limit.ensures)))
