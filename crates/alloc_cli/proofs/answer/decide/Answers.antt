use Rattle.alloc_cli.specs.Load.{bytes_of}
use Rattle.alloc_cli.proofs.OutcomesLemmas.{measured_part, steps-measured}
use Rattle.alloc_cli.proofs.answer.decide.Goals as goal
use Rattle.alloc_outcomes.proofs.StepsLemmas.{steps-in}

pub returns-in_err-check_lengths : goal.returns-in_err-check_lengths
returns-in_err-check_lengths g c =
    steps-measured g.K.Sink c.args.command (bytes_of c.args.given.now) _ _ _ c.in_err-check_lengths.ensures c.from_residual.ensures.1

pub returns : goal.returns
returns g c = steps-in g.K.Sink (measured_part c.args.command (bytes_of c.args.given.now) c.in_ok-check_lengths.ensures) c.step.ensures
