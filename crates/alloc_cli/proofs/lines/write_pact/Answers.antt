use Rattle.alloc_cli.proofs.lines.write_pact.Goals as goal

pub returns : goal.returns
returns g c = rw (← c.number-kind.ensures) c.write_parts.ensures
