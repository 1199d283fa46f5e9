use Rattle.alloc_cli.proofs.lines.write_input.Goals as goal

pub returns : goal.returns
returns g c = rw (← c.number-kind.ensures) c.write_parts.ensures
