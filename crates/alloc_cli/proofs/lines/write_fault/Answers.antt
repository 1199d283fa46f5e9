use Rattle.std.proofs.Common.{List, ℕ, ◌++◌, ◌∷◌, [], refl}
use Rattle.std.specs.Prelude.{codes, decimal}
use Rattle.alloc_cli.specs.Lines.{fields_text}
use Rattle.alloc_cli.proofs.PartsLemmas.{append-number, writes-after, writes-refused}
use Rattle.alloc_cli.proofs.lines.write_fault.Goals as goal
use Rattle.cert_check.specs.Faults.{fault_fields}
use Rattle.cert_check.specs.declared.faults.Fault.{Fault}

rest : Fault → List ℕ
rest fault = fields_text (fault_fields fault) ++ 10 ∷ []

pub returns-in_err-write_parts : goal.returns-in_err-write_parts
unfolding rest
returns-in_err-write_parts g c =
    rw (← c.number-number.ensures) (writes-refused g.E.Sink (rest c.args.fault) c.in_err-write_parts.ensures c.from_residual.ensures.1
    (append-number (codes "audit failed: ") (decimal c.number-number.result) (rest c.args.fault)))

pub returns-in_err-write_fields : goal.returns-in_err-write_fields
unfolding rest
returns-in_err-write_fields g c =
    rw (← c.number-number.ensures) (writes-after g.E.Sink c.in_ok-write_parts.ensures
    (writes-refused g.E.Sink {t = rest c.args.fault} _ c.in_err-write_fields.ensures c.from_residual-in_err-write_fields.ensures.1 refl)
    (append-number (codes "audit failed: ") (decimal c.number-number.result) (rest c.args.fault)))

pub returns : goal.returns
unfolding rest
returns g c =
    rw (← c.number-number.ensures) (writes-after g.E.Sink c.in_ok-write_parts.ensures
    (writes-after g.E.Sink {t = rest c.args.fault} c.in_ok-write_fields.ensures c.write_parts-2.ensures refl)
    (append-number (codes "audit failed: ") (decimal c.number-number.result) (rest c.args.fault)))
