use Rattle.std.proofs.Common.{◌≡◌, length, arith}
use Rattle.std.proofs.lemmas.Bool.Decides.{nat_tests}
use Rattle.seed_pact.specs.Reading.{held}
use Rattle.seed_pact.proofs.RecordFacts.{blank-passes}
use Rattle.seed_pact.proofs.records.take_record.Goals as goal

pub returns-then-is_empty : goal.returns-then-is_empty
returns-then-is_empty c =
    let none : length c.args.row.now ≡ 0 = grind (arith, nat_tests) in
    blank-passes (held c.args.state.now) c.args.row.now none
