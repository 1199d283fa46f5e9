use Rattle.std.proofs.Common.{arith}
use Rattle.std.proofs.lemmas.Nat.{leading_length}
use Rattle.seed_draw.proofs.DigitsLemmas.{binary_digits_unique}
use Rattle.seed_draw.proofs.seed.digit_count.Goals as goal

pub returns-clause-value : goal.returns-clause-value
returns-clause-value c =
    let found = leading_length 128 c.args.number (omega arith) in
    let e = binary_digits_unique c.args.number found.0 (omega (arith, found.1)) found.2 found.3 in
    omega (arith, found.1, e)
